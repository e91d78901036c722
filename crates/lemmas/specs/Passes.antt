-- A row's walk through a good table in which no two splits share a child: through which nodes it passes. It passes through a split's child exactly where it passes through the split and
-- goes that way, and of all leaves through the one in which it ends. And the level of a node. Assumes nothing.
use Prim.Native.Nat.{ℕ, zero, suc, ◌+◌, ◌<◌, ◌≤◌}
use Rattle.std.proofs.Common.{not-suc-le-zero, le_of_suc-le-suc, zero-add, add-zero, arith, ◌∙◌, subst, inl, inr, eqb→eq}
use Rattle.std.proofs.Math.Decide.{ℕ_discrete}
use Rattle.std.specs.Prelude.{◌≡◌, ◌≢◌, ◌⊎◌, Bool, not, ◌&&◌, ◌||◌, List, [], ◌∷◌, get_or, T, Float}
use Rattle.std.proofs.Math.Path.{refl, sym, ap}
use Rattle.std.proofs.Math.Bool.{true, false, cond, true≢false, or-true, or-false, or_self}
use Rattle.std.proofs.Math.ListN.{length}
use Rattle.std.proofs.Math.Dec.{eqb, eqb_refl, eqb-suc-zero, not_T}
use Rattle.std.specs.Float.Ieee.Fits.{and_l, and_r, and_i}
use Rattle.floats.specs.Order.{or_l, or_r, or_split}
use Rattle.rules.specs.Lent.{Entry}
use Rattle.rules.specs.Table.{is_leaf, good_tree}
use Rattle.rules.specs.Reading.{no_entry, onto, walked}
use Rattle.lemmas.specs.Lists.{is_true, is_false}
use Rattle.lemmas.specs.Once.{eqb_yes, eqb_no}
use Rattle.lemmas.specs.Tables.{Onward, node-good, onto-leaf, onto-child, stays, onto-up}

-- ---- the nodes of a walk

-- the walk from node n comes to node k within f steps
unfoldable pub comes : ℕ → List Entry → List Float → ℕ → ℕ → Bool
comes zero es xs n k = eqb n k
comes (suc f) es xs n k = eqb n k || comes f es xs (onto (get_or es n no_entry) xs n) k

-- a row with values xs passes through node k on its walk from the root; in a good tree as many steps as there are nodes come to a leaf
unfoldable pub passes : List Entry → List Float → ℕ → Bool
passes es xs k = comes (length es) es xs 0 k

-- ---- the level of a node

-- a split sends to its two children
unfoldable pub sends_to : ℕ → Entry → Bool
sends_to k e = not (is_leaf e) && (eqb e.true_child k || eqb e.false_child k)

-- of the entries from place p on the first that sends to node k
unfoldable pub sender_from : ℕ → ℕ → List Entry → ℕ
sender_from k p [] = p
sender_from k p (e ∷ es) = cond (sends_to k e) p (sender_from k (suc p) es)

-- at most f splits up to the root
unfoldable pub level_up : ℕ → List Entry → ℕ → ℕ
level_up zero es k = 1
level_up (suc f) es k = cond (eqb k 0) 1 (suc (level_up f es (sender_from k 0 es)))

-- the root has level 1, and any other node one level more than the split that sends to it
unfoldable pub level_in : List Entry → ℕ → ℕ
level_in es k = level_up (length es) es k

-- ---- where a walk ends

walk_from : (f : ℕ) (es : List Entry) (xs : List Float) (n : ℕ) → comes f es xs n (walked f es xs n) ≡ true
unfolding comes walked
walk_from zero es xs n = eqb_yes n n refl
walk_from (suc f) es xs n = ap (λ z. eqb n (walked (suc f) es xs n) || z) (walk_from f es xs (onto (get_or es n no_entry) xs n)) ∙ or-true (eqb n (walked (suc f) es xs n))

-- a row passes through the node in which it ends
pub walk-passes : (es : List Entry) (xs : List Float) → passes es xs (walked (length es) es xs 0) ≡ true
unfolding passes
walk-passes es xs = walk_from (length es) es xs 0

leaf-from : (f : ℕ) (es : List Entry) (xs : List Float) (n k : ℕ) → is_leaf (get_or es k no_entry) ≡ true → comes f es xs n k ≡ true → k ≡ walked f es xs n
unfolding comes walked
leaf-from zero es xs n k l h = sym (eqb→eq n k (subst T (sym h) tt))
leaf-from (suc f) es xs n k l h = go (eqb n k) refl h (leaf-from f es xs next k l)
  where
    next : ℕ
    next = onto (get_or es n no_entry) xs n

    go : (b : Bool) → eqb n k ≡ b → (b || comes f es xs next k) ≡ true → (comes f es xs next k ≡ true → k ≡ walked f es xs next) → k ≡ walked (suc f) es xs n
    go true q h rest = subst (λ m. k ≡ walked (suc f) es xs m) (sym (eqb→eq n k (subst T (sym q) tt))) (sym (stays es xs (suc f) k l))
    go false q h rest = rest h

-- and through no other leaf
pub one-leaf : (es : List Entry) (xs : List Float) (k : ℕ) → is_leaf (get_or es k no_entry) ≡ true → passes es xs k ≡ true → k ≡ walked (length es) es xs 0
unfolding passes
one-leaf es xs k l h = leaf-from (length es) es xs 0 k l h

-- ---- from a split to its children

-- a walk comes to the node from which it starts
starts : (f : ℕ) (es : List Entry) (xs : List Float) (n : ℕ) → comes f es xs n n ≡ true
unfolding comes
starts zero es xs n = eqb_yes n n refl
starts (suc f) es xs n = ap (λ z. z || comes f es xs (onto (get_or es n no_entry) xs n) n) (eqb_yes n n refl)

-- and from a leaf to nothing else
leaf-comes : (f : ℕ) (es : List Entry) (xs : List Float) (n k : ℕ) → is_leaf (get_or es n no_entry) ≡ true → comes f es xs n k ≡ eqb n k
unfolding comes
leaf-comes zero es xs n k l = refl
leaf-comes (suc f) es xs n k l =
    ap (λ m. eqb n k || comes f es xs m k) (onto-leaf (get_or es n no_entry) xs n l)
    ∙ ap (λ z. eqb n k || z) (leaf-comes f es xs n k l)
    ∙ or_self (eqb n k)

-- a split sends to where a row goes
sends-onto : (e : Entry) (xs : List Float) (k : ℕ) → is_leaf e ≡ false → T (sends_to (onto e xs k) e)
unfolding sends_to
sends-onto e xs k l = and_i (not (is_leaf e)) _ (subst (λ b. T (not b)) (sym l) tt) (go (onto e xs k) (onto-child e xs k l))
  where
    go : (m : ℕ) → (m ≡ e.true_child) ⊎ (m ≡ e.false_child) → T (eqb e.true_child m || eqb e.false_child m)
    go m (inl q) = or_l (eqb e.true_child m) (eqb e.false_child m) (subst (λ c. T (eqb c m)) q (eqb_refl m))
    go m (inr q) = or_r (eqb e.true_child m) (eqb e.false_child m) (subst (λ c. T (eqb c m)) q (eqb_refl m))

-- what it sends to is one of its two children
pub sends-child : (c : ℕ) (e : Entry) → T (sends_to c e) → (is_leaf e ≡ false) × ((c ≡ e.true_child) ⊎ (c ≡ e.false_child))
unfolding sends_to
sends-child c e t = (
  is_false (is_leaf e) (and_l (not (is_leaf e)) (eqb e.true_child c || eqb e.false_child c) t),
  elim (or_split (eqb e.true_child c) (eqb e.false_child c) (and_r (not (is_leaf e)) (eqb e.true_child c || eqb e.false_child c) t))
      [ inl q ↦ inl (sym (eqb→eq e.true_child c q)) | inr q ↦ inr (sym (eqb→eq e.false_child c q)) ],
)

-- ---- up to the root

up_root : (f : ℕ) (es : List Entry) → level_up f es 0 ≡ 1
unfolding level_up
up_root zero es = refl
up_root (suc f) es = refl

first-sender : (k : ℕ) (es : List Entry) (o p : ℕ) → p < length es → T (sends_to k (get_or es p no_entry)) → ((i : ℕ) → i < p → sends_to k (get_or es i no_entry) ≡ false)
    → sender_from k o es ≡ o + p
unfolding sender_from
first-sender k [] o p h t none = absurd (not-suc-le-zero h)
first-sender k (e ∷ es) o zero h t none = ap (λ z. cond z o (sender_from k (suc o) es)) (is_true (sends_to k e) t) ∙ sym (add-zero o)
first-sender k (e ∷ es) o (suc p) h t none =
    ap (λ z. cond z o (sender_from k (suc o) es)) (none 0 (omega arith))
    ∙ first-sender k es (suc o) p (le_of_suc-le-suc h) t (λ i b. none (suc i) (omega arith))
    ∙ shift o p
  where
    shift : (o p : ℕ) → suc o + p ≡ o + suc p
    shift o p = omega arith

-- ---- a good table in which no two splits share a child

module _ (features : ℕ) (es : List Entry) (good : T (good_tree features es))
    (apart : (k k' c : ℕ) → k < length es → k' < length es → T (sends_to c (get_or es k no_entry)) → T (sends_to c (get_or es k' no_entry)) → k ≡ k') where
  abbrev node_on : ℕ → Entry
  node_on k = get_or es k no_entry

  -- a walk only rises
  rises : (xs : List Float) (f m k : ℕ) → k < m → m < length es → comes f es xs m k ≡ false
  unfolding comes
  rises xs zero m k a h = eqb_no m k (λ q. omega arith)
  rises xs (suc f) m k a h = go (is_leaf (node_on m)) refl (λ p b i. rises xs f p k b i)
    where
      other : eqb m k ≡ false
      other = eqb_no m k (λ q. omega arith)

      go : (z : Bool) → is_leaf (node_on m) ≡ z → ((p : ℕ) → k < p → p < length es → comes f es xs p k ≡ false) → comes (suc f) es xs m k ≡ false
      go true l ih = leaf-comes (suc f) es xs m k l ∙ other
      go false l ih = let (up, inside) = onto-up features es good xs m h l in (λ i. other i || ih (onto (node_on m) xs m) (omega arith) inside i)

  -- split k sends to node c
  module _ (xs : List Float) (k c : ℕ) (known : k < length es) (sends : T (sends_to c (node_on k))) where
    split : is_leaf (node_on k) ≡ false
    split = (sends-child c (node_on k) sends).0

    -- whether a row goes there from k
    abbrev goes_there : Bool
    goes_there = eqb (onto (node_on k) xs k) c

    -- what is shown of a walk from node n
    abbrev Comes : ℕ → ℕ → Type 0
    Comes f n = comes f es xs n c ≡ (eqb n c || (comes f es xs n k && goes_there))

    -- one step, from the split itself or from another, which does not send to c
    one_on : (f n : ℕ) → n < length es → is_leaf (node_on n) ≡ false → Comes f (onto (node_on n) xs n) → Dec (n ≡ k)
        → comes f es xs (onto (node_on n) xs n) c ≡ ((eqb n k || comes f es xs (onto (node_on n) xs n) k) && goes_there)
    one_on f n h l ih (yes q) =
        ih ∙ (λ i. eqb (onto (node_on (q i)) xs (q i)) c || (past i && goes_there)) ∙ or-false goes_there
        ∙ sym (ap (λ z. (z || comes f es xs (onto (node_on n) xs n) k) && goes_there) (eqb_yes n k q))
      where
        past : comes f es xs (onto (node_on n) xs n) k ≡ false
        past = let (up, inside) = onto-up features es good xs n h l in rises xs f (onto (node_on n) xs n) k (omega arith) inside
    one_on f n h l ih (no d) =
        ih ∙ ap (λ z. z || (comes f es xs (onto (node_on n) xs n) k && goes_there)) elsewhere ∙ sym (ap (λ z. (z || comes f es xs (onto (node_on n) xs n) k) && goes_there) (eqb_no n k d))
      where
        elsewhere : eqb (onto (node_on n) xs n) c ≡ false
        elsewhere = eqb_no (onto (node_on n) xs n) c (λ q. d (apart n k c h known (subst (λ m. T (sends_to m (node_on n))) q (sends-onto (node_on n) xs n l)) sends))

    comes-there : (f n : ℕ) → n < length es → length es ≤ n + f → Comes f n
    unfolding comes
    comes-there zero n h r = absurd (omega arith)
    comes-there (suc f) n h r = go (is_leaf (node_on n)) refl (λ m i a. comes-there f m i a)
      where
        other : is_leaf (node_on n) ≡ true → eqb n k ≡ false
        other l = eqb_no n k (λ q. true≢false (sym l ∙ ap (λ m. is_leaf (node_on m)) q ∙ split))

        go : (z : Bool) → is_leaf (node_on n) ≡ z → ((m : ℕ) → m < length es → length es ≤ m + f → Comes f m) → Comes (suc f) n
        go true l ih =
            leaf-comes (suc f) es xs n c l
            ∙ sym (or-false (eqb n c))
            ∙ sym (ap (λ z. eqb n c || (z && goes_there)) (leaf-comes (suc f) es xs n k l ∙ other l))
        go false l ih = let (up, inside) = onto-up features es good xs n h l in ap (λ z. eqb n c || z) (one_on f n h l (ih (onto (node_on n) xs n) inside (omega arith)) (ℕ_discrete n k))

    -- a row passes through a split's child where it passes through the split and goes there
    pub passes-child : passes es xs c ≡ (passes es xs k && goes_there)
    unfolding passes
    passes-child = comes-there (length es) 0 (omega arith) (omega arith) ∙ ap (λ z. z || (comes (length es) es xs 0 k && goes_there)) (eqb_no 0 c (above (sends-child c (node_on k) sends).1))
      where
        g : Onward features (length es) k (node_on k)
        g = node-good features es good k known split

        above : (c ≡ (node_on k).true_child) ⊎ (c ≡ (node_on k).false_child) → 0 ≢ c
        above (inl e) q = omega (arith, e, g.above)
        above (inr e) q = omega (arith, e, g.next)

  pub passes-root : (xs : List Float) → passes es xs 0 ≡ true
  unfolding passes
  passes-root xs = starts (length es) es xs 0

  pub level-root : level_in es 0 ≡ 1
  unfolding level_in
  level-root = up_root (length es) es

  -- the split that sends to node k is the only one, so the first
  sender-is : (k p : ℕ) → p < length es → T (sends_to k (node_on p)) → sender_from k 0 es ≡ p
  sender-is k p h t = first-sender k es 0 p h t none ∙ zero-add p
    where
      none : (i : ℕ) → i < p → sends_to k (node_on i) ≡ false
      none i b = is_false (sends_to k (node_on i)) (not_T (sends_to k (node_on i)) (λ u. omega (arith, apart i p k (omega arith) h u t)))

  -- levels that start with 1 and go up by one at each split are these
  pub level-is : (level : ℕ → ℕ) → level 0 ≡ 1
      → ((k : ℕ) → 0 < k → k < length es → (p : ℕ) × (p < k) × T (sends_to k (get_or es p no_entry)) × (level k ≡ suc (level p)))
      → (k : ℕ) → k < length es → level_in es k ≡ level k
  unfolding level_in level_up
  level-is level one up k h = go (length es) k (omega arith) h
    where
      go : (f k : ℕ) → k ≤ f → k < length es → level_up f es k ≡ level k
      go zero k a h = sym (ap level (omega arith) ∙ one)
      go (suc f) zero a h = sym one
      go (suc f) (suc k) a h =
          let (p, below, sends, next) = up (suc k) (omega arith) h in
          ap (λ z. cond z 1 (suc (level_up f es (sender_from (suc k) 0 es)))) (eqb-suc-zero k)
          ∙ ap (λ m. suc (level_up f es m)) (sender-is (suc k) p (omega arith) sends)
          ∙ ap suc (go f p (omega arith) (omega arith))
          ∙ sym next
