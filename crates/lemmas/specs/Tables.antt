-- Good tables: a walk through one ends at a leaf inside it, within as many steps as it has nodes; and what a fit grows is one. Assumes nothing.
use Prim.Native.Nat.{ℕ, zero, suc, ◌+◌, ◌<◌, ◌≤◌}
use Rattle.std.proofs.Common.{not-suc-le-zero, le_of_suc-le-suc, zero-add, add-zero, sym, ap, ◌∙◌, subst, inl, inr, ltb→lt, lt→ltb, eqb→eq}
use native.Mathlib.Omega.{arith}
use Rattle.std.specs.Prelude.{◌≡◌, ◌⊎◌, Bool, true, false, ◌&&◌, ◌||◌, cond, List, [], ◌∷◌, length, get_or, T, ltb, eqb, Float}
use Rattle.std.proofs.Math.Path.{refl}
use Rattle.std.proofs.Math.Dec.{eqb_refl}
use Rattle.std.specs.Float.{nan}
use Rattle.std.specs.Float.Ieee.{le}
use Rattle.std.specs.Float.Ieee.Fits.{and_l, and_r, and_i}
use Rattle.rules.specs.declared.Params.{Params}
use Rattle.rules.specs.declared.Fork.{Fork}
use Rattle.rules.specs.declared.Kind.{Kind}
use Rattle.rules.specs.declared.Kind.TheVariants.{Leaf, Split}
use Rattle.rules.specs.Totals.{value_of}
use Rattle.rules.specs.Lent.{Data, OneTree, Entry}
use Rattle.rules.specs.Growth.{TreeNode}
use Rattle.rules.specs.Fit.{entry_of, entries, fit}
use Rattle.rules.specs.Table.{is_leaf, good_entry, good_from, good_tree}
use Rattle.rules.specs.Reading.{no_entry, onto, walked}
use Rattle.lemmas.specs.Lists.{or-other}
use Rattle.lemmas.specs.Outs.{Then, then-after}
use Rattle.lemmas.specs.Passed.{and4}
use Rattle.lemmas.specs.Nodes.{no_node, kind_at}
use Rattle.lemmas.specs.Splits.{Divides, Stands}
use Rattle.lemmas.specs.Root.{Listed, fit-stands}

-- ---- node by node

good-at : (features n k : ℕ) (rs : List Entry) → T (good_from features n k rs) → (i : ℕ) → i < length rs → T (good_entry features n (k + i) (get_or rs i no_entry))
unfolding good_from
good-at features n k [] t i h = absurd (not-suc-le-zero h)
good-at features n k (r ∷ rs) t zero h = subst (λ m. T (good_entry features n m r)) (sym (add-zero k)) (and_l (good_entry features n k r) (good_from features n (suc k) rs) t)
good-at features n k (r ∷ rs) t (suc i) h =
    subst (λ m. T (good_entry features n m (get_or rs i no_entry))) (shift k i) (good-at features n (suc k) rs (and_r (good_entry features n k r) (good_from features n (suc k) rs) t) i (le_of_suc-le-suc h))
  where
    shift : (k i : ℕ) → suc k + i ≡ k + suc i
    shift k i = omega arith

good-from : (features n k : ℕ) (rs : List Entry) → ((i : ℕ) → i < length rs → T (good_entry features n (k + i) (get_or rs i no_entry))) → T (good_from features n k rs)
unfolding good_from
good-from features n k [] h = tt
good-from features n k (r ∷ rs) h =
    and_i (good_entry features n k r) (good_from features n (suc k) rs)
    (subst (λ m. T (good_entry features n m r)) (add-zero k) (h 0 (first (length rs))))
    (good-from features n (suc k) rs (λ i b. subst (λ m. T (good_entry features n m (get_or rs i no_entry))) (shift k i) (h (suc i) (next i (length rs) b))))
  where
    first : (n : ℕ) → 0 < suc n
    first n = omega arith

    shift : (k i : ℕ) → k + suc i ≡ suc k + i
    shift k i = omega arith

    next : (i n : ℕ) → i < n → suc i < suc n
    next i n h = omega arith

-- a split of a good tree of n nodes, at node k
pub record Onward (features n k : ℕ) (r : Entry) : Type 0 where
  pub above : k < r.true_child
  pub next : r.false_child ≡ suc r.true_child
  pub inside : r.false_child < n
  pub known : r.feature < features

pub node-good : (features : ℕ) (rs : List Entry) → T (good_tree features rs) → (k : ℕ) → k < length rs → is_leaf (get_or rs k no_entry) ≡ false → Onward features (length rs) k (get_or rs k no_entry)
unfolding good_tree good_entry
node-good features rs t k h l =
    let r : Entry = get_or rs k no_entry in
    let (a, b, c, d) = and4 (ltb k r.true_child) (eqb r.false_child (suc r.true_child)) (ltb r.false_child (length rs)) (ltb r.feature features)
    (or-other (is_leaf r) _ l (subst (λ m. T (good_entry features (length rs) m r)) (zero-add k)
    (good-at features (length rs) 0 rs (and_r (ltb 0 (length rs)) (good_from features (length rs) 0 rs) t) k h))) in
    record {
      above = ltb→lt k r.true_child a;
      next = eqb→eq r.false_child (suc r.true_child) b;
      inside = ltb→lt r.false_child (length rs) c;
      known = ltb→lt r.feature features d;
    }

-- ---- the walk

pub onto-leaf : (e : Entry) (xs : List Float) (k : ℕ) → is_leaf e ≡ true → onto e xs k ≡ k
unfolding onto
onto-leaf e xs k q = rw q refl

-- from a split a row goes to one of its children
pub onto-child : (e : Entry) (xs : List Float) (k : ℕ) → is_leaf e ≡ false → (onto e xs k ≡ e.true_child) ⊎ (onto e xs k ≡ e.false_child)
unfolding onto
onto-child e xs k q = rw q (go (le (get_or xs e.feature nan) e.threshold))
  where
    go : (b : Bool) → (cond b e.true_child e.false_child ≡ e.true_child) ⊎ (cond b e.true_child e.false_child ≡ e.false_child)
    go true = inl refl
    go false = inr refl

-- a leaf is stayed at, whether the tree is good or not
pub stays : (rs : List Entry) (xs : List Float) (f k : ℕ) → is_leaf (get_or rs k no_entry) ≡ true → walked f rs xs k ≡ k
unfolding walked
stays rs xs zero k h = refl
stays rs xs (suc f) k h = ap (walked f rs xs) (onto-leaf (get_or rs k no_entry) xs k h) ∙ stays rs xs f k h

module _ (features : ℕ) (rs : List Entry) (good : T (good_tree features rs)) (xs : List Float) where
  abbrev row_on : ℕ → Entry
  row_on k = get_or rs k no_entry

  pub leaf-stays : (f k : ℕ) → is_leaf (row_on k) ≡ true → walked f rs xs k ≡ k
  leaf-stays = stays rs xs

  -- from a split a row goes up, and stays inside
  pub onto-up : (k : ℕ) → k < length rs → is_leaf (row_on k) ≡ false → (k < onto (row_on k) xs k) × (onto (row_on k) xs k < length rs)
  onto-up k h q = go (onto (row_on k) xs k) (onto-child (row_on k) xs k q)
    where
      g : Onward features (length rs) k (row_on k)
      g = node-good features rs good k h q

      go : (m : ℕ) → (m ≡ (row_on k).true_child) ⊎ (m ≡ (row_on k).false_child) → (k < m) × (m < length rs)
      go m (inl e) = (omega (arith, e, g.above), omega (arith, e, g.next, g.inside))
      go m (inr e) = (omega (arith, e, g.next, g.above), omega (arith, e, g.inside))

  pub record Ends (m : ℕ) : Type 0 where
    pub inside : m < length rs
    pub leaf : is_leaf (row_on m) ≡ true

  ends-from : (f k : ℕ) → k < length rs → length rs ≤ k + f → Ends (walked f rs xs k)
  unfolding walked
  ends-from zero k h b = absurd (out (length rs) k h b)
    where
      out : (n k : ℕ) → k < n → n ≤ k + 0 → ⊥
      out n k a b = omega arith
  ends-from (suc f) k h b = go (is_leaf (row_on k)) refl (λ m a c. ends-from f m a c)
    where
      next : (n k m : ℕ) → k < m → n ≤ k + suc f → n ≤ m + f
      next n k m x z = omega arith

      go : (z : Bool) → is_leaf (row_on k) ≡ z → ((m : ℕ) → m < length rs → length rs ≤ m + f → Ends (walked f rs xs m)) → Ends (walked f rs xs (onto (row_on k) xs k))
      go true q ih = subst Ends (sym (ap (walked f rs xs) (onto-leaf (row_on k) xs k q) ∙ leaf-stays f k q)) (record { inside = h; leaf = q })
      go false q ih = let (up, inside) = onto-up k h q in ih (onto (row_on k) xs k) inside (next (length rs) k _ up b)

  pub walk_ends : Ends (walked (length rs) rs xs 0)
  unfolding good_tree
  walk_ends = ends-from (length rs) 0 (ltb→lt 0 (length rs) (and_l (ltb 0 (length rs)) (good_from features (length rs) 0 rs) good)) (all (length rs))
    where
      all : (n : ℕ) → n ≤ 0 + n
      all n = omega arith

-- ---- what a fit grows is a good tree

pub length-entries : (ns : List TreeNode) → length (entries ns) ≡ length ns
unfolding entries
length-entries [] = refl
length-entries (n ∷ ns) = ap suc (length-entries ns)

pub entry-of : (ns : List TreeNode) (k : ℕ) → k < length ns → get_or (entries ns) k no_entry ≡ entry_of (value_of (get_or ns k no_node).totals) (kind_at ns k)
unfolding entries
entry-of [] k h = absurd (not-suc-le-zero h)
entry-of (n ∷ ns) zero h = refl
entry-of (n ∷ ns) (suc k) h = entry-of ns k (le_of_suc-le-suc h)

or_right : (a b : Bool) → T b → T (a || b)
or_right true b t = tt
or_right false b t = t

good-entry : (P : Params) (ns : List TreeNode) (k : ℕ) (v : Float) (z : Kind) → ((s : Fork) → z ≡ Split s → Divides P ns k s) → T (good_entry P.features (length ns) k (entry_of v z))
unfolding good_entry is_leaf entry_of
good-entry P ns k v Leaf h = tt
good-entry P ns k v (Split s) h =
    or_right (eqb s.children 0 && eqb (suc s.children) 0)
    (ltb k s.children && (eqb (suc s.children) (suc s.children) && (ltb (suc s.children) (length ns) && ltb s.cut.feature P.features)))
    (and_i (ltb k s.children) _ (lt→ltb k s.children (h s refl).above)
    (and_i (eqb (suc s.children) (suc s.children)) _ (eqb_refl (suc s.children))
    (and_i (ltb (suc s.children) (length ns)) (ltb s.cut.feature P.features) (lt→ltb (suc s.children) (length ns) (h s refl).inside)
    (lt→ltb s.cut.feature P.features (h s refl).known))))

pub stands_good : (P : Params) (ns : List TreeNode) → Stands P ns → T (good_tree P.features (entries ns))
unfolding good_tree
stands_good P ns h =
    and_i (ltb 0 (length (entries ns))) (good_from P.features (length (entries ns)) 0 (entries ns))
    (lt→ltb 0 (length (entries ns)) (subst (λ n. 0 < n) (sym (length-entries ns)) h.some))
    (good-from P.features (length (entries ns)) 0 (entries ns) (λ i b. each i (subst (λ n. i < n) (length-entries ns) b)))
  where
    each : (i : ℕ) → i < length ns → T (good_entry P.features (length (entries ns)) (0 + i) (get_or (entries ns) i no_entry))
    each i b =
        subst (λ m. T (good_entry P.features (length (entries ns)) m (get_or (entries ns) i no_entry))) (sym (zero-add i))
        (subst (λ n. T (good_entry P.features n i (get_or (entries ns) i no_entry))) (sym (length-entries ns))
        (subst (λ r. T (good_entry P.features (length ns) i r)) (sym (entry-of ns i b))
        (good-entry P ns i (value_of (get_or ns i no_node).totals) (kind_at ns i) (λ s q. h.splits i s q))))

pub fit-good : (F : OneTree) (D : Data) → Listed F D → Then (fit F D) (λ t. T (good_tree F.params.features (entries t.nodes)))
fit-good F D l = then-after (fit F D) _ _ (fit-stands F D l) (λ t h. stands_good F.params t.nodes h)
