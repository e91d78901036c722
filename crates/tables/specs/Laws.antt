-- Laws of the table check: node by node from place k on, tree by tree, and a node read out. Assumes nothing.
use Prim.Native.Nat.{ℕ, zero, suc, ◌+◌, ◌-◌, ◌<◌, ◌≤◌}
use Rattle.std.proofs.Common.{add-zero, zero-add, add-one, ◌∙◌, subst, get_or-take, length-take-le, Ok, Err, Some, None}
use Rattle.std.proofs.Math.Decide.{ℕ_discrete}
use native.Mathlib.Omega.{arith}
use Rattle.std.specs.Prelude.{◌≡◌, Bool, ◌&&◌, List, [], ◌∷◌, map, get_or, take, T, eqb}
use Rattle.std.proofs.Math.Path.{refl, sym, ap}
use Rattle.std.proofs.Math.Bool.{true, false, cond}
use Rattle.std.proofs.Math.Dec.{leb, ltb}
use borrow.Author.Tests.{lt-ltb, le-ltb, leb-true}
use Rattle.rules.specs.Words.{from, every, along}
use Rattle.rules.specs.Lent.{Columns, Entry, shortest, entry_at, entries_at}
use Rattle.rules.specs.Table.{good_entry, good_from, good_tree, ForestTable, table_of, starts_good, tree_at, trees_of, node_of, node_read}
use Rattle.lemmas.specs.Lists.{is_true, each, every-from, same-default, rising-at}
use Rattle.lemmas.specs.Laid.{entries-long}
use Rattle.lemmas.specs.Scans.{range-next, range-end}
use Rattle.lemmas.specs.Tests.{and_both}
use Rattle.rules.specs.Checks.{replies}
use Rattle.tables.specs.Table.{Started, Lying, TreeLies, TreesLie}

-- ---- node by node

module _ (features : ℕ) (c : Columns) (a n : ℕ) where
  -- from node k on
  abbrev pub good_on : ℕ → Bool
  good_on k = good_from features n k (entries_at c (a + k) (n - k))

  pub tree-starts : good_tree features (entries_at c a n) ≡ (ltb 0 n && good_on 0)
  unfolding good_tree
  tree-starts =
      (λ i. ltb 0 (entries-long c a n i) && good_from features (entries-long c a n i) 0 (entries_at c a n))
      ∙ (λ i. ltb 0 n && good_from features n 0 (entries_at c (sym (add-zero a) i) (whole n i)))
    where
      whole : (n : ℕ) → n ≡ n - 0
      whole n = omega arith

  tree-next : (k : ℕ) → k < n → good_on k ≡ (good_entry features n k (entry_at c (a + k)) && good_on (k + 1))
  unfolding entries_at good_from
  tree-next k h =
      ap (λ l. good_from features n k (map (entry_at c) l)) (range-next (a + k) k n h)
      ∙ (λ i. good_entry features n k (entry_at c (a + k)) && good_from features n (sym (add-one k) i) (map (entry_at c) (from (up a k i) (n - (k + 1)))))
    where
      up : (a k : ℕ) → suc (a + k) ≡ a + (k + 1)
      up a k = omega arith

  pub tree-goes : (k : ℕ) (good one : Bool) {whole : Bool} → k < n → whole ≡ (good && good_on k) → one ≡ good_entry features n k (entry_at c (a + k))
      → whole ≡ ((good && one) && good_on (k + 1))
  tree-goes k good one h so t = so ∙ ap (λ b. good && b) (tree-next k h ∙ ap (λ b. b && good_on (k + 1)) (sym t)) ∙ apart good
    where
      apart : (b : Bool) → (b && (one && good_on (k + 1))) ≡ ((b && one) && good_on (k + 1))
      apart true = refl
      apart false = refl

  pub tree-ends : (k : ℕ) (good : Bool) {whole : Bool} → n ≤ k → whole ≡ (good && good_on k) → good ≡ whole
  unfolding entries_at good_from
  tree-ends k good h so = sym (so ∙ ap (λ l. good && good_from features n k (map (entry_at c) l)) (range-end (a + k) k n h) ∙ alone good)
    where
      alone : (b : Bool) → (b && true) ≡ b
      alone true = refl
      alone false = refl

-- ---- tree by tree

pub every-mapped {ℓ κ} : {A : Type ℓ} {B : Type κ} (p : B → Bool) (f : A → B) (l : List A) → every p (map f l) ≡ every (λ x. p (f x)) l
unfolding every
every-mapped p f [] = refl
every-mapped p f (x ∷ l) = ap (λ b. p (f x) && b) (every-mapped p f l)

-- ---- the start table's rule, over its part that is looked at

pub starts_part : (F : ForestTable) → Started F.trees F.starts
    → starts_good F ≡ (eqb (get_or (take (F.trees + 1) F.starts) 0 0) 0 && (along ltb (take (F.trees + 1) F.starts) && leb (get_or (take (F.trees + 1) F.starts) F.trees 0) (shortest F.nodes)))
unfolding starts_good
starts_part F h =
    λ i. eqb (first i) 0 && (along ltb (take (sym (add-one F.trees) i) F.starts) && leb (last i) (shortest F.nodes))
  where
    -- what stands at a place of the part is what stands there, whatever is said for a place that is not there
    at : (k d : ℕ) → k < suc F.trees → get_or F.starts k d ≡ get_or (take (F.trees + 1) F.starts) k 0
    at k d b = same-default F.starts k d 0 (omega (arith, h.long)) ∙ sym (get_or-take (F.trees + 1) F.starts k 0 (omega arith))

    first : get_or F.starts 0 1 ≡ get_or (take (F.trees + 1) F.starts) 0 0
    first = at 0 1 (omega arith)

    last : get_or F.starts F.trees (suc (shortest F.nodes)) ≡ get_or (take (F.trees + 1) F.starts) F.trees 0
    last = at F.trees (suc (shortest F.nodes)) (omega arith)

-- the same of any columns that reach as far
pub starts_told : (trees n : ℕ) (starts : List ℕ) → Started trees starts → (c : Columns) → shortest c ≡ n
    → (eqb (get_or (take (trees + 1) starts) 0 0) 0 && (along ltb (take (trees + 1) starts) && leb (get_or (take (trees + 1) starts) trees 0) n)) ≡ starts_good (table_of trees starts c)
starts_told trees n starts h c e =
    ap (λ k. eqb (get_or (take (trees + 1) starts) 0 0) 0 && (along ltb (take (trees + 1) starts) && leb (get_or (take (trees + 1) starts) trees 0) k)) (sym e)
    ∙ sym (starts_part (table_of trees starts c) h)

-- ---- where the trees of a good start table lie

module _ (F : ForestTable) (h : Lying F) where
  abbrev high : ℕ
  high = shortest F.nodes

  says : (along ltb (take (suc F.trees) F.starts) ≡ true) × (leb (get_or F.starts F.trees (suc high)) high ≡ true)
  unfolding starts_good
  says =
      and_both (along ltb (take (suc F.trees) F.starts)) (leb (get_or F.starts F.trees (suc high)) high)
      (and_both (eqb (get_or F.starts 0 1) 0) (along ltb (take (suc F.trees) F.starts) && leb (get_or F.starts F.trees (suc high)) high) h.good).1

  above : (i j : ℕ) → i < j → j < suc F.trees → get_or F.starts i 0 < get_or F.starts j 0
  above i j a b =
      subst (λ x. x < get_or F.starts j 0) (get_or-take (suc F.trees) F.starts i 0 (before i j F.trees a b))
      (subst (λ y. get_or (take (suc F.trees) F.starts) i 0 < y) (get_or-take (suc F.trees) F.starts j 0 b)
      (rising-at (take (suc F.trees) F.starts) says.0 i j a (subst (λ n. j < n) (sym (length-take-le (suc F.trees) F.starts h.started.long)) b)))
    where
      before : (i j n : ℕ) → i < j → j < suc n → i < suc n
      before i j n a b = omega arith

  -- tree t's two starts
  pub start-below : (t : ℕ) → t < F.trees → get_or F.starts t 0 < get_or F.starts (suc t) 0
  start-below t a = above t (suc t) (omega arith) (omega arith)

  pub start-inside : (t : ℕ) → t < F.trees → get_or F.starts (suc t) 0 ≤ high
  start-inside t a = go (ℕ_discrete (suc t) F.trees)
    where
      end : get_or F.starts F.trees 0 ≤ high
      end = subst (λ x. x ≤ high) (same-default F.starts F.trees (suc (high)) 0 h.started.long) (leb-true _ _ says.1)

      go : Dec (suc t ≡ F.trees) → get_or F.starts (suc t) 0 ≤ high
      go (yes e) = subst (λ x. get_or F.starts x 0 ≤ high) (sym e) end
      go (no d) = omega (arith, end, above (suc t) F.trees (omega (arith, d)) (omega arith))

-- tree t of good ones, by its two starts
pub tree-lies : (features : ℕ) (F : ForestTable) → TreesLie features F → (t : ℕ) → t < F.trees → {a e : ℕ} → a ≡ get_or F.starts t 0 → e ≡ get_or F.starts (suc t) 0
    → TreeLies features a (e - a) F.nodes
unfolding trees_of tree_at
tree-lies features F h t b {a} {e} p q =
    record {
      inside = fits a e _ _ _ p q (start-below F h.lying t b) (start-inside F h.lying t b);
      good = (λ i. good_tree features (entries_at F.nodes (p i) (q i - p i)))
          ∙ is_true (good_tree features (tree t)) (subst (λ k. T (good_tree features (tree k))) (zero-add t) (every-from _ 0 F.trees (each _ (from 0 F.trees) all) t b));
    }
  where
    tree : ℕ → List Entry
    tree = tree_at F.nodes F.starts

    fits : (a e x y n : ℕ) → a ≡ x → e ≡ y → x < y → y ≤ n → a + (e - a) ≤ n
    fits a e x y n p q h g = omega arith

    all : T (every (λ k. good_tree features (tree k)) (from 0 F.trees))
    all = subst T (sym (sym (every-mapped (good_tree features) tree (from 0 F.trees)) ∙ h.good)) tt

-- ---- what a reply says of the number that it was made of

pub told-none : (n : ℕ) → Ok tt ≡ replies n → n ≡ 0
unfolding replies
told-none zero h = refl
told-none (suc n) h = cc

pub told-number : (n : ℕ) {r : ℕ} → Err r ≡ replies n → n ≡ r
unfolding replies
told-number zero h = cc
told-number (suc n) h = cc

pub told-some : (n : ℕ) {r : ℕ} → Err r ≡ replies n → n ≡ 0 → ⊥
unfolding replies
told-some zero h = cc
told-some (suc n) h = λ e. absurd (omega arith)

-- ---- a node read out

module _ (c : Columns) (k n : ℕ) where
  pub read-refused : {r : ℕ} → Err r ≡ replies n → Err r ≡ node_read n c k
  unfolding node_read replies
  read-refused h = go n h
    where
      go : (n : ℕ) {r : ℕ} → Err r ≡ replies n → Err r ≡ node_read n c k
      go zero h = cc
      go (suc n) h = cc

  pub read-missing : n ≡ 0 → shortest c ≤ k → Ok None ≡ node_read n c k
  unfolding node_read
  read-missing h g = sym (ap (λ b. cond b (Ok (Some (node_of (entry_at c k)))) (Ok None)) (le-ltb k (shortest c) g)) ∙ ap (λ m. node_read m c k) (sym h)

  pub read-there : n ≡ 0 → k < shortest c → Ok (Some (node_of (entry_at c k))) ≡ node_read n c k
  unfolding node_read
  read-there h g = sym (ap (λ b. cond b (Ok (Some (node_of (entry_at c k)))) (Ok None)) (lt-ltb k (shortest c) g)) ∙ ap (λ m. node_read m c k) (sym h)
