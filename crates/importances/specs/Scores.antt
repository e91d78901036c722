-- The scores of a tree, entry by entry, and the importances of a forest, tree by tree. Assumes nothing.
use Prim.Native.Nat.{ℕ, suc, ◌+◌, ◌-◌, ◌<◌, ◌≤◌}
use Rattle.std.proofs.Common.{add-one, sym, ◌∙◌}
use native.Mathlib.Omega.{arith}
use Rattle.std.specs.Prelude.{◌≡◌, refl, Bool, true, false, not, List, map, Float}
use Rattle.std.proofs.Math.Path.{ap, subst}
use Rattle.std.proofs.Math.ListN.{get_or}
use Rattle.std.proofs.Math.Dec.{T}
use Rattle.rules.specs.Words.{from}
use Rattle.rules.specs.Lent.{Columns, Entry, entry_at, entries_at}
use Rattle.rules.specs.Table.{is_leaf, ForestTable, tree_at, trees_of}
use Rattle.rules.specs.Reading.{no_entry, scored, add_scores, scores_of, normalised, add_each, add_importances}
use Rattle.lemmas.specs.Lists.{get_d-from}
use Rattle.lemmas.specs.Tables.{node-good}
use Rattle.lemmas.specs.Scans.{range-next, range-end, range_all}
use Rattle.lemmas.specs.Laid.{entries-long}
use Rattle.entries.specs.Entries.{no_child}
use Rattle.tables.specs.Table.{TreeLies}
use Rattle.scores.specs.Nodes.{marked}

-- ---- entry by entry

-- a node as it is read
abbrev pub read : Entry → Entry
read e = marked e.feature e.score e.true_child e.false_child

read-scored : (z : Bool) (e : Entry) (v : List Float) → scored z (read e) v ≡ scored z e v
unfolding scored
read-scored true e v = refl
read-scored false e v = refl

module _ (c : Columns) (a n : ℕ) where
  -- the scores with the entries from node k on
  abbrev pub scores_on : ℕ → List Float → List Float
  scores_on k v = add_scores v (entries_at c (a + k) (n - k))

  pub adding-turn : (all v : List Float) {w : List Float} (k : ℕ) → k < n → scores_on k v ≡ all
      → w ≡ scored (not (is_leaf (read (entry_at c (a + k))))) (read (entry_at c (a + k))) v → scores_on (k + 1) w ≡ all
  unfolding entries_at add_scores is_leaf
  adding-turn all v {w} k h f e =
      (λ i. add_scores ((e ∙ read-scored (not (is_leaf (entry_at c (a + k)))) (entry_at c (a + k)) v) i) (map (entry_at c) (from (up a k i) (n - (k + 1)))))
      ∙ ap (λ l. add_scores v (map (entry_at c) l)) (sym (range-next (a + k) k n h)) ∙ f
    where
      up : (a k : ℕ) → a + (k + 1) ≡ suc (a + k)
      up a k = omega arith

  pub adding-done : (all v : List Float) (k : ℕ) → n ≤ k → scores_on k v ≡ all → v ≡ all
  unfolding entries_at add_scores
  adding-done all v k h f = ap (λ l. add_scores v (map (entry_at c) l)) (sym (range-end (a + k) k n h)) ∙ f

  -- a split of a good tree is at one of the features
  pub split-known : (features k : ℕ) → TreeLies features a n c → k < n → no_child (get_or c.true_child (a + k) 0) (get_or c.false_child (a + k) 0) ≡ false → get_or c.feature (a + k) 0 < features
  unfolding entries_at is_leaf
  split-known features k g h l =
      let e : get_or (entries_at c a n) k no_entry ≡ entry_at c (a + k) = get_d-from (entry_at c) a n k no_entry h in
      subst (λ (r : Entry). r.feature < features) e
      (node-good features (entries_at c a n) (subst T (sym g.good) tt) k (subst (λ m. k < m) (sym (entries-long c a n)) h) (ap is_leaf e ∙ l)).known

-- ---- tree by tree

module _ (features : ℕ) (F : ForestTable) where
  abbrev tree : ℕ → List Entry
  tree t = tree_at F.nodes F.starts t

  -- the importances with the trees from t on
  abbrev pub importances_on : ℕ → List Float → List Float
  importances_on t v = add_importances features v (map tree (from t (F.trees - t)))

  pub gather-start : (v : List Float) → importances_on 0 v ≡ add_importances features v (trees_of F)
  unfolding trees_of
  gather-start v = ap (λ l. add_importances features v (map tree l)) (sym (range_all 0 F.trees))

  pub gather-turn : (all v : List Float) {w : List Float} (t : ℕ) → t < F.trees → importances_on t v ≡ all
      → w ≡ add_each v (normalised (scores_of features (tree t))) → importances_on (t + 1) w ≡ all
  unfolding add_importances
  gather-turn all v t h f e =
      (λ i. add_importances features (e i) (map tree (from (add-one t i) (F.trees - (t + 1)))))
      ∙ ap (λ l. add_importances features v (map tree l)) (sym (range-next t t F.trees h)) ∙ f

  pub gather-done : (all v : List Float) (t : ℕ) → F.trees ≤ t → importances_on t v ≡ all → v ≡ all
  unfolding add_importances
  gather-done all v t h f = ap (λ l. add_importances features v (map tree l)) (sym (range-end t t F.trees h)) ∙ f
