-- What stands in a leaf's feature, threshold and score is never looked at. Two tables that agree but there give the same predictions, means, out-of-bag means and
-- importances, and the same refusals; so do two forests whose trees agree so. Assumes nothing.
use Rattle.std.specs.Prelude.{ℕ, zero, suc, ◌+◌, ◌*◌, ◌≡◌, refl, Bool, true, false, not, ◌&&◌, cond, List, [], ◌∷◌, map, length, get_or, replicate, ltb, eqb, Float}
use Rattle.std.proofs.Common.{sym, ◌∙◌}
use Rattle.std.proofs.Math.Path.{ap}
use Rattle.std.proofs.lemmas.List.{length-map}
use Rattle.std.proofs.Math.ListN.{get_or-map}
use Rattle.std.specs.Float.Ieee.{binary64, add, div}
use Rattle.rules.specs.declared.Shape.{Shape}
use Rattle.rules.specs.declared.Scale.{Scale}
use Rattle.rules.specs.Words.{nought, float, from, every, put_if}
use Rattle.rules.specs.Lent.{Columns, Entry, leaf_entry, values_at}
use Rattle.rules.specs.Checks.{test, first_failed, shape_in, features_in, trees_in, values_long}
use Rattle.rules.specs.Table.{is_leaf, good_entry, good_from, good_tree, tree_in, ForestTable, starts_good, trees_of, good_forest, starts_enough}
use Rattle.rules.specs.Reading.{no_entry, onto, walked, leaf_value, reads, predict_tests, predict_tree, add_trees, mean_of, mean_tests, forest_means}
use Rattle.rules.specs.Reading.{scored, add_scores, add_each, scores_of, normalised, scaled, tree_importance_tests, tree_importances, add_importances, forest_importance_tests, forest_importances}
use Rattle.rules.specs.OutOfBag.{out_trees, out_of_bag_mean, out_tests, out_of_bag_means}
use Rattle.lemmas.specs.Seen.{seen}
use Rattle.lemmas.specs.Lists.{put_map}

-- ---- the statements

-- of a leaf no more than its value is seen (`seen`)
abbrev pub AgreeButLeaves : List Entry → List Entry → Type 0
AgreeButLeaves es fs = map seen es ≡ map seen fs

abbrev pub LeavesOfTrees : Type 0
LeavesOfTrees =
    (c d : Columns) → AgreeButLeaves (tree_in c) (tree_in d)
    → ((S : Shape) (xs out : List Float) → predict_tree S xs c out ≡ predict_tree S xs d out)
    × ((features : ℕ) (by : Scale) (out : List Float) → tree_importances features by c out ≡ tree_importances features by d out)

abbrev pub seen_all : List (List Entry) → List (List Entry)
seen_all ts = map (map seen) ts

-- two forests of as many trees, which agree tree by tree, wherever these lie: both start tables are long enough and good, or neither is
pub record ForestsAgree (F G : ForestTable) : Type 0 where
  pub number : F.trees ≡ G.trees
  pub enough : starts_enough F ≡ starts_enough G
  pub starts : starts_good F ≡ starts_good G
  pub trees : seen_all (trees_of F) ≡ seen_all (trees_of G)

abbrev pub LeavesOfForests : Type 0
LeavesOfForests =
    (F G : ForestTable) → ForestsAgree F G
    → ((S : Shape) (xs out : List Float) → forest_means S xs F out ≡ forest_means S xs G out)
    × ((S : Shape) (xs : List Float) (counts : List ℕ) (out : List Float) → out_of_bag_means S xs counts F out ≡ out_of_bag_means S xs counts G out)
    × ((features : ℕ) (out : List Float) → forest_importances features F out ≡ forest_importances features G out)

-- ---- no reader looks at more of an entry

-- by leaf or split
seen_same : {A : Type 0} (f : Entry → A) (e : Entry) → (is_leaf e ≡ true → f e ≡ f (leaf_entry e.value)) → f e ≡ f (seen e)
seen_same f e leaf = go (is_leaf e) refl
  where
    go : (b : Bool) → is_leaf e ≡ b → f e ≡ f (cond b (leaf_entry e.value) e)
    go true q = leaf q
    go false q = refl

entry-good : (features n k : ℕ) (e : Entry) → good_entry features n k e ≡ good_entry features n k (seen e)
unfolding good_entry is_leaf
entry-good features n k e = seen_same (good_entry features n k) e (λ q. rw q refl)

from-good : (features n k : ℕ) (es : List Entry) → good_from features n k es ≡ good_from features n k (map seen es)
unfolding good_from
from-good features n k [] = refl
from-good features n k (e ∷ es) = λ i. entry-good features n k e i && from-good features n (suc k) es i

tree-good : (features : ℕ) (es : List Entry) → good_tree features es ≡ good_tree features (map seen es)
unfolding good_tree
tree-good features es =
    ap (λ b. ltb 0 (length es) && b) (from-good features (length es) 0 es)
    ∙ ap (λ n. ltb 0 n && good_from features n 0 (map seen es)) (sym (length-map es seen))

-- a step of a walk
onto_same : (e : Entry) (xs : List Float) (n : ℕ) → onto e xs n ≡ onto (seen e) xs n
unfolding onto is_leaf
onto_same e xs n = seen_same (λ r. onto r xs n) e (λ q. rw q refl)

entry_seen : (es : List Entry) (n : ℕ) → get_or (map seen es) n no_entry ≡ seen (get_or es n no_entry)
unfolding is_leaf
entry_seen es n = get_or-map seen es n no_entry

walk_same : (k : ℕ) (es : List Entry) (xs : List Float) (n : ℕ) → walked k es xs n ≡ walked k (map seen es) xs n
unfolding walked
walk_same zero es xs n = refl
walk_same (suc k) es xs n =
    walk_same k es xs (onto (get_or es n no_entry) xs n)
    ∙ ap (walked k (map seen es) xs) (onto_same (get_or es n no_entry) xs n ∙ ap (λ e. onto e xs n) (sym (entry_seen es n)))

leaf-same : (es : List Entry) (xs : List Float) → leaf_value es xs ≡ leaf_value (map seen es) xs
unfolding leaf_value
leaf-same es xs =
    ap (λ n. (get_or es n no_entry).value) (walk_same (length es) es xs 0 ∙ ap (λ k. walked k (map seen es) xs 0) (sym (length-map es seen)))
    ∙ seen_same (λ (e : Entry). e.value) (get_or es _ no_entry) (λ q. refl)
    ∙ ap (λ (e : Entry). e.value) (sym (entry_seen es _))

score-same : (v : List Float) (e : Entry) → scored (not (is_leaf e)) e v ≡ scored (not (is_leaf (seen e))) (seen e) v
unfolding scored is_leaf
score-same v e = seen_same (λ r. scored (not (is_leaf r)) r v) e (λ q. rw q refl)

scores-same : (v : List Float) (es : List Entry) → add_scores v es ≡ add_scores v (map seen es)
unfolding add_scores
scores-same v [] = refl
scores-same v (e ∷ es) = rw (score-same v e) (scores-same (scored (not (is_leaf (seen e))) (seen e) v) es)

-- ---- one tree

-- what looks at no more than is seen is the same where that agrees
same_by {ℓ} : {A : Type ℓ} {B : Type 0} (f : A → B) (see : A → A) → ((x : A) → f x ≡ f (see x)) → (x y : A) → see x ≡ see y → f x ≡ f y
same_by f see h x y q = h x ∙ ap f q ∙ sym (h y)

pub leaves-of-trees : LeavesOfTrees
leaves-of-trees c d q = (
  (λ S xs out.
      unfold predict_tree predict_tests in
      λ i. reads (first_failed (test 1 (shape_in S) ∷ test 2 (values_long S xs) ∷ test 6 (eqb (length out) S.rows) ∷ test 8 (good S.features i) ∷ []))
      (map (λ r. same_by (λ es. leaf_value es (values_at S.features xs r)) (map seen) (λ es. leaf-same es (values_at S.features xs r)) (tree_in c) (tree_in d) q i) (from 0 S.rows)) out),
  (λ features by out.
      unfold tree_importances tree_importance_tests scores_of in
      λ i. reads (first_failed (test 1 (features_in features) ∷ test 6 (eqb (length out) features) ∷ test 8 (good features i) ∷ []))
      (scaled by (same_by (add_scores (replicate features nought)) (map seen) (scores-same (replicate features nought)) (tree_in c) (tree_in d) q i)) out),
)
  where
    good : (features : ℕ) → good_tree features (tree_in c) ≡ good_tree features (tree_in d)
    good features = same_by (good_tree features) (map seen) (tree-good features) (tree_in c) (tree_in d) q

-- ---- a forest, tree by tree

sum_same : (s : Float) (ts : List (List Entry)) (xs : List Float) → add_trees s ts xs ≡ add_trees s (seen_all ts) xs
unfolding add_trees
sum_same s [] xs = refl
sum_same s (t ∷ ts) xs = rw (leaf-same t xs) (sum_same (add binary64 s (leaf_value (map seen t) xs)) ts xs)

mean-same : (ts : List (List Entry)) (xs : List Float) → mean_of ts xs ≡ mean_of (seen_all ts) xs
unfolding mean_of
mean-same ts xs = rw (sum_same nought ts xs, length-map ts (map seen))

out-seen : (rows : ℕ) (counts : List ℕ) (i t : ℕ) (ts : List (List Entry)) → out_trees rows counts i t (seen_all ts) ≡ seen_all (out_trees rows counts i t ts)
unfolding out_trees
out-seen rows counts i t [] = refl
out-seen rows counts i t (es ∷ ts) =
    let b = eqb (get_or counts (t * rows + i) 0) 0 in
    ap (put_if b (map seen es)) (out-seen rows counts i (suc t) ts) ∙ put_map (map seen) b es (out_trees rows counts i (suc t) ts)

all-good : (features : ℕ) (ts : List (List Entry)) → every (good_tree features) ts ≡ every (good_tree features) (seen_all ts)
unfolding every
all-good features [] = refl
all-good features (t ∷ ts) = λ i. tree-good features t i && all-good features ts i

importances-same : (features : ℕ) (v : List Float) (ts : List (List Entry)) → add_importances features v ts ≡ add_importances features v (seen_all ts)
unfolding add_importances scores_of
importances-same features v [] = refl
importances-same features v (t ∷ ts) = rw (scores-same (replicate features nought) t) (importances-same features (add_each v (normalised (add_scores (replicate features nought) (map seen t)))) ts)

module _ (F G : ForestTable) (a : ForestsAgree F G) where
  forest-good : (features : ℕ) → good_forest features F ≡ good_forest features G
  unfolding good_forest
  forest-good features = λ i. a.starts i && same_by (every (good_tree features)) seen_all (all-good features) (trees_of F) (trees_of G) a.trees i

  means-same : (xs : List Float) → mean_of (trees_of F) xs ≡ mean_of (trees_of G) xs
  means-same xs = same_by (λ ts. mean_of ts xs) seen_all (λ ts. mean-same ts xs) (trees_of F) (trees_of G) a.trees

  outs-same : (S : Shape) (xs : List Float) (counts : List ℕ) (i : ℕ) → out_of_bag_mean S xs counts F i ≡ out_of_bag_mean S xs counts G i
  unfolding out_of_bag_mean
  outs-same S xs counts i =
      same_by (λ ts. mean_of (out_trees S.rows counts i 0 ts) (values_at S.features xs i)) seen_all
      (λ ts. mean-same (out_trees S.rows counts i 0 ts) _ ∙ ap (λ us. mean_of us (values_at S.features xs i)) (sym (out-seen S.rows counts i 0 ts)))
      (trees_of F) (trees_of G) a.trees

pub leaves-of-forests : LeavesOfForests
leaves-of-forests F G a = (
  (λ S xs out.
      unfold forest_means mean_tests in
      λ i. reads (first_failed (test 1 (shape_in S && trees_in (a.number i)) ∷ test 2 (values_long S xs)
      ∷ test 6 (eqb (length out) S.rows && a.enough i) ∷ test 8 (forest-good F G a S.features i) ∷ []))
      (map (λ r. means-same F G a (values_at S.features xs r) i) (from 0 S.rows)) out),
  (λ S xs counts out.
      unfold out_of_bag_means out_tests in
      λ i. reads (first_failed (test 1 (shape_in S && trees_in (a.number i)) ∷ test 9 (ltb 0 (length counts)) ∷ test 10 (eqb (length counts) (a.number i * S.rows)) ∷ test 2 (values_long S xs)
      ∷ test 6 (eqb (length out) S.rows && a.enough i) ∷ test 8 (forest-good F G a S.features i) ∷ []))
      (map (λ r. outs-same F G a S xs counts r i) (from 0 S.rows)) out),
  (λ features out.
      unfold forest_importances forest_importance_tests in
      λ i. reads (first_failed (test 1 (features_in features && trees_in (a.number i))
      ∷ test 6 (eqb (length out) features && a.enough i) ∷ test 8 (forest-good F G a features i) ∷ []))
      (normalised (map (λ x. div binary64 x (float (a.number i)))
      (same_by (add_importances features (replicate features nought)) seen_all (importances-same features (replicate features nought)) (trees_of F) (trees_of G) a.trees i))) out),
)
