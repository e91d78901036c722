-- Reading a tree table: walks, predictions, means, importances.
use Rattle.std.specs.Prelude.{ℕ, zero, suc, Bool, true, false, not, ◌&&◌, cond, List, [], ◌∷◌, map, length, get_or, set, replicate, eqb, Float, Ok, Err}
use Rattle.std.specs.Float.{nan, binary64}
use Rattle.std.specs.Float.Ieee.{add, div, lt, le}
use Rattle.rules.specs.declared.Shape.{Shape}
use Rattle.rules.specs.declared.Scale.{Scale}
use Rattle.rules.specs.declared.Scale.TheVariants.{Normalised, ByMass}
use Rattle.rules.specs.Results.{Reply}
use Rattle.rules.specs.Words.{nought, float, from}
use Rattle.rules.specs.Lent.{Columns, Entry, Outcome, values_at, leaf_entry}
use Rattle.rules.specs.Checks.{Test, test, first_failed, features_in, trees_in, shape_in, values_long}
use Rattle.rules.specs.Table.{is_leaf, good_tree, tree_in, ForestTable, trees_of, good_forest, starts_enough}

-- ---- a row's walk through a tree

-- R13.1
abbrev pub no_entry : Entry
no_entry = leaf_entry nought

-- R13.1: one step from node n: a leaf is stayed at, and a NaN, which is not at most the threshold, goes to the false child
unfoldable pub onto : Entry → List Float → ℕ → ℕ
onto e xs n = cond (is_leaf e) n (cond (le (get_or xs e.feature nan) e.threshold) e.true_child e.false_child)

-- R13.2
unfoldable pub walked : ℕ → List Entry → List Float → ℕ → ℕ
walked zero es xs n = n
walked (suc k) es xs n = walked k es xs (onto (get_or es n no_entry) xs n)

-- R13.2: in a good tree as many steps as there are nodes come to a leaf
unfoldable pub leaf_value : List Entry → List Float → Float
leaf_value es xs = (get_or es (walked (length es) es xs 0) no_entry).value

-- ---- a reader writes its results, or refuses and writes nothing

-- R13.3
unfoldable pub reads : ℕ → List Float → List Float → Outcome Reply (List Float)
reads zero new old = record { answer = Ok tt; rooms = new }
reads (suc n) new old = record { answer = Err (suc n); rooms = old }

-- ---- predictions of one tree

-- R13.4
unfoldable pub predict_tests : Shape → List Float → Columns → List Float → List Test
predict_tests S xs c out =
    test 1 (shape_in S)
    ∷ test 2 (values_long S xs)
    ∷ test 6 (eqb (length out) S.rows)
    ∷ test 8 (good_tree S.features (tree_in c))
    ∷ []

-- R13.4
unfoldable pub predict_tree : Shape → List Float → Columns → List Float → Outcome Reply (List Float)
predict_tree S xs c out =
    reads (first_failed (predict_tests S xs c out)) (map (λ i. leaf_value (tree_in c) (values_at S.features xs i)) (from 0 S.rows)) out

-- ---- means of a forest

-- R13.5
unfoldable pub add_trees : Float → List (List Entry) → List Float → Float
add_trees s [] xs = s
add_trees s (t ∷ ts) xs = add_trees (add binary64 s (leaf_value t xs)) ts xs

-- R13.5
unfoldable pub mean_of : List (List Entry) → List Float → Float
mean_of ts xs = div binary64 (add_trees nought ts xs) (float (length ts))

-- R13.6
unfoldable pub mean_tests : Shape → List Float → ForestTable → List Float → List Test
mean_tests S xs T out =
    test 1 (shape_in S && trees_in T.trees)
    ∷ test 2 (values_long S xs)
    ∷ test 6 (eqb (length out) S.rows && starts_enough T)
    ∷ test 8 (good_forest S.features T)
    ∷ []

-- R13.6
unfoldable pub forest_means : Shape → List Float → ForestTable → List Float → Outcome Reply (List Float)
forest_means S xs T out =
    reads (first_failed (mean_tests S xs T out)) (map (λ i. mean_of (trees_of T) (values_at S.features xs i)) (from 0 S.rows)) out

-- ---- importances

-- R13.7: a split's score is added to its feature's, a leaf's is not
unfoldable pub scored : Bool → Entry → List Float → List Float
scored false e v = v
scored true e v = set v e.feature (add binary64 (get_or v e.feature nan) e.score)

-- R13.7
unfoldable pub add_scores : List Float → List Entry → List Float
add_scores v [] = v
add_scores v (e ∷ es) = add_scores (scored (not (is_leaf e)) e v) es

-- R13.7
unfoldable pub scores_of : ℕ → List Entry → List Float
scores_of features es = add_scores (replicate features nought) es

-- R13.8
unfoldable pub sum_from : Float → List Float → Float
sum_from s [] = s
sum_from s (x ∷ xs) = sum_from (add binary64 s x) xs

-- R13.8: each over s, unless s is 0, below it or a NaN
unfoldable pub divided_if : Float → List Float → List Float
divided_if s v = cond (lt nought s) (map (λ x. div binary64 x s) v) v

-- R13.8
unfoldable pub normalised : List Float → List Float
normalised v = divided_if (sum_from nought v) v

-- R13.8
unfoldable pub scaled : Scale → List Float → List Float
scaled Normalised v = normalised v
scaled (ByMass m) v = divided_if m v

-- R13.9
unfoldable pub tree_importance_tests : ℕ → Columns → List Float → List Test
tree_importance_tests features c out =
    test 1 (features_in features)
    ∷ test 6 (eqb (length out) features)
    ∷ test 8 (good_tree features (tree_in c))
    ∷ []

-- R13.9
unfoldable pub tree_importances : ℕ → Scale → Columns → List Float → Outcome Reply (List Float)
tree_importances features by c out =
    reads (first_failed (tree_importance_tests features c out)) (scaled by (scores_of features (tree_in c))) out

-- R13.10
unfoldable pub add_each : List Float → List Float → List Float
add_each [] ys = []
add_each (x ∷ xs) [] = x ∷ xs
add_each (x ∷ xs) (y ∷ ys) = add binary64 x y ∷ add_each xs ys

-- R13.10: the trees' normalised ones, in tree order
unfoldable pub add_importances : ℕ → List Float → List (List Entry) → List Float
add_importances features v [] = v
add_importances features v (t ∷ ts) = add_importances features (add_each v (normalised (scores_of features t))) ts

-- R13.11
unfoldable pub forest_importance_tests : ℕ → ForestTable → List Float → List Test
forest_importance_tests features T out =
    test 1 (features_in features && trees_in T.trees)
    ∷ test 6 (eqb (length out) features && starts_enough T)
    ∷ test 8 (good_forest features T)
    ∷ []

-- R13.11
unfoldable pub forest_importances : ℕ → ForestTable → List Float → Outcome Reply (List Float)
forest_importances features T out =
    reads (first_failed (forest_importance_tests features T out))
    (normalised (map (λ x. div binary64 x (float T.trees)) (add_importances features (replicate features nought) (trees_of T)))) out
