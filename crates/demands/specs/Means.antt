-- What a forest's means must be. A forest of one tree means what its tree predicts, a -0 told as +0, and one of two trees means the same whichever comes first. Out-of-bag
-- means with no row in any bag are the forest's means. And a row that is in every bag has no out-of-bag mean: it is a NaN. Assumes nothing.
use Rattle.std.specs.Prelude.{ℕ, zero, suc, ◌+◌, ◌-◌, ◌*◌, ◌<◌, ◌≡◌, refl, Bool, true, false, ◌&&◌, cond, List, [], ◌∷◌, map, length, get_or, replicate, T, leb, ltb, eqb, Float, Ok, Err}
use Rattle.std.proofs.Common.{zero-add, le_refl, mul-pos, arith, sym, ap, ◌∙◌, subst, leb→le, le→leb, lt→ltb, eqb→eq}
use Rattle.std.proofs.lemmas.List.{length-map, length-replicate}
use Rattle.std.specs.Float.{nan, binary64}
use Rattle.std.specs.Float.Ieee.{fits, add, div, of_int, of_bits}
use Rattle.std.specs.Float.Ieee.Fits.{and_l, eq→eqb, add-fits}
use Rattle.floats.specs.Sign.{plain, zero-add64, add-two64, div-one64}
use Rattle.rules.specs.declared.Shape.{Shape}
use Rattle.rules.specs.Words.{nought, float, from, every, along, along_from, put_if}
use Rattle.rules.specs.Lent.{Columns, Entry, shortest, entry_at, entries_at, values_at}
use Rattle.rules.specs.Checks.{Test, test, numbered, checked, number_of, first_failed, within, rows_in, trees_in, shape_in, values_long}
use Rattle.rules.specs.Table.{good_from, good_tree, tree_in, ForestTable, starts_good, tree_at, trees_of, good_forest, starts_enough}
use Rattle.rules.specs.Reading.{no_entry, leaf_value, reads, predict_tests, predict_tree, add_trees, mean_of, mean_tests, forest_means}
use Rattle.rules.specs.OutOfBag.{out_trees, out_of_bag_mean, out_tests, out_of_bag_means}
use Rattle.lemmas.specs.Lists.{Every, every-or, every-all, every_map, length_from, is_true, get_d-from}
use Rattle.lemmas.specs.Laid.{entries-long}
use Rattle.lemmas.specs.Passed.{and2, Binary64}

-- ---- the statements

-- a tree's columns as a forest of that tree alone
abbrev pub one_tree : Columns → ForestTable
one_tree c = record { trees = 1; nodes = c; starts = 0 ∷ shortest c ∷ [] }

pub record SameAsTree (S : Shape) (xs : List Float) (c : Columns) (out : List Float) : Type 0 where
  pub answer : (forest_means S xs (one_tree c) out).answer ≡ (predict_tree S xs c out).answer
  pub means : (predict_tree S xs c out).answer ≡ Ok tt → (forest_means S xs (one_tree c) out).rooms ≡ map plain (predict_tree S xs c out).rooms

abbrev pub OneTree : Type 0
OneTree = (S : Shape) (xs : List Float) (c : Columns) (out : List Float) → Binary64 c.value → SameAsTree S xs c out

-- of more, rounding can tell one order from another
abbrev pub TwoTrees : Type 0
TwoTrees =
    (S : Shape) (xs : List Float) (F G : ForestTable) (t u : List Entry) → trees_of F ≡ t ∷ u ∷ [] → trees_of G ≡ u ∷ t ∷ [] → Binary64 F.nodes.value → (out : List Float)
    → (forest_means S xs F out).answer ≡ Ok tt → (forest_means S xs G out).answer ≡ Ok tt → forest_means S xs F out ≡ forest_means S xs G out

abbrev pub InNoBag : Type 0
InNoBag =
    (S : Shape) (xs : List Float) (F : ForestTable) (out : List Float)
    → out_of_bag_means S xs (replicate (F.trees * S.rows) 0) F out ≡ forest_means S xs F out

abbrev pub InEveryBag : Type 0
InEveryBag =
    (S : Shape) (xs : List Float) (counts : List ℕ) (F : ForestTable) (out : List Float) (i : ℕ) → i < S.rows
    → ((t : ℕ) → t < F.trees → 0 < get_or counts (t * S.rows + i) 0)
    → (out_of_bag_means S xs counts F out).answer ≡ Ok tt → get_or (out_of_bag_means S xs counts F out).rooms i nan ≡ nan

-- ---- one tree

-- a tree whose values are binary64, and the leaf that a row comes to
abbrev Held : List Entry → Type 0
Held es = Every (λ (e : Entry). T (fits binary64 e.value)) es

entries-held : (c : Columns) → Binary64 c.value → (a n : ℕ) → Held (entries_at c a n)
unfolding entries_at fits
entries-held c held a n = every_map _ (entry_at c) (from a n) (every-all _ (λ k. every-or _ c.value nan k held tt) (from a n))

leaf-held : (es : List Entry) → Held es → (xs : List Float) → T (fits binary64 (leaf_value es xs))
unfolding leaf_value fits of_bits
leaf-held es h xs = every-or (λ (e : Entry). T (fits binary64 e.value)) es no_entry _ h tt

mean-one : (es : List Entry) (xs : List Float) → T (fits binary64 (leaf_value es xs)) → mean_of (es ∷ []) xs ≡ plain (leaf_value es xs)
unfolding mean_of add_trees of_int of_bits
mean-one es xs h = div-one64 binary64 (add binary64 nought (leaf_value es xs)) (add-fits binary64 nought (leaf_value es xs)) ∙ zero-add64 binary64 (leaf_value es xs) h

one-tree-read : (c : Columns) → trees_of (one_tree c) ≡ tree_in c ∷ []
unfolding trees_of from tree_at tree_in
one-tree-read c = ap (λ n. entries_at c 0 n ∷ []) (whole (shortest c))
  where
    whole : (n : ℕ) → n - 0 ≡ n
    whole n = omega arith

and-true : (b : Bool) → (b && true) ≡ b
and-true true = refl
and-true false = refl

-- its start table is good where it has a node
one-tree-good : (features : ℕ) (c : Columns) → good_forest features (one_tree c) ≡ good_tree features (tree_in c)
unfolding good_forest starts_good along along_from every good_tree tree_in
one-tree-good features c =
    (λ i. (ltb 0 (shortest c) && true && is_true (leb (shortest c) (shortest c)) (le→leb (shortest c) (shortest c) (le_refl (shortest c))) i)
    && every (good_tree features) (one-tree-read c i))
    ∙ ap (λ n. (ltb 0 n && true && true) && (good_tree features (tree_in c) && true)) (sym (entries-long c 0 (shortest c)))
    ∙ same (ltb 0 (length (tree_in c))) (good_from features (length (tree_in c)) 0 (tree_in c))
  where
    same : (x b : Bool) → ((x && true && true) && ((x && b) && true)) ≡ (x && b)
    same true b = and-true b
    same false b = refl

tests_same : (S : Shape) (xs : List Float) (c : Columns) (out : List Float) → first_failed (mean_tests S xs (one_tree c) out) ≡ first_failed (predict_tests S xs c out)
unfolding mean_tests predict_tests within
tests_same S xs c out =
    λ i. first_failed (test 1 (and-true (shape_in S) i) ∷ test 2 (values_long S xs) ∷ test 6 (and-true (eqb (length out) S.rows) i) ∷ test 8 (one-tree-good S.features c i) ∷ [])

-- what a reader leaves, where it is not refused
pub reads-done : (k : ℕ) (new old : List Float) → (reads k new old).answer ≡ Ok tt → k ≡ 0
unfolding reads
reads-done zero new old h = refl
reads-done (suc k) new old h = let z : ◌≡◌ {A = ℕ} 0 1 = cc in absurd (omega arith)

reads-alike : (k : ℕ) (new new' old : List Float) → (reads k new old).answer ≡ (reads k new' old).answer
unfolding reads
reads-alike zero new new' old = refl
reads-alike (suc k) new new' old = refl

pub one-tree : OneTree
unfolding forest_means predict_tree reads tree_in
one-tree S xs c out held =
    record {
      answer = (λ i. (reads (tests_same S xs c out i) means out).answer) ∙ reads-alike (first_failed (predict_tests S xs c out)) means told out;
      means = λ h.
          let q = reads-done (first_failed (predict_tests S xs c out)) told out h in
          (λ i. (reads ((tests_same S xs c out ∙ q) i) means out).rooms)
          ∙ each (from 0 S.rows)
          ∙ sym (λ i. map plain (reads (q i) told out).rooms);
    }
  where
    row : ℕ → List Float
    row i = values_at S.features xs i

    means : List Float
    means = map (λ i. mean_of (trees_of (one_tree c)) (row i)) (from 0 S.rows)

    told : List Float
    told = map (λ i. leaf_value (tree_in c) (row i)) (from 0 S.rows)

    each : (l : List ℕ) → map (λ i. mean_of (trees_of (one_tree c)) (row i)) l ≡ map plain (map (λ i. leaf_value (tree_in c) (row i)) l)
    each [] = refl
    each (i ∷ l) = λ k. (ap (λ ts. mean_of ts (row i)) (one-tree-read c) ∙ mean-one (tree_in c) (row i) (leaf-held (tree_in c) (entries-held c held 0 (shortest c)) (row i))) k ∷ each l k

-- ---- two trees

mean-two : (t u : List Entry) (xs : List Float) → Held t → Held u → mean_of (t ∷ u ∷ []) xs ≡ mean_of (u ∷ t ∷ []) xs
unfolding mean_of add_trees of_bits
mean-two t u xs a b = ap (λ s. div binary64 s (float 2)) (add-two64 binary64 (leaf_value t xs) (leaf_value u xs) (leaf-held t a xs) (leaf-held u b xs))

pub two-trees : TwoTrees
unfolding forest_means trees_of tree_at
two-trees S xs F G t u f g held out done done' =
    (λ i. reads (reads-done (first_failed (mean_tests S xs F out)) _ out done i) (means F) out)
    ∙ (λ i. reads 0 (each (from 0 S.rows) i) out)
    ∙ sym (λ i. reads (reads-done (first_failed (mean_tests S xs G out)) _ out done' i) (means G) out)
  where
    row : ℕ → List Float
    row i = values_at S.features xs i

    means : ForestTable → List Float
    means H = map (λ i. mean_of (trees_of H) (row i)) (from 0 S.rows)

    h : Every Held (t ∷ u ∷ [])
    h = subst (Every Held) f (every_map Held (tree_at F.nodes F.starts) (from 0 F.trees) (every-all _ (λ k. entries-held F.nodes held _ _) (from 0 F.trees)))

    each : (l : List ℕ) → map (λ i. mean_of (trees_of F) (row i)) l ≡ map (λ i. mean_of (trees_of G) (row i)) l
    each [] = refl
    each (i ∷ l) = λ k. (ap (λ ts. mean_of ts (row i)) f ∙ mean-two t u (row i) h.0 h.1.0 ∙ ap (λ ts. mean_of ts (row i)) (sym g)) k ∷ each l k

-- ---- no row in any bag

none-counted : (n k : ℕ) → ◌≡◌ {A = ℕ} (get_or (replicate n 0) k 0) 0
none-counted zero k = refl
none-counted (suc n) zero = refl
none-counted (suc n) (suc k) = none-counted n k

all-out : (rows n i t : ℕ) (ts : List (List Entry)) → out_trees rows (replicate n 0) i t ts ≡ ts
unfolding out_trees put_if
all-out rows n i t [] = refl
all-out rows n i t (es ∷ ts) =
    ap (λ k. put_if (eqb k 0) es (out_trees rows (replicate n 0) i (suc t) ts)) (none-counted n (t * rows + i)) ∙ ap (λ us. es ∷ us) (all-out rows n i (suc t) ts)

-- counts of the right length are looked at without effect, once the ranges are right
counts-pass : (b : Bool) (counts : List ℕ) (n : ℕ) (ts : List Test) → (T b → 0 < n) → length counts ≡ n
    → first_failed (test 1 b ∷ test 9 (ltb 0 (length counts)) ∷ test 10 (eqb (length counts) n) ∷ ts) ≡ first_failed (test 1 b ∷ ts)
unfolding checked
counts-pass true counts n ts some long =
    λ i. number_of (cond (is_true (ltb 0 (length counts)) (lt→ltb 0 (length counts) (subst (λ k. 0 < k) (sym long) (some tt))) i)
    (cond (is_true (eqb (length counts) n) (eq→eqb long) i) (checked ts) (Err (numbered 10))) (Err (numbered 9)))
counts-pass false counts n ts some long = refl

pub in-no-bag : InNoBag
unfolding out_of_bag_means forest_means out_tests mean_tests out_of_bag_mean within
in-no-bag S xs F out =
    (λ i. reads (counts-pass (shape_in S && trees_in F.trees) counts (F.trees * S.rows) rest some (length-replicate (F.trees * S.rows) 0) i) (each (from 0 S.rows) i) out)
  where
    counts : List ℕ
    counts = replicate (F.trees * S.rows) 0

    rest : List Test
    rest = test 2 (values_long S xs) ∷ test 6 (eqb (length out) S.rows && starts_enough F) ∷ test 8 (good_forest S.features F) ∷ []

    some : T (shape_in S && trees_in F.trees) → 0 < F.trees * S.rows
    some h =
        let (s, t) = and2 (shape_in S) (trees_in F.trees) h in
        mul-pos (leb→le 1 F.trees (and_l (leb 1 F.trees) _ t)) (leb→le 1 S.rows (and_l (leb 1 S.rows) _ (and_l (rows_in S.rows) _ s)))

    each : (l : List ℕ) → map (out_of_bag_mean S xs counts F) l ≡ map (λ i. mean_of (trees_of F) (values_at S.features xs i)) l
    each [] = refl
    each (i ∷ l) = λ k. mean_of (all-out S.rows (F.trees * S.rows) i 0 (trees_of F) k) (values_at S.features xs i) ∷ each l k

-- ---- a row in every bag

none_out : (rows : ℕ) (counts : List ℕ) (i t : ℕ) (ts : List (List Entry)) → ((u : ℕ) → u < t + length ts → 0 < get_or counts (u * rows + i) 0)
    → out_trees rows counts i t ts ≡ []
unfolding out_trees put_if
none_out rows counts i t [] h = refl
none_out rows counts i t (es ∷ ts) h =
    ap (λ b. put_if b es (out_trees rows counts i (suc t) ts)) (counted (eqb count 0) (eqb→eq count 0) (h t (here t (length ts))))
    ∙ none_out rows counts i (suc t) ts (λ u b. h u (on t u (length ts) b))
  where
    count : ℕ
    count = get_or counts (t * rows + i) 0

    counted : (b : Bool) → (T b → count ≡ 0) → 0 < count → b ≡ false
    counted true z p = absurd (omega (arith, z tt))
    counted false z p = refl

    here : (t n : ℕ) → t < t + suc n
    here t n = omega arith

    on : (t u n : ℕ) → u < suc t + n → u < t + suc n
    on t u n b = omega arith

-- 0/0
no-mean : (xs : List Float) → mean_of [] xs ≡ nan
unfolding mean_of add_trees div of_int of_bits
no-mean xs = refl

pub in-every-bag : InEveryBag
unfolding out_of_bag_means out_of_bag_mean reads trees_of
in-every-bag S xs counts F out i b h done =
    (λ k. get_or (reads (reads-done (first_failed (out_tests S xs counts F out)) (map (out_of_bag_mean S xs counts F) (from 0 S.rows)) out done k)
    (map (out_of_bag_mean S xs counts F) (from 0 S.rows)) out).rooms i nan)
    ∙ get_d-from (out_of_bag_mean S xs counts F) 0 S.rows i nan b
    ∙ ap (out_of_bag_mean S xs counts F) (zero-add i)
    ∙ ap (λ ts. mean_of ts (values_at S.features xs i)) (none_out S.rows counts i 0 (trees_of F) (λ u l. h u (subst (λ n. u < n) long l)))
    ∙ no-mean (values_at S.features xs i)
  where
    long : 0 + length (trees_of F) ≡ F.trees
    long = zero-add (length (trees_of F)) ∙ length-map (from 0 F.trees) (tree_at F.nodes F.starts) ∙ length_from 0 F.trees
