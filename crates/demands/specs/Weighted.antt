-- A forest with weights has every row in every bag. One that is not refused has every count 1, so no row of it has an out-of-bag mean: read with its own counts, each
-- is a NaN, and their error is refused with 18. And a count of 0, as any other than 1, is refused with 4 as soon as what is checked before it passes. Assumes nothing.
use Rattle.std.specs.Prelude.{ℕ, zero, suc, ◌+◌, ◌*◌, ◌<◌, ◌≡◌, refl, Bool, true, false, not, ◌&&◌, List, ◌∷◌, length, get_or, T, Float, Ok, Err}
use Rattle.std.proofs.Common.{suc-mul, mul-le-mul_right, zero-lt-suc, arith, sym, ap, ◌∙◌, subst, eqb→eq}
use Rattle.std.proofs.lemmas.List.{length-map}
use Rattle.std.specs.Float.{nan}
use Rattle.std.specs.Float.Ieee.{is_nan}
use Rattle.std.specs.Float.Ieee.Fits.{and_r}
use Rattle.rules.specs.Words.{from}
use Rattle.rules.specs.Lent.{WaitingForm, ForestRooms, unweighted}
use Rattle.rules.specs.Checks.{Test, test, numbered, checked, trees_in, shape_in, lengths, numbers_good, counts_good, counts_one}
use Rattle.rules.specs.Reading.{reads}
use Rattle.rules.specs.Forest.{ForestCall, grown_forest, tapes_good, forest_tests, forest_ends, fit_forest}
use Rattle.rules.specs.OutOfBag.{out_of_bag_means, out_of_bag_error}
use Rattle.lemmas.specs.Lists.{or-other, Every, each, every-imp, every-at, length_from}
use Rattle.lemmas.specs.Passed.{past-test, Passed, Binary64}
use Rattle.lemmas.specs.Answered.{forest-answered, forest-right}
use Rattle.demands.specs.Refusals.{ForestUnrefused, forest-passes}
use Rattle.demands.specs.OutOfBag.{own_means, own-done}
use Rattle.demands.specs.Means.{in-every-bag}
use Rattle.demands.specs.Error.{no-mean}
use Rattle.rules.specs.declared.FitError.{FitError}

-- ---- the statements

abbrev pub EveryCountOne : Type 1
EveryCountOne =
    (W : Type 0) (K : WaitingForm W) (C : ForestCall) (R : ForestRooms W) → unweighted C.given.weights ≡ false → ForestUnrefused (fit_forest K C R).answer
    → Every (λ k. k ≡ 1) C.given.counts

abbrev pub NoMeans : Type 1
NoMeans =
    (W : Type 0) (K : WaitingForm W) (C : ForestCall) (R : ForestRooms W) → unweighted C.given.weights ≡ false → Binary64 C.given.inputs.values
    → (fit_forest K C R).answer ≡ Ok tt → (out : List Float) → length out ≡ C.shape.rows → (i : ℕ) → i < C.shape.rows
    → ((own_means K C R out).answer ≡ (Ok tt)) × (get_or (own_means K C R out).rooms i nan ≡ nan)

abbrev pub NoError : Type 1
NoError =
    (W : Type 0) (K : WaitingForm W) (C : ForestCall) (R : ForestRooms W) → unweighted C.given.weights ≡ false → Binary64 C.given.inputs.values
    → (fit_forest K C R).answer ≡ Ok tt → (out : List Float) → length out ≡ C.shape.rows
    → out_of_bag_error C.shape.rows C.given.inputs.targets (own_means K C R out).rooms ≡ Err 18

abbrev pub OtherCount : Type 1
OtherCount =
    (W : Type 0) (K : WaitingForm W) (C : ForestCall) (R : ForestRooms W) → unweighted C.given.weights ≡ false
    → T (shape_in C.shape && trees_in C.trees) → T (lengths C.shape C.trees C.given && tapes_good C) → T (numbers_good C.given)
    → (k : ℕ) → k < length C.given.counts → (get_or C.given.counts k 0 ≡ 1 → ⊥) → (fit_forest K C R).answer ≡ Err (FitError.Refused (numbered 4))

-- ---- the counts

ones : (C : ForestCall) → unweighted C.given.weights ≡ false → T (counts_good C.given && counts_one C.given) → Every (λ k. k ≡ 1) C.given.counts
unfolding counts_one
ones C u t = every-imp _ _ (λ k h. eqb→eq k 1 h) C.given.counts (each _ C.given.counts (or-other (unweighted C.given.weights) _ u (and_r (counts_good C.given) _ t)))

passed-ones : {W : Type 0} (K : WaitingForm W) (C : ForestCall) (R : ForestRooms W) → unweighted C.given.weights ≡ false → checked (forest_tests K C R) ≡ Ok tt
    → Every (λ k. k ≡ 1) C.given.counts
unfolding forest_tests
passed-ones K C R u h₁ =
    let (t₁, h₂) = past-test _ _ h₁ in let (t₂, h₃) = past-test _ _ h₂ in let (t₃, h₄) = past-test _ _ h₃ in let (t₄, h₅) = past-test _ _ h₄ in ones C u t₄

pub every-count-one : EveryCountOne
every-count-one W K C R u h = passed-ones K C R u (forest-passes K C R h)

-- ---- its means

pub no-means : NoMeans
no-means W K C R u held h out o i b = (
  done,
  in-every-bag C.shape C.given.inputs.values C.given.counts _ out i b (λ t l. subst (λ k. 0 < k) (sym (one t l)) (zero-lt-suc 0)) done,
)
  where
    done : (own_means K C R out).answer ≡ Ok tt
    done = own-done K C R held h out o

    inside : (t trees rows i n : ℕ) → t < trees → i < rows → n ≡ trees * rows → t * rows + i < n
    inside t trees rows i n a b e = omega (arith, mul-le-mul_right rows a, suc-mul t rows)

    one : (t : ℕ) → t < C.trees → get_or C.given.counts (t * C.shape.rows + i) 0 ≡ 1
    one t l =
        let a = forest-answered K C R h in
        every-at (λ k. k ≡ 1) C.given.counts 0 (t * C.shape.rows + i) (passed-ones K C R u a.passed)
        (inside t C.trees C.shape.rows i (length C.given.counts) l b (forest-right K C R a).passed.counts_long)

-- ---- their error

read-long : (n k : ℕ) (results out : List Float) → length results ≡ k → length out ≡ k → length (reads n results out).rooms ≡ k
unfolding reads
read-long zero k results out r o = r
read-long (suc n) k results out r o = o

pub no-error : NoError
unfolding out_of_bag_means is_nan
no-error W K C R u held h out o =
    no-mean C.shape.rows C.given.inputs.targets (own_means K C R out).rooms
    (record {
      some = p.some_rows;
      few = p.few_rows;
      targets = p.targets_long;
      means = read-long _ C.shape.rows _ out (length-map (from 0 C.shape.rows) _ ∙ length_from 0 C.shape.rows) o;
    })
    (λ i b. ap (λ m. not (is_nan m)) (no-means W K C R u held h out o i b).1)
  where
    p : Passed C.shape C.trees C.given
    p = (forest-right K C R (forest-answered K C R h)).passed

-- ---- another count

fourth : (a b c d : Bool) (ts : List Test) → T a → T b → T c → (T d → ⊥) → checked (test 1 a ∷ test 2 b ∷ test 3 c ∷ test 4 d ∷ ts) ≡ Err (numbered 4)
unfolding checked
fourth true true true true ts p q r h = absurd (h tt)
fourth true true true false ts p q r h = refl
fourth true true false d ts p q r h = absurd r
fourth true false c d ts p q r h = absurd q
fourth false b c d ts p q r h = absurd p

pub other-count : OtherCount
unfolding fit_forest forest_ends forest_tests
other-count W K C R u p q r k b other = λ i. (forest_ends K (failed i) (grown_forest C) R).answer
  where
    failed : checked (forest_tests K C R) ≡ Err (numbered 4)
    failed = fourth _ _ _ _ _ p q r (λ t. other (every-at (λ n. n ≡ 1) C.given.counts 0 k (ones C u t) b))
