-- What an out-of-bag error can be. It is over at least one row and at most all, and a call whose sizes and lengths are in order is refused if no row has a mean, by 18, and only then;
-- with a refusal error and number are told as 0. Where every row has a mean, the sum is divided by the number of all rows, and that is the number told; elsewhere the error is not below
-- that sum divided by the number of all rows. It is never below 0: it is a sum of squares over a number of rows. And where each row's mean is its target, a finite one, or the row has
-- none, it is 0. Assumes nothing.
use Rattle.std.specs.Prelude.{ℕ, zero, suc, ◌+◌, ◌<◌, ◌≤◌, ◌≡◌, refl, ◌⊎◌, Bool, true, false, not, ◌&&◌, cond, List, [], ◌∷◌, length, get_or, T, ltb, leb, eqb, Float, Ok, Err}
use Rattle.std.proofs.Common.{suc-le-suc, zero-lt-suc, arith, sym, ap, ◌∙◌, subst, inl, inr, ltb→lt, leb→le, eqb→eq, eq-eqb, lt-ltb, le-leb}
use Rattle.std.specs.Float.{nan, binary64}
use Rattle.std.specs.Float.Ieee.{add, sub, mul, div, lt, is_nan, of_int, of_bits}
use Rattle.std.specs.Float.Ieee.Fits.{and_l, and_r}
use Rattle.std.specs.Float.Ieee.Scale.{finite}
use Rattle.floats.specs.Zero.{sub-none, zero-div64}
use Rattle.floats.specs.Count.{count-above, by-more}
use Rattle.floats.specs.Sign.{side, round-side, add-side, square-side, div-side, not-below}
use Rattle.rules.specs.declared.Figure.{Figure}
use Rattle.rules.specs.Words.{nought, float, keep, put_if}
use Rattle.rules.specs.Checks.{test, numbered, checked, number_of, first_failed, within}
use Rattle.rules.specs.Answers.{error_told}
use Rattle.rules.specs.OutOfBag.{square_off, add_squares, rows_with_mean, figure, errs, error_tests, out_of_bag_error}
use Rattle.lemmas.specs.Lists.{keep-short}
use Rattle.lemmas.specs.Passed.{past}

-- ---- the statements

abbrev pub SomeRows : Type 0
SomeRows = (rows : ℕ) (ys ms : List Float) (f : Figure) → out_of_bag_error rows ys ms ≡ Ok f → (1 ≤ f.rows) × (f.rows ≤ rows)

-- one target and one mean, which may be NaN, for each of 1 to 65,535 rows
pub record InOrder (rows : ℕ) (ys ms : List Float) : Type 0 where
  pub some : 1 ≤ rows
  pub few : rows ≤ 65535
  pub targets : length ys ≡ rows
  pub means : length ms ≡ rows

abbrev pub has_mean : List Float → ℕ → Bool
has_mean ms i = not (is_nan (get_or ms i nan))

abbrev pub NoMean : Type 0
NoMean = (rows : ℕ) (ys ms : List Float) → InOrder rows ys ms → ((i : ℕ) → i < rows → has_mean ms i ≡ false) → out_of_bag_error rows ys ms ≡ Err 18

abbrev pub OneMean : Type 0
OneMean = (rows : ℕ) (ys ms : List Float) → InOrder rows ys ms → (i : ℕ) → i < rows → has_mean ms i ≡ true → out_of_bag_error rows ys ms ≡ Ok (figure ys ms)

abbrev pub RefusedZero : Type 0
RefusedZero =
    (rows : ℕ) (ys ms : List Float) (n : ℕ) → out_of_bag_error rows ys ms ≡ Err n
    → error_told (out_of_bag_error rows ys ms) ≡ record { number = n; error = nought; rows = 0 }

-- the sum, divided by the number of all rows
abbrev pub over_all : ℕ → List Float → List Float → Float
over_all rows ys ms = div binary64 (add_squares nought ys ms) (float rows)

abbrev pub AllMeans : Type 0
AllMeans =
    (rows : ℕ) (ys ms : List Float) → InOrder rows ys ms → ((i : ℕ) → i < rows → has_mean ms i ≡ true)
    → out_of_bag_error rows ys ms ≡ Ok (record { error = over_all rows ys ms; rows = rows })

abbrev pub NeverLower : Type 0
NeverLower = (rows : ℕ) (ys ms : List Float) (f : Figure) → out_of_bag_error rows ys ms ≡ Ok f → lt f.error (over_all rows ys ms) ≡ false

abbrev pub NeverBelow : Type 0
NeverBelow = (rows : ℕ) (ys ms : List Float) (f : Figure) → out_of_bag_error rows ys ms ≡ Ok f → lt f.error nought ≡ false

-- row i has no mean, or it is its target
abbrev pub Met : List Float → List Float → ℕ → Type 0
Met ys ms i = (get_or ms i nan ≡ nan) ⊎ ((get_or ms i nan ≡ get_or ys i nan) × T (finite (get_or ys i nan)))

abbrev pub NoneOff : Type 0
NoneOff =
    (rows : ℕ) (ys ms : List Float) → ((i : ℕ) → i < rows → Met ys ms i) → (f : Figure) → out_of_bag_error rows ys ms ≡ Ok f
    → f.error ≡ nought

-- ---- what an answer tells of the call

-- the figure that an answer holds
errs-is : (k : ℕ) (x f : Figure) → errs k x ≡ Ok f → (k ≡ 0) × (x ≡ f)
unfolding errs
errs-is zero x f h = (refl, cc)
errs-is (suc k) x f h = let z : ◌≡◌ {A = ℕ} 0 1 = cc in absurd (omega arith)

record Answered (rows : ℕ) (ys ms : List Float) (f : Figure) : Type 0 where
  few : rows ≤ 65535
  targets : length ys ≡ rows
  means : length ms ≡ rows
  some : 0 < rows_with_mean ms
  most : rows_with_mean ms ≤ rows
  is : figure ys ms ≡ f

answered : (rows : ℕ) (ys ms : List Float) (f : Figure) → out_of_bag_error rows ys ms ≡ Ok f → Answered rows ys ms f
unfolding out_of_bag_error error_tests within rows_with_mean
answered rows ys ms f h =
    let (q, x) = errs-is (first_failed (error_tests rows ys ms)) (figure ys ms) f h in
    let (t₁, q₂) = past 0 _ _ q in
    let (t₂, q₃) = past 1 _ _ q₂ in
    let (t₃, q₄) = past 17 _ _ q₃ in
    let l = eqb→eq (length ms) rows (and_r (eqb (length ys) rows) (eqb (length ms) rows) t₂) in
    record {
      few = leb→le rows 65535 (and_r (leb 1 rows) (leb rows 65535) t₁);
      targets = eqb→eq (length ys) rows (and_l (eqb (length ys) rows) (eqb (length ms) rows) t₂);
      means = l;
      some = ltb→lt 0 (rows_with_mean ms) t₃;
      most = omega (arith, keep-short (λ m. not (is_nan m)) ms, l);
      is = x;
    }

-- the answer of a call that is in order, by the last test
in_order : (rows : ℕ) (ys ms : List Float) → InOrder rows ys ms → (b : Bool) → ltb 0 (rows_with_mean ms) ≡ b
    → out_of_bag_error rows ys ms ≡ errs (number_of (cond b (Ok tt) (Err (numbered 18)))) (figure ys ms)
unfolding out_of_bag_error error_tests checked within
in_order rows ys ms o b e =
    λ i. errs (first_failed (test 1 (le-leb 1 rows o.some i && le-leb rows 65535 o.few i)
    ∷ test 2 (eq-eqb (length ys) rows o.targets i && eq-eqb (length ms) rows o.means i) ∷ test 18 (e i) ∷ [])) (figure ys ms)

-- ---- how many rows

counted : (m : Float) (ms : List Float) (b : Bool) → not (is_nan m) ≡ b → rows_with_mean (m ∷ ms) ≡ cond b 1 0 + rows_with_mean ms
unfolding rows_with_mean keep put_if
counted m ms b e = ap (λ b. length (put_if b m (keep (λ x. not (is_nan x)) ms))) e ∙ go b
  where
    go : (b : Bool) → length (put_if b m (keep (λ x. not (is_nan x)) ms)) ≡ cond b 1 0 + length (keep (λ x. not (is_nan x)) ms)
    go true = omega arith
    go false = omega arith

none-counted : (ms : List Float) → ((i : ℕ) → i < length ms → has_mean ms i ≡ false) → rows_with_mean ms ≡ 0
unfolding rows_with_mean keep
none-counted [] h = refl
none-counted (m ∷ ms) h = omega (arith, counted m ms false (h 0 (zero-lt-suc (length ms))), none-counted ms (λ i b. h (suc i) (suc-le-suc b)))

all-counted : (ms : List Float) → ((i : ℕ) → i < length ms → has_mean ms i ≡ true) → rows_with_mean ms ≡ length ms
unfolding rows_with_mean keep
all-counted [] h = refl
all-counted (m ∷ ms) h = omega (arith, counted m ms true (h 0 (zero-lt-suc (length ms))), all-counted ms (λ i b. h (suc i) (suc-le-suc b)))

one-counted : (ms : List Float) (i : ℕ) → i < length ms → has_mean ms i ≡ true → 0 < rows_with_mean ms
one-counted [] i b h = omega arith
one-counted (m ∷ ms) zero b h = omega (arith, counted m ms true h)
one-counted (m ∷ ms) (suc i) b h = omega (arith, counted m ms (not (is_nan m)) refl, one-counted ms i (omega arith) h)

pub no-mean : NoMean
unfolding errs
no-mean rows ys ms o h = in_order rows ys ms o false (ap (ltb 0) (none-counted ms (λ i b. h i (subst (λ n. i < n) o.means b))))

pub one-mean : OneMean
unfolding errs
one-mean rows ys ms o i b h = in_order rows ys ms o true (lt-ltb 0 (rows_with_mean ms) (one-counted ms i (subst (λ n. i < n) (sym o.means) b) h))

pub all-means : AllMeans
unfolding figure errs
all-means rows ys ms o h =
    let all = all-counted ms (λ i b. h i (subst (λ n. i < n) o.means b)) ∙ o.means in
    in_order rows ys ms o true (lt-ltb 0 (rows_with_mean ms) (omega (arith, all, o.some)))
    ∙ ap (λ n. Ok (record { error = div binary64 (add_squares nought ys ms) (float n); rows = n })) all

pub refused-zero : RefusedZero
refused-zero rows ys ms n h = ap error_told h

pub some-rows : SomeRows
unfolding figure
some-rows rows ys ms f h = let a = answered rows ys ms f h in (subst (λ n. 1 ≤ n) (ap (λ f. f.rows) a.is) a.some, subst (λ n. n ≤ rows) (ap (λ f. f.rows) a.is) a.most)

-- ---- never below 0

squares-side : (s : Float) (ys ms : List Float) → T (side false s) → T (side false (add_squares s ys ms))
unfolding add_squares square_off
squares-side s [] ms h = h
squares-side s (y ∷ ys) [] h = h
squares-side s (y ∷ ys) (m ∷ ms) h =
    squares-side (cond (is_nan m) s (add binary64 s (square_off y m))) ys ms (go (is_nan m))
  where
    go : (b : Bool) → T (side false (cond b s (add binary64 s (square_off y m))))
    go true = h
    go false = add-side binary64 false s (square_off y m) h (square-side binary64 (sub binary64 y m))

pub never-below : NeverBelow
unfolding figure of_bits of_int
never-below rows ys ms f h =
    let n = float (rows_with_mean ms) in
    subst (λ f. lt f.error nought ≡ false) (answered rows ys ms f h).is
    (not-below (div binary64 (add_squares nought ys ms) n)
    (div-side binary64 false (add_squares nought ys ms) n (squares-side nought ys ms tt) (round-side binary64 false (rows_with_mean ms) 1)))

pub never-lower : NeverLower
unfolding figure of_bits
never-lower rows ys ms f h =
    let a = answered rows ys ms f h in
    subst (λ f. lt f.error (over_all rows ys ms) ≡ false) a.is
    (by-more (add_squares nought ys ms) (rows_with_mean ms) rows (squares-side nought ys ms tt) a.some a.most (omega (arith, a.few)))

-- ---- 0 where each mean is its target

square-none : (y : Float) → T (finite y) → square_off y y ≡ nought
unfolding square_off mul of_bits
square-none y h = ap (λ d. mul binary64 d d) (sub-none y h)

squares-none : (ys ms : List Float) → ((i : ℕ) → i < length ys → Met ys ms i) → add_squares nought ys ms ≡ nought
unfolding add_squares is_nan add of_bits
squares-none [] ms h = refl
squares-none (y ∷ ys) [] h = refl
squares-none (y ∷ ys) (m ∷ ms) h = ap (λ s. add_squares s ys ms) (go (h 0 (zero-lt-suc (length ys)))) ∙ squares-none ys ms (λ i b. h (suc i) (suc-le-suc b))
  where
    same : (b : Bool) → cond b nought (add binary64 nought nought) ≡ nought
    same true = refl
    same false = refl

    go : (m ≡ nan) ⊎ ((m ≡ y) × T (finite y)) → cond (is_nan m) nought (add binary64 nought (square_off y m)) ≡ nought
    go (inl q) = ap (λ x. cond (is_nan x) nought (add binary64 nought (square_off y x))) q
    go (inr (q, f)) = ap (λ x. cond (is_nan m) nought (add binary64 nought x)) (ap (square_off y) q ∙ square-none y f) ∙ same (is_nan m)

pub none-off : NoneOff
unfolding figure of_bits
none-off rows ys ms h f r =
    let a = answered rows ys ms f r in
    sym (ap (λ f. f.error) a.is)
    ∙ ap (λ s. div binary64 s (float (rows_with_mean ms))) (squares-none ys ms (λ i b. h i (subst (λ n. i < n) a.targets b)))
    ∙ zero-div64 (float (rows_with_mean ms)) (count-above (rows_with_mean ms) a.some)
