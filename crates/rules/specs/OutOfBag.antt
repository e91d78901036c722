-- Out-of-bag means, the error of the means, and refusals 9, 10 and 18.
use Rattle.std.specs.Prelude.{ℕ, zero, suc, ◌+◌, ◌*◌, not, ◌&&◌, cond, List, [], ◌∷◌, map, length, get_or, ltb, eqb, Float, Ok, Err}
use Rattle.std.specs.Float.{binary64}
use Rattle.std.specs.Float.Ieee.{add, sub, mul, div, is_nan}
use Rattle.rules.specs.declared.Shape.{Shape}
use Rattle.rules.specs.Results.{Reply, ErrorReply}
use Rattle.rules.specs.declared.Figure.{Figure}
use Rattle.rules.specs.Words.{nought, float, from, put_if, keep}
use Rattle.rules.specs.Lent.{Entry, Outcome, values_at}
use Rattle.rules.specs.Checks.{Test, test, first_failed, rows_in, trees_in, shape_in, values_long}
use Rattle.rules.specs.Table.{ForestTable, trees_of, good_forest, starts_enough}
use Rattle.rules.specs.Reading.{mean_of, reads}

-- ---- means; over no tree it is 0/0, a NaN

-- R14.1: of the trees from tree t on, those for which row i counts 0
unfoldable pub out_trees : ℕ → List ℕ → ℕ → ℕ → List (List Entry) → List (List Entry)
out_trees rows counts i t [] = []
out_trees rows counts i t (es ∷ ts) = put_if (eqb (get_or counts (t * rows + i) 0) 0) es (out_trees rows counts i (suc t) ts)

-- R14.2
unfoldable pub out_of_bag_mean : Shape → List Float → List ℕ → ForestTable → ℕ → Float
out_of_bag_mean S xs counts T i = mean_of (out_trees S.rows counts i 0 (trees_of T)) (values_at S.features xs i)

-- R14.3
unfoldable pub out_tests : Shape → List Float → List ℕ → ForestTable → List Float → List Test
out_tests S xs counts T out =
    test 1 (shape_in S && trees_in T.trees)
    ∷ test 9 (ltb 0 (length counts))
    ∷ test 10 (eqb (length counts) (T.trees * S.rows))
    ∷ test 2 (values_long S xs)
    ∷ test 6 (eqb (length out) S.rows && starts_enough T)
    ∷ test 8 (good_forest S.features T)
    ∷ []

-- R14.3
unfoldable pub out_of_bag_means : Shape → List Float → List ℕ → ForestTable → List Float → Outcome Reply (List Float)
out_of_bag_means S xs counts T out = reads (first_failed (out_tests S xs counts T out)) (map (out_of_bag_mean S xs counts T) (from 0 S.rows)) out

-- ---- the error

-- R14.4
unfoldable pub square_off : Float → Float → Float
square_off y m = mul binary64 (sub binary64 y m) (sub binary64 y m)

-- R14.4: rows without a mean are passed over
unfoldable pub add_squares : Float → List Float → List Float → Float
add_squares s [] ms = s
add_squares s (y ∷ ys) [] = s
add_squares s (y ∷ ys) (m ∷ ms) = add_squares (cond (is_nan m) s (add binary64 s (square_off y m))) ys ms

-- R14.5: the number of rows that have a mean
unfoldable pub rows_with_mean : List Float → ℕ
rows_with_mean ms = length (keep (λ m. not (is_nan m)) ms)

-- R14.5: the sum is divided by the number of these rows alone
unfoldable pub figure : List Float → List Float → Figure
figure ys ms = record { error = div binary64 (add_squares nought ys ms) (float (rows_with_mean ms)); rows = rows_with_mean ms }

-- R14.6
unfoldable pub error_tests : ℕ → List Float → List Float → List Test
error_tests rows ys ms =
    test 1 (rows_in rows)
    ∷ test 2 (eqb (length ys) rows && eqb (length ms) rows)
    ∷ test 18 (ltb 0 (rows_with_mean ms))
    ∷ []

-- R14.6
unfoldable pub errs : ℕ → Figure → ErrorReply
errs zero f = Ok f
errs (suc n) f = Err (suc n)

-- R14.6
unfoldable pub out_of_bag_error : ℕ → List Float → List Float → ErrorReply
out_of_bag_error rows ys ms = errs (first_failed (error_tests rows ys ms)) (figure ys ms)
