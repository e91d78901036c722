-- The rehearsal table: P1 to P10, with P1's importances and node rooms, the out-of-bag errors of P8 and P1, and counts and masses of rows that weigh otherwise than they count, over
-- the whole calls, rooms included: of each node all eight columns. One list and one theorem, by computation. Beside it the two corners of the threshold. Assumes nothing.
use Rattle.std.specs.Prelude.{◌≡◌, refl, true, List, [], ◌∷◌, replicate, pos, Err, Some, None}
use Rattle.std.specs.Float.{nan, fin, binary64}
use Rattle.std.specs.Float.Ieee.{add, sub, div, lt, of_bits}
use Rattle.rules.specs.declared.Height.TheVariants.{Midpoint, Lower}
use Rattle.rules.specs.declared.Scale.TheVariants.{Normalised, ByMass}
use Rattle.rules.specs.Words.{float}
use Rattle.rules.specs.Threshold.{midpoint, threshold_between}
use Rattle.rules.specs.Checks.{numbered}
use Rattle.rules.specs.Listing.{fault}
use Rattle.rehearsal.specs.TableCalls.{given, rise, flats, ones, sorted, plain, zeros, sampled, deep, tree_by, tree, listed, forest, times, f0, f1, f2, f4, weighted, nine_floats, lent_of, lent, lent_all, beside, seven_at, seven, seven_beside, five_at, five, five_weighted, five_beside, three, three_beside, lone, says, one_leaf, no, results, one_tree, bag_of_p8, Call, fits, weighs, bags, Seen, read, run}

-- ---- the table

pub record Case : Type 0 where
  pub call : Call
  pub leaves : Seen

abbrev case : Call → Seen → Case
case c s = record { call = c; leaves = s }

unfoldable pub cases : List Case
cases =
    -- P1, with two places more than it needs
    case (fits (tree None 1 2 plain) (lent 9)) (says 7 3 f4 3 (seven 2) (seven_beside 2))
    -- P2
    ∷ case (fits (tree (Some 2) 1 2 plain) (lent 7)) (says 3 2 f4 1 three three_beside)
    -- P3
    ∷ case (fits (tree (Some 1) 1 2 plain) (lent 7)) (one_leaf 0)
    ∷ case (fits (tree (Some 0) 1 2 plain) (lent 7)) (one_leaf 0)
    -- P4
    ∷ case (fits (tree None 2 2 plain) (lent 7)) (says 3 2 f4 3 three three_beside)
    -- P5
    ∷ case (fits (tree None 3 2 plain) (lent 7)) (one_leaf 1)
    -- P6
    ∷ case (fits (tree None 1 5 plain) (lent 7)) (one_leaf 0)
    -- P7
    ∷ case (fits (tree None 1 2 (given (7 ∷ 7 ∷ 7 ∷ 7 ∷ []) flats ones sorted)) (lent 7)) (one_leaf 1)
    -- P8, in the five places that are asked: the tree, and the forest of it alone with the second row's out-of-bag value, also if that row's target is -1000; then the error is a million
    ∷ case (fits (tree None 1 2 (sampled flats)) (lent 5)) (says 5 3 f4 3 five (five_beside 0))
    ∷ case (fits (tree None 1 2 (sampled deep)) (lent 5)) (says 5 3 f4 3 five (five_beside 0))
    ∷ case (bags (forest (sampled flats)) (lent_all 5) (nine_floats 4)) (bag_of_p8 f0)
    ∷ case (bags (forest (sampled deep)) (lent_all 5) (nine_floats 4)) (bag_of_p8 (times 15625 6))
    -- P9: node room 1 is enough
    ∷ case (fits (tree None 1 2 (given rise flats (0 ∷ 0 ∷ 0 ∷ 0 ∷ []) sorted)) (lent 1)) (says 1 0 f0 0 (lone f0 0) (beside (0 ∷ []) (f0 ∷ []) 0))
    -- P10: row 1 again at place 2 of column 0, and row 2 is lacking
    ∷ case (fits (listed (0 ∷ 1 ∷ 1 ∷ 3 ∷ [])) (lent 7)) (no (fault 12 0 2 2) (lent 7))
    -- other faults: a row too large; a fall before a row met again; a row met again that also falls; lacking rows that other places do not hold, and the first
    ∷ case (fits (listed (0 ∷ 1 ∷ 4 ∷ 1 ∷ [])) (lent 7)) (no (fault 11 0 2 0) (lent 7))
    ∷ case (fits (listed (1 ∷ 0 ∷ 2 ∷ 1 ∷ [])) (lent 7)) (no (fault 13 0 1 0) (lent 7))
    ∷ case (fits (listed (0 ∷ 2 ∷ 0 ∷ 3 ∷ [])) (lent 7)) (no (fault 12 0 2 1) (lent 7))
    ∷ case (fits (listed (0 ∷ 0 ∷ 1 ∷ 2 ∷ [])) (lent 7)) (no (fault 12 0 1 3) (lent 7))
    ∷ case (fits (listed (1 ∷ 1 ∷ 2 ∷ 3 ∷ [])) (lent 7)) (no (fault 12 0 1 0) (lent 7))
    -- P1's importance: 1 normalised, 25 not
    ∷ case (weighs Normalised (tree None 1 2 plain) (lent 7) (nine_floats 1)) (read (results (f1 ∷ [])))
    ∷ case (weighs (ByMass (float 4)) (tree None 1 2 plain) (lent 7) (nine_floats 1)) (read (results (times 25 0 ∷ [])))
    -- P1's forest leaves no row out
    ∷ case (bags (forest plain) (lent_all 7) (nine_floats 4)) (one_tree 7 (seven 0) (seven_beside 0) (replicate 4 nan) (Err 18))
    -- node room 6 for P1, also in the two columns alone, and 7
    ∷ case (fits (tree None 1 2 plain) (lent 6)) (no (numbered 6) (lent 6))
    ∷ case (fits (tree None 1 2 plain) (lent_of 7 6 7)) (no (numbered 6) (lent_of 7 6 7))
    ∷ case (fits (tree None 1 2 plain) (lent_of 7 7 6)) (no (numbered 6) (lent_of 7 7 6))
    ∷ case (fits (tree None 1 2 plain) (lent 7)) (says 7 3 f4 3 (seven 0) (seven_beside 0))
    -- P1 at the lower of two values: 2, then 3 and 1
    ∷ case (fits (tree_by Lower None 1 2 plain) (lent 7)) (says 7 3 f4 3 (seven_at (f2 ∷ f1 ∷ times 3 0 ∷ []) 0) (seven_beside 0))
    -- of a run of both zeros it is the first, with its sign
    ∷ case (fits (tree_by Lower None 1 2 (zeros (0 ∷ 1 ∷ 2 ∷ 3 ∷ []))) (lent 7)) (says 5 3 f4 3 (five_at (fin true 0 (pos 0)) f1 2) (five_beside 2))
    ∷ case (fits (tree_by Lower None 1 2 (zeros (1 ∷ 0 ∷ 2 ∷ 3 ∷ []))) (lent 7)) (says 5 3 f4 3 (five_at f0 f1 2) (five_beside 2))
    -- where rows weigh otherwise than they count, and the last weighs nothing: it stands behind no node
    ∷ case (fits (tree None 1 2 weighted) (lent 6)) (says 5 3 f4 3 five_weighted (beside (4 ∷ 3 ∷ 1 ∷ 1 ∷ 2 ∷ []) (f4 ∷ times 3 0 ∷ f1 ∷ f2 ∷ f1 ∷ []) 1))
    ∷ []

abbrev pub Holds : List Case → Type 0
Holds [] = Unit {0}
Holds (c ∷ cs) = (run c.call ≡ c.leaves) × Holds cs

pub rehearsal : Holds cases
unfolding cases run
rehearsal = (
  refl,
  (
    refl,
    (
      refl,
      (
        refl,
        (
          refl,
          (
            refl,
            (
              refl,
              (
                refl,
                (
                  refl,
                  (refl, (refl, (refl, (refl, (refl, (refl, (refl, (refl, (refl, (refl, (refl, (refl, (refl, (refl, (refl, (refl, (refl, (refl, (refl, (refl, (refl, tt))))))))))))))))))))),
                ),
              ),
            ),
          ),
        ),
      ),
    ),
  ),
)

-- ---- the corners of the threshold

-- p = 1 + 2^-52, x = 1 + 2^-51: the middle rounds to x
pub rounds-up : threshold_between Midpoint (of_bits binary64 0x3ff0_0000_0000_0001) (of_bits binary64 0x3ff0_0000_0000_0002) ≡ of_bits binary64 0x3ff0_0000_0000_0001
unfolding threshold_between midpoint add sub div lt of_bits
rounds-up = refl

-- p = -1.7e308, x = 1.7e308: the difference is infinite
pub wide-gap : threshold_between Midpoint (of_bits binary64 0xffee_42d1_3077_3b76) (of_bits binary64 0x7fee_42d1_3077_3b76) ≡ of_bits binary64 0xffee_42d1_3077_3b76
unfolding threshold_between midpoint add sub div lt of_bits
wide-gap = refl
