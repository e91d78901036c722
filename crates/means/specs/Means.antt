-- The tests that both calls for means end with, what passed tests say, and the means over all trees as means without counts. Assumes nothing.
use Rattle.std.specs.Prelude.{ℕ, ◌<◌, ◌≡◌, true, ◌&&◌, List, [], ◌∷◌, map, length, eqb, Float}
use Rattle.std.proofs.Common.{arith}
use borrow.Author.Tests.{eqb-true}
use Rattle.rules.specs.declared.Shape.{Shape}
use Rattle.rules.specs.Words.{from, every}
use Rattle.rules.specs.Lent.{values_at}
use Rattle.rules.specs.Checks.{Test, test, shape_in, trees_in, values_long}
use Rattle.rules.specs.Table.{good_tree, ForestTable, starts_good, trees_of, good_forest, starts_enough}
use Rattle.rules.specs.Reading.{mean_of}
use Rattle.rules.specs.OutOfBag.{out_of_bag_mean}
use Rattle.checks.specs.Asks.{Ranges}
use Rattle.lemmas.specs.Tests.{and_both, within-top, rows-low}
use Rattle.walks.specs.Walks.{features-some}
use Rattle.means.specs.Sums.{ForestReadable, out-all}

abbrev pub table_tests : Shape → List Float → ForestTable → List Float → List Test
table_tests S xs F out =
    test 2 (values_long S xs)
    ∷ test 6 (eqb (length out) S.rows && starts_enough F)
    ∷ test 8 (good_forest S.features F)
    ∷ []

-- ---- what passed tests say

pub ranges : (S : Shape) (trees : ℕ) → (shape_in S && trees_in trees) ≡ true → Ranges S trees
ranges S trees h = let (s, t) = and_both (shape_in S) (trees_in trees) h in record { shape = s; few = within-top 1024 trees t }

pub readable : (S : Shape) (xs : List Float) (F : ForestTable) (out : List Float) → Ranges S F.trees → values_long S xs ≡ true → length out ≡ S.rows → F.trees < length F.starts
    → good_forest S.features F ≡ true → ForestReadable S.rows S.features xs F out
unfolding good_forest
readable S xs F out r l o s g =
    let (x, y) = and_both (starts_good F) (every (good_tree S.features) (trees_of F)) g in
    record {
      trees = record { lying = record { started = record { few = r.few; long = omega arith }; good = x }; good = y };
      some = features-some S r.shape;
      few = rows-low S r.shape;
      long = eqb-true _ _ l;
      room = o;
    }

-- ---- without counts

pub all_means : (S : Shape) (xs : List Float) (F : ForestTable) → map (out_of_bag_mean S xs [] F) (from 0 S.rows) ≡ map (λ i. mean_of (trees_of F) (values_at S.features xs i)) (from 0 S.rows)
unfolding out_of_bag_mean
all_means S xs F = λ r. map (λ i. mean_of (out-all S.rows i 0 (trees_of F) r) (values_at S.features xs i)) (from 0 S.rows)
