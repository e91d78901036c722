-- `importances::add_trees` meets its contract: what it has, with the trees from t on added, is the whole. Assumes nothing.
use Rattle.std.proofs.Common.{◌≡◌, length}
use Rattle.rules.specs.Slices.{forest_in}
use Rattle.rules.specs.Table.{trees_of}
use Rattle.rules.specs.Reading.{add_importances}
use Rattle.importances.specs.Scores.{importances_on}
use Rattle.importances.proofs.add_trees.Given as goal

abbrev pub invariant-loop-t : goal.invariant-loop-t
invariant-loop-t l = importances_on (length l.v) (forest_in l.forest) l.t l.v ≡ add_importances (length l.initial.v) l.initial.v (trees_of (forest_in l.forest))
