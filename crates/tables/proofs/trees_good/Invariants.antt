-- `tables::trees_good` meets its contract: what is left to ask is asked of the trees from t on, and good starts lie inside the columns. Assumes nothing.
use Rattle.std.proofs.Common.{◌≡◌, Bool, ℕ}
use Rattle.rules.specs.Table.{ForestTable, good_tree, tree_at, trees_of}
use Rattle.rules.specs.Words.{every}
use Rattle.rules.specs.Slices.{forest_in}
use Rattle.lemmas.specs.Scans.{every_on}
use Rattle.tables.proofs.trees_good.Given as goal

abbrev pub good_at : ℕ → ForestTable → ℕ → Bool
good_at features F t = good_tree features (tree_at F.nodes F.starts t)

abbrev pub invariant-loop-t : goal.invariant-loop-t
invariant-loop-t l =
    every (good_tree l.features) (trees_of (forest_in l.forest)) ≡ every_on (good_at l.features (forest_in l.forest)) l.forest.number l.t
