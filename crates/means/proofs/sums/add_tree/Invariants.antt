-- `means::sums::add_tree` meets its contract: the places of the first s sixes have taken the tree in. Assumes nothing.
use Rattle.std.proofs.Common.{◌*◌}
use Rattle.means.specs.Rows.{Further}
use Rattle.means.specs.Sums.{with_tree_of}
use Rattle.means.proofs.sums.add_tree.Given as goal

abbrev pub invariant-loop-s : goal.invariant-loop-s
invariant-loop-s l = Further (with_tree_of l.sample l.tree) 0 (6 * l.s) l.initial.out l.out
