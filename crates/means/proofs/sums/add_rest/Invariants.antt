-- `means::sums::add_rest` meets its contract: the places before row i have taken the tree in. Assumes nothing.
use Rattle.means.specs.Rows.{Further}
use Rattle.means.specs.Sums.{with_tree_of}
use Rattle.means.proofs.sums.add_rest.Given as goal

abbrev pub invariant-loop-i : goal.invariant-loop-i
invariant-loop-i l = Further (with_tree_of l.sample l.tree) l.first l.i l.initial.out l.out
