-- `means::sums::add_rest` meets its contract: the places before row i have taken the tree in. Assumes nothing.
use Rattle.std.proofs.Common.{arith}
use Rattle.means.specs.Rows.{further-next}
use Rattle.means.specs.Sums.{with_tree_of}
use Rattle.means.proofs.sums.add_rest.Goals as goal

pub loop-i-preserved : goal.loop-i-preserved
loop-i-preserved c =
    further-next (with_tree_of c.args.sample.now c.args.tree.now) c.args.first c.loop-i.i c.args.out.now c.loop-i.out c.sum_with.result (omega (arith, c.requires.readable.room))
    c.loop-i.invariant c.sum_with.ensures
