-- `model_write::tree_size` meets its contract: the bytes of the nodes before k and of those from k on are all bytes. Assumes nothing.
use Rattle.std.proofs.Common.{arith, refl, ◌≤◌, get_or}
use Rattle.lemmas.specs.Scans.{total-adds, total-ends}
use Rattle.model_write.specs.Sizes.{tree_long, node-low}
use Rattle.model_write.proofs.tree_size.Goals as goal

pub loop-k-init : goal.loop-k-init
unfolding tree_long
loop-k-init c = record { few = omega arith; all = refl }

pub overflow_add-sum : goal.overflow_add-sum
overflow_add-sum c =
    let low : c.node_size-sum.result ≤ 30 = omega (arith, c.node_size-sum.ensures, node-low (get_or c.args.truechild.now c.loop-k.k 0)) in omega (arith, low, c.requires.few)

pub loop-k-preserved : goal.loop-k-preserved
loop-k-preserved c =
    let low : c.node_size-sum.result ≤ 30 = omega (arith, c.node_size-sum.ensures, node-low (get_or c.args.truechild.now c.loop-k.k 0)) in record {
      few = omega (arith, low, c.loop-k.invariant.few);
      all = total-adds _ c.args.e c.loop-k.k c.loop-k.sum _ c.loop-k-test.true c.loop-k.invariant.all c.node_size-sum.ensures;
    }

pub returns : goal.returns
returns c = total-ends _ c.args.e c.loop-k.k c.loop-k.sum c.loop-k-test.false c.loop-k.invariant.all
