-- `means::sums::add_six` meets its contract: k of the six are added. Assumes nothing.
use Rattle.std.proofs.Common.{refl}
use Rattle.means.specs.Rows.{lay-next, lay-last}
use Rattle.means.proofs.sums.add_six.Goals as goal

pub loop-k-preserved : goal.loop-k-preserved
loop-k-preserved c = lay-next _ c.args.i c.args.out.now c.loop-k.k c.loop-k.out _ c.loop-k-test.true c.requires c.loop-k.invariant refl

pub returns : goal.returns
returns c = lay-last _ c.args.i c.args.out.now c.loop-k.k c.loop-k.out c.loop-k-test.false c.loop-k.invariant
