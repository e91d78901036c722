-- `slices::fill` meets its contract: after i turns the first i places hold the value. Assumes nothing.
use Rattle.std.proofs.Common.{arith}
use Rattle.slices.specs.Filling.{fill_start, fill-turn, fill_done}
use Rattle.slices.proofs.fill.Goals as goal

pub loop-x-init : goal.loop-x-init
loop-x-init g c = fill_start _ _

pub loop-x-preserved : goal.loop-x-preserved
loop-x-preserved g c = fill-turn _ _ _ _ c.loop-x.invariant (omega arith)

pub returns : goal.returns
returns g c = fill_done _ _ _ _ c.loop-x.invariant (omega arith)
