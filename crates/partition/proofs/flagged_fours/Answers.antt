-- `partition::flagged_fours` meets its contract: the rows passed are all flagged, four more in a turn. Assumes nothing.
use Rattle.std.proofs.Common.{arith}
use Rattle.partition.specs.Stays.{front-four}
use Rattle.partition.proofs.flagged_fours.Goals as goal

pub loop-k-preserved : goal.loop-k-preserved
loop-k-preserved c =
    front-four _ _ c.loop-k.k c.loop-k.invariant (omega arith) c.flag_at-a.ensures c.flag_at-b.ensures c.flag_at-c.ensures c.flag_at-d.ensures c.if-not-a-b.false
