-- `partition::flagged_fours` meets its contract: the rows passed are all flagged, four more in a turn. Assumes nothing.
use Rattle.std.proofs.Common.{◌-◌, length}
use Rattle.sweeps.specs.Swept.{flagged}
use Rattle.partition.specs.Looks.{Front}
use Rattle.partition.proofs.flagged_fours.Given as goal

abbrev pub invariant-loop-k : goal.invariant-loop-k
invariant-loop-k l = Front (flagged l.flags) l.col l.k

abbrev pub decreases-loop-k : goal.decreases-loop-k
decreases-loop-k l = length l.col - l.k
