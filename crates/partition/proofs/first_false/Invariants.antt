-- `partition::first_false` meets its contract: the rows passed are all flagged. Assumes nothing.
use Rattle.sweeps.specs.Swept.{flagged}
use Rattle.partition.specs.Looks.{Front}
use Rattle.partition.proofs.first_false.Given as goal

abbrev pub invariant-loop-k : goal.invariant-loop-k
invariant-loop-k l = Front (flagged l.flags) l.col l.k
