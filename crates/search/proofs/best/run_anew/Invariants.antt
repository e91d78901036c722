-- `search::best::run_anew` meets its contract: the loop's invariant: the value is that of the run before place i. Assumes nothing.
use Rattle.std.proofs.Common.{◌≡◌}
use Rattle.search.specs.Stretches.{run_read}
use Rattle.search.proofs.best.run_anew.Given as goal

abbrev pub invariant-loop-i : goal.invariant-loop-i
invariant-loop-i l = l.v ≡ run_read l.col l.i
