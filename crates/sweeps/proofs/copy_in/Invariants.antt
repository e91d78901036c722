-- `sweeps::copy_in` meets its contract: after j turns the first j are pasted. Assumes nothing.
use Rattle.std.proofs.Common.{◌≡◌}
use lib.Seq.{paste}
use Rattle.sweeps.proofs.copy_in.Given as goal

abbrev pub invariant-loop-j : goal.invariant-loop-j
invariant-loop-j l = l.dst ≡ paste l.initial.dst l.at l.src l.j
