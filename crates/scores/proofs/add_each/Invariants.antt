-- `scores::add_each` meets its contract: the places so far are added to. Assumes nothing.
use Rattle.std.proofs.Common.{◌≡◌}
use Rattle.scores.specs.Lists.{joined}
use Rattle.scores.proofs.add_each.Given as goal

abbrev pub invariant-loop-i : goal.invariant-loop-i
invariant-loop-i l = l.v ≡ joined l.initial.v l.w l.i
