-- `walks::six_leaves` meets its contract: each row is where its own walk is, until all have come to leaves. Assumes nothing.
use Rattle.std.proofs.Common.{◌-◌, ◌*◌}
use Rattle.rules.specs.Slices.{columns_in}
use Rattle.walks.specs.Sixes.{SixReached, added}
use Rattle.walks.proofs.six_leaves.Given as goal

abbrev pub invariant-loop-six : goal.invariant-loop-six
invariant-loop-six l = SixReached l.features l.n l.i l.values (columns_in l.table) l.six

abbrev pub decreases-loop-six : goal.decreases-loop-six
decreases-loop-six l = 6 * l.n - added l.six
