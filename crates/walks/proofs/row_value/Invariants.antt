-- `walks::row_value` meets its contract: the walk is where the definition's is after as many steps, and stops at a leaf. Assumes nothing.
use Rattle.std.proofs.Common.{◌-◌}
use Rattle.rules.specs.Lent.{values_at, entries_at}
use Rattle.rules.specs.Slices.{columns_in}
use Rattle.walks.specs.Walks.{Reached}
use Rattle.walks.proofs.row_value.Given as goal

abbrev pub invariant-loop-k : goal.invariant-loop-k
invariant-loop-k l = Reached l.n (entries_at (columns_in l.table) l.a l.n) (values_at l.features l.values l.i) l.k

abbrev pub decreases-loop-k : goal.decreases-loop-k
decreases-loop-k l = l.n - l.k
