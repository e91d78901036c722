-- `work_columns::partition_columns` meets its contract: after k turns the rows of the first k columns are parted, and column k is as it was; the column that is passed over is parted as it stands.
-- Assumes nothing.
use Rattle.std.proofs.Common.{Bool, List, ℕ}
use Rattle.sweeps.specs.Swept.{flagged, parted}
use Rattle.work_columns.specs.Stretches.{Going}
use Rattle.work_columns.proofs.partition_columns.Given as goal

abbrev pub way : List Bool → ℕ → List ℕ → List ℕ
way flags k = parted (flagged flags)

abbrev pub invariant-loop-k : goal.invariant-loop-k
invariant-loop-k l = Going l.fn.shape.rows l.start l.end (way l.flags) l.fn.shape.features l.initial.order l.order l.k
