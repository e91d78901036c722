-- `work_columns::root_totals` meets its contract: what it has, with the rows from i on taken in, is the whole. Assumes nothing.
use Rattle.work_columns.specs.Columns.{bare}
use Rattle.work_columns.specs.Setup.{Adding}
use Rattle.work_columns.proofs.root_totals.Given as goal

abbrev pub invariant-loop-i : goal.invariant-loop-i
invariant-loop-i l = Adding (bare l.targets l.weights l.counts) l.rows l.t l.i
