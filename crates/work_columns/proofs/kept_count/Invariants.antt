-- `work_columns::kept_count` meets its contract: what it has, with the kept counts from row i on, is the whole, which fits. Assumes nothing.
use Rattle.rules.specs.Lent.{count_in, kept_in}
use Rattle.work_columns.specs.Setup.{Counting}
use Rattle.work_columns.proofs.kept_count.Given as goal

abbrev pub invariant-loop-i : goal.invariant-loop-i
invariant-loop-i l = Counting (count_in l.counts) (kept_in l.weights l.counts) l.rows l.n l.i
