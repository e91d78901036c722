-- `work_columns::kept_columns` meets its contract: after k turns the first k columns begin with the kept rows of their listings, and each had as many. Assumes nothing.
use Rattle.std.proofs.Common.{◌<◌}
use Rattle.work_columns.specs.Columns.{KeptAll}
use Rattle.work_columns.specs.Rows.{keeps_in}
use Rattle.work_columns.proofs.kept_columns.Given as goal

abbrev pub invariant-loop-k : goal.invariant-loop-k
invariant-loop-k l = 0 < l.k → KeptAll (keeps_in l.input) l.rows l.k l.listings l.order l.n
