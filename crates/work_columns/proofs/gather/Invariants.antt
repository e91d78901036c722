-- `work_columns::gather` meets its contract: the side so far, with the rows from i on, is the side of the whole stretch; and so are the whole and the flags. Assumes nothing.
use Rattle.work_columns.specs.Columns.{bare}
use Rattle.work_columns.specs.Pass.{Gathering}
use Rattle.work_columns.proofs.gather.Given as goal

abbrev pub invariant-loop-e : goal.invariant-loop-e
invariant-loop-e l = Gathering (bare l.targets l.weights l.counts) l.t l.initial.all l.col l.initial.flags l.side l.all l.flags l.e-index
