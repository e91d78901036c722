-- `search::best::run_before` meets its contract: by whether the last value is a zero. Assumes nothing.
use Rattle.std.proofs.Common.{sym, subst, T}
use Rattle.std.proofs.lemmas.Bool.{not-true}
use lib.Ieee.{binary64, fits, ne}
use Rattle.lemmas.specs.Cells.{cell_lies}
use Rattle.search.specs.Stretches.{values_read}
use Rattle.search.specs.Runs.{run-last}
use Rattle.search.proofs.best.run_before.Goals as goal

pub returns-then-v : goal.returns-then-v
unfolding ne
returns-then-v c =
    let s = c.args.col.now in
    run-last (values_read s) s.rows.now (λ r. subst (λ u. T (fits binary64 u)) (sym (cell_lies s.shape.features s.input.values.now r s.feature s.one)) (c.value-v.ensures.floats _))
    c.args.n c.if-n-gt0.true c.value-v.ensures.value (not-true _ c.if-v.true)
