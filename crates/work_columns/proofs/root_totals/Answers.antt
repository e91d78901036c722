-- `work_columns::root_totals` meets its contract: what it has, with the rows from i on taken in, is the whole. Assumes nothing.
use Rattle.std.proofs.Common.{arith, ap, ◌∙◌}
use Rattle.rules.specs.Totals.{take_in}
use Rattle.rules.specs.Fit.{element_in}
use Rattle.work_columns.specs.Rows.{bare_in}
use Rattle.work_columns.specs.Setup.{adding-turn, adding-done}
use Rattle.work_columns.proofs.root_totals.Goals as goal

pub loop-i-preserved : goal.loop-i-preserved
unfolding element_in
loop-i-preserved c =
    adding-turn (bare_in c.args.input.now) c.args.rows _ _ _ c.loop-i.invariant (omega arith) (c.take_in-t.ensures ∙ ap (take_in _ _) c.mass_of-m.ensures)

pub returns : goal.returns
returns c = adding-done _ _ _ _ c.loop-i.invariant (omega arith)
