-- `work_columns::kept_count` meets its contract: what it has, with the kept counts from row i on, is the whole, which fits. Assumes nothing.
use Rattle.std.proofs.Common.{arith, sym, ◌∙◌, ◌<◌}
use Rattle.rules.specs.Lent.{count_in}
use Rattle.work_columns.specs.Rows.{keeps_in}
use Rattle.work_columns.specs.Setup.{low-total, counting-fits, counting_kept, counting-left, counting-done}
use Rattle.work_columns.proofs.kept_count.Goals as goal
use Rattle.work_columns.proofs.kept_count.Goals.{then-is_kept, else-is_kept}

pub overflow_add-n : goal.overflow_add-n
unfolding count_in
overflow_add-n c =
    let counts = c.args.input.now.counts.now in
    let p = keeps_in c.args.input.now in
    omega (
      arith,
      counting-fits (count_in counts) p c.args.rows _ _ c.loop-i.invariant (omega arith) (sym c.is_kept.ensures ∙ c.if-is_kept.true),
      low-total counts c.args.rows p c.requires.few c.requires.low,
    )

pub loop-i-preserved : goal.loop-i-preserved
unfolding count_in
loop-i-preserved c =
    let counts = c.args.input.now.counts.now in
    let p = keeps_in c.args.input.now in
    let h : c.loop-i.i < c.args.rows = omega arith in
    elim c.if-is_kept.branch [
      | then-is_kept u ↦ rw u.n-is (counting_kept (count_in counts) p c.args.rows _ _ c.loop-i.invariant h (sym c.is_kept.ensures ∙ u.if-is_kept.true))
      | else-is_kept u ↦ rw u.n-is (counting-left (count_in counts) p c.args.rows _ _ c.loop-i.invariant h (sym c.is_kept.ensures ∙ u.if-is_kept.false))
    ]

pub returns : goal.returns
returns c = counting-done _ _ _ _ _ c.loop-i.invariant (omega arith)
