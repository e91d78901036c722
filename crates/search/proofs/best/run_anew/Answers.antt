-- `search::best::run_anew` meets its contract: the loop's invariant: the value is that of the run before place i. Assumes nothing.
use Rattle.std.proofs.Common.{sym, ◌∙◌, cond}
use lib.Ieee.{eq}
use Rattle.search.specs.Flat.{run_at}
use Rattle.search.specs.Stretches.{values_read}
use Rattle.search.specs.Runs.{run-next}
use Rattle.search.proofs.best.run_anew.Goals as goal

pub loop-i-init : goal.loop-i-init
unfolding run_at
loop-i-init c = c.value-v.ensures.value

pub loop-i-preserved : goal.loop-i-preserved
loop-i-preserved c =
    let l = c.loop-i in
    let s = c.args.col.now in
    c.run_on-v.ensures ∙ (λ k. cond (eq (c.value.ensures.value k) (l.invariant k)) (l.invariant k) (c.value.ensures.value k)) ∙ sym (run-next (values_read s) s.rows.now l.i)
