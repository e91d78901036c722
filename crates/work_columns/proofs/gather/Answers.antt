-- `work_columns::gather` meets its contract: the side so far, with the rows from i on, is the side of the whole stretch; and so are the whole and the flags. Assumes nothing.
use Rattle.std.proofs.Common.{refl}
use Rattle.rules.specs.Lent.{count_in}
use Rattle.rules.specs.Fit.{element_in}
use Rattle.work_columns.specs.Rows.{bare_in}
use Rattle.work_columns.specs.Pass.{gather-start, gather-fits, gather-turn, gather-done}
use Rattle.work_columns.proofs.gather.Goals as goal

pub loop-e-init : goal.loop-e-init
loop-e-init c = gather-start (bare_in c.args.input.now) c.args.t c.args.start c.args.col.now c.args.flags.now c.no_side-side.ensures

pub join-side-requires : goal.join-side-requires
unfolding element_in count_in
join-side-requires c =
    gather-fits (bare_in c.args.input.now) c.args.t c.args.start c.args.col.now c.args.flags.now _ _ _ _ c.loop-e.invariant c.loop-e-test.true c.requires.count refl

pub loop-e-preserved : goal.loop-e-preserved
unfolding element_in count_in
loop-e-preserved c =
    gather-turn (bare_in c.args.input.now) c.args.t c.args.start c.args.col.now c.args.flags.now _ _ _ _ c.loop-e.invariant c.loop-e-test.true
    refl refl c.mass_of-m.ensures refl c.join-side.ensures c.take_in-all.ensures

pub returns : goal.returns
returns c = gather-done (bare_in c.args.input.now) c.args.t c.args.start c.args.col.now c.args.flags.now _ _ _ _ c.loop-e.invariant c.loop-e-test.false
