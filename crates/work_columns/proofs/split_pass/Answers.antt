-- `work_columns::split_pass` meets its contract: the front that goes true, and the rest. Assumes nothing.
use Rattle.std.proofs.Common.{sym, subst, inl, inr}
use Rattle.work_columns.specs.Split.{GatherAsks}
use Rattle.work_columns.specs.Pass.{part-asks, pass-done}
use Rattle.work_columns.proofs.split_pass.Goals as goal

pub gather-true_side-requires : goal.gather-true_side-requires
gather-true_side-requires c = part-asks c.requires (inl c.split_at.ensures.front)

pub gather-false_side-requires : goal.gather-false_side-requires
gather-false_side-requires c =
    subst (GatherAsks c.args.input.now.targets.now c.args.input.now.weights.now c.args.input.now.counts.now _)
    (sym c.gather-true_side.auto.flags) (part-asks c.requires (inr c.split_at.ensures.back))

pub returns : goal.returns
returns c =
    let d = c.args.input.now in
    pass-done c.args.shape.features d.values.now d.targets.now d.weights.now d.counts.now c.args.cut c.args.col.now c.args.n c.requires.cleft
    c.args.flags.now _ _ c.gather-true_side.result c.gather-false_side.result c.split_at.ensures.front c.split_at.ensures.back c.no_rows.ensures
    c.gather-true_side.ensures c.gather-false_side.ensures
