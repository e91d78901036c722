-- `predict::predict_sixes` meets its contract: the rows of the sixes so far have their predictions. Assumes nothing.
use Rattle.std.proofs.Common.{arith, refl, ap, ◌∙◌, ◌+◌, ◌*◌, map}
use Rattle.rules.specs.Words.{from}
use Rattle.rules.specs.Lent.{entries_at}
use Rattle.rules.specs.Table.{tree_in}
use Rattle.rules.specs.Slices.{columns_in}
use Rattle.walks.specs.Walks.{leaf_at}
use Rattle.predict.specs.Front.{six-more}
use Rattle.predict.proofs.predict_sixes.Goals as goal

pub loop-b-init : goal.loop-b-init
unfolding from
loop-b-init c = refl

pub loop-b-preserved : goal.loop-b-preserved
unfolding tree_in
loop-b-preserved c =
    let a = c.args in
    six-more (leaf_at a.features a.values.now (tree_in (columns_in a.table.now))) (6 * c.loop-b.b) c.loop-b.out _ c.six_values-six.result c.loop-b.invariant
    (c.six_values-six.ensures ∙ ap (λ n. map (leaf_at a.features a.values.now (entries_at (columns_in a.table.now) 0 n)) (from (6 * c.loop-b.b) 6)) c.len-n.ensures)
    c.put_six.ensures (6 * (c.loop-b.b + 1)) (omega arith)
