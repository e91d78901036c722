-- `predict::predict_rest` meets its contract: the rows before i have their predictions. Assumes nothing.
use Rattle.std.proofs.Common.{arith, ap, ◌∙◌}
use Rattle.rules.specs.Lent.{entries_at}
use Rattle.rules.specs.Table.{tree_in}
use Rattle.rules.specs.Slices.{columns_in}
use Rattle.walks.specs.Walks.{leaf_at}
use Rattle.predict.specs.Front.{one-more}
use Rattle.predict.proofs.predict_rest.Goals as goal

pub loop-i-preserved : goal.loop-i-preserved
unfolding tree_in
loop-i-preserved c =
    let a = c.args in
    one-more (leaf_at a.features a.values.now (tree_in (columns_in a.table.now))) c.loop-i.i c.loop-i.out c.row_value.result c.loop-i.invariant (omega arith)
    (c.row_value.ensures ∙ ap (λ n. leaf_at a.features a.values.now (entries_at (columns_in a.table.now) 0 n) c.loop-i.i) c.len-n.ensures)
