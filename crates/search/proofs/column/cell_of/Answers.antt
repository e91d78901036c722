-- `search::column::cell_of` meets its contract: each part is read where the element has it. Assumes nothing.
use Rattle.search.specs.Flat.{tables_in}
use Rattle.search.specs.Laws.{cell-is}
use Rattle.search.proofs.column.cell_of.Goals as goal

pub returns : goal.returns
returns c =
    let a = c.args in
    cell-is a.shape.features (tables_in a.input.now) a.j a.r c.mass_of.ensures c.cell_at.ensures
