-- `slices::cell_at` meets its contract: the row's values start at its number times the features. Assumes nothing.
use Rattle.std.proofs.Common.{sym}
use Rattle.lemmas.specs.Cells.{cell_lies}
use Rattle.slices.proofs.cell_at.Goals as goal

pub returns : goal.returns
returns c =
    sym (cell_lies c.args.features c.args.values.now c.args.i c.args.j c.requires.known)
