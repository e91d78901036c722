-- `model_write::model_size` meets its contract: refused as the table is, else its size. Assumes nothing.
use Rattle.rules.specs.Slices.{forest_in}
use Rattle.model_write.specs.Calls.{left_by, table-lies, counted, size-refused, size-told}
use Rattle.model_write.proofs.model_size.Goals as goal

pub returns-in_err-check_forest : goal.returns-in_err-check_forest
returns-in_err-check_forest c = size-refused c.args.features (forest_in c.args.forest.now) (left_by _ c.from_residual.ensures.1) c.in_err-check_forest.ensures

pub file_size-requires : goal.file_size-requires
file_size-requires c = counted (forest_in c.args.forest.now) (table-lies c.args.features _ c.in_ok-check_forest.ensures)

pub returns : goal.returns
returns c = size-told c.args.features (forest_in c.args.forest.now) c.in_ok-check_forest.ensures c.file_size.ensures
