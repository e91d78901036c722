-- `model_write::write_model` meets its contract: refused as the table is, then for want of room, else written. Assumes nothing.
use Rattle.rules.specs.Slices.{forest_in}
use Rattle.model_write.specs.Calls.{left_by, table-lies, counted, write-refused, write-short, file-fits, write_done}
use Rattle.model_write.proofs.write_model.Goals as goal

pub returns-in_err-check_forest : goal.returns-in_err-check_forest
returns-in_err-check_forest c =
    write-refused c.args.features (forest_in c.args.forest.now) c.args.file.now (left_by _ c.from_residual.ensures.1) c.in_err-check_forest.ensures

pub file_size-size-requires : goal.file_size-size-requires
file_size-size-requires c = counted (forest_in c.args.forest.now) (table-lies c.args.features _ c.in_ok-check_forest.ensures)

pub returns-then-file-size : goal.returns-then-file-size
returns-then-file-size c =
    write-short c.args.features (forest_in c.args.forest.now) c.args.file.now c.in_ok-check_forest.ensures c.file_size-size.ensures c.if-file-size.true

pub put_file-requires : goal.put_file-requires
put_file-requires c =
    file-fits c.args.features (forest_in c.args.forest.now) c.args.file.now c.in_ok-check_forest.ensures c.file_size-size.ensures c.if-file-size.false

pub returns : goal.returns
returns c =
    write_done c.args.features (forest_in c.args.forest.now) c.args.file.now c.in_ok-check_forest.ensures c.file_size-size.ensures
    c.if-file-size.false c.put_file.ensures
