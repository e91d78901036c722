-- `work_columns::split_sides` meets its contract: the pass goes along the node's stretch of the split column. Assumes nothing.
use Rattle.std.proofs.Common.{refl}
use Rattle.work_columns.specs.Halves.{split_done}
use Rattle.work_columns.proofs.split_sides.Goals as goal

pub returns : goal.returns
returns c = split_done _ _ _ _ _ _ _ _ _ _ _ _ c.requires _ _ _ refl c.split_pass.ensures
