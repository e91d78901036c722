-- `model_write::put_file` meets its contract: what a file says first, then its trees. Assumes nothing.
use Rattle.std.proofs.Common.{arith}
use Rattle.rules.specs.Slices.{forest_in}
use Rattle.model_write.specs.Puts.{trees-fit, file-put}
use Rattle.model_write.proofs.put_file.Goals as goal

pub put_header-requires : goal.put_header-requires
put_header-requires c = omega (arith, c.requires.room)

pub put_trees-requires : goal.put_trees-requires
put_trees-requires c = trees-fit (forest_in c.args.forest.now) c.args.features c.requires c.put_header.ensures

pub returns : goal.returns
returns c = file-put (forest_in c.args.forest.now) c.args.features c.requires c.put_header.ensures c.put_trees.ensures
