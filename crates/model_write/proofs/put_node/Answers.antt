-- `model_write::put_node` meets its contract: a value and a true child, and what a split says more. Assumes nothing.
use Rattle.std.proofs.Common.{arith}
use Rattle.rules.specs.Lent.{entry_at}
use Rattle.rules.specs.Slices.{columns_in}
use Rattle.lemmas.specs.FileLength.{node-long}
use Rattle.model_write.specs.Sizes.{node-high, split-long}
use Rattle.model_write.specs.Puts.{leaf-put, split-put}
use Rattle.model_write.proofs.put_node.Goals as goal

pub put_float-requires : goal.put_float-requires
put_float-requires c = let e = entry_at (columns_in c.args.table.now) c.args.k in omega (arith, c.requires.room, node-long e, node-high e.true_child)

pub put_number-requires : goal.put_number-requires
put_number-requires c = let e = entry_at (columns_in c.args.table.now) c.args.k in omega (arith, c.requires.room, node-long e, node-high e.true_child)

pub returns-then-truechild-eq0 : goal.returns-then-truechild-eq0
returns-then-truechild-eq0 c =
    leaf-put (entry_at (columns_in c.args.table.now) c.args.k) c.args.at c.args.file.now c.put_float.ensures c.put_number.ensures c.requires.room c.if-truechild-eq0.true

pub put_cut-requires-clause-room : goal.put_cut-requires-clause-room
put_cut-requires-clause-room c =
    let e = entry_at (columns_in c.args.table.now) c.args.k in omega (arith, c.requires.room, node-long e, split-long e.true_child c.if-truechild-eq0.false)

pub returns : goal.returns
returns c =
    split-put (entry_at (columns_in c.args.table.now) c.args.k) c.args.at c.args.file.now c.put_float.ensures c.put_number.ensures c.requires.room
    c.if-truechild-eq0.false c.put_cut.ensures
