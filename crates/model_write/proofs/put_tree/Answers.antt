-- `model_write::put_tree` meets its contract: the number of nodes, then the nodes. Assumes nothing.
use Rattle.std.proofs.Common.{arith}
use Rattle.model_write.specs.Puts.{count_room, nodes-fit, tree-put}
use Rattle.model_write.proofs.put_tree.Goals as goal

pub put_number-requires : goal.put_number-requires
put_number-requires c = count_room c.requires

pub overflow_add-at : goal.overflow_add-at
overflow_add-at c = omega (arith, count_room c.requires)

pub put_nodes-requires : goal.put_nodes-requires
put_nodes-requires c = nodes-fit c.requires c.put_number.ensures

pub returns : goal.returns
returns c = tree-put c.requires c.put_number.ensures c.put_nodes.ensures
