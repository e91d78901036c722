-- `replay::nodes::read` is safe: the node's false child stands in its column, so its number does not wrap. Assumes nothing.
use Rattle.std.proofs.Common.{arith}
use Rattle.c_types.specs.Nodes.{child-below}
use Rattle.replay.proofs.nodes.read.Goals as goal

pub node_told_of-requires : goal.node_told_of-requires
node_told_of-requires c =
    child-below _ _ _ c.read_node-r.ensures (omega (arith, c.type_inv.falsechild c.args.k))
