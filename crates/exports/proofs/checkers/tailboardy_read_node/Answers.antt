-- `exports::checkers::tailboardy_read_node` meets its contract: the node read, whose false child's number stands in the columns, and its answer as plain numbers. Assumes nothing.
use Rattle.std.proofs.Common.{arith, ap, ◌∙◌}
use Rattle.rules.specs.Answers.{node_told}
use Rattle.c_types.specs.Nodes.{child-below}
use Rattle.exports.proofs.checkers.tailboardy_read_node.Goals as goal

pub node_told_of-requires : goal.node_told_of-requires
node_told_of-requires c = child-below _ _ _ c.read_node-reply.ensures (omega (arith, c.type_inv.falsechild c.args.k))

pub returns : goal.returns
returns c =
    c.node_told_of.ensures ∙ ap node_told c.read_node-reply.ensures
