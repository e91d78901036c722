-- `node_growth::split_node` meets its contract: the pass gives the sides, then three nodes are written. Assumes nothing.
use Rattle.std.proofs.Common.{arith}
use Rattle.node_growth.specs.Sides.{sides-count}
use Rattle.node_growth.proofs.split_node.Goals as goal

pub write_split-requires-clause-counts_small : goal.write_split-requires-clause-counts_small
write_split-requires-clause-counts_small c =
    omega (arith, c.requires.split_asks.count, sides-count c.split_sides-s.ensures)
