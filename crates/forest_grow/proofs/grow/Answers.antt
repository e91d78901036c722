-- `forest_grow::grow` meets its contract: the trees, then the work room, then the nodes. Assumes nothing.
use Rattle.std.proofs.Common.{rules}
use Rattle.forest_grow.specs.Grown.{grow-done}
use Rattle.forest_grow.proofs.grow.Goals as goal

pub returns-clause-done : goal.returns-clause-done
returns-clause-done c =
    grow-done _ _ _ _ _ _ _ _ _ _ c.plant_in-told.ensures.nodes_long (search rules) c.plant_in-told.ensures.done c.zero_work.ensures.zero c.leave_nodes.ensures.left
