-- `tree_build::plant` meets its contract: the root is set up, grown, and told of. Assumes nothing.
use Rattle.tree_build.specs.Plant.{set-up-asks, tree-asks, nodes-long}
use Rattle.tree_build.specs.Told.{plant-tells, plant-done}
use Rattle.tree_build.proofs.plant.Goals as goal

pub set_up-root-requires : goal.set_up-root-requires
set_up-root-requires c = set-up-asks _ _ _ _ _ _ _ _ _ (c.requires c.values_fit.ensures)

pub grow_tree-grown-requires : goal.grow_tree-grown-requires
grow_tree-grown-requires c =
    let h = c.requires c.values_fit.ensures in
    record {
      tree_asks = tree-asks _ _ _ _ _ _ _ _ _ h _ _ c.set_up-root.ensures c.set_up-root.auto.order;
      scratch_long = h.scratch-room;
      flags_long = h.flag-room;
      nodes_enough = nodes-long _ _ _ _ _ _ _ _ _ h _ _ c.set_up-root.ensures;
    }

pub tell-requires : goal.tell-requires
tell-requires c = plant-tells _ _ _ _ _ _ _ _ _ _ (c.requires c.values_fit.ensures) _ _ c.set_up-root.ensures _ c.grow_tree-grown.ensures.grown

pub returns-clause-planted : goal.returns-clause-planted
returns-clause-planted c =
    plant-done _ _ _ _ _ _ _ _ _ _ (c.requires c.values_fit.ensures) _ _ c.set_up-root.ensures _ c.grow_tree-grown.ensures.grown c.tell.ensures
