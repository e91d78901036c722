-- `tree_growth::grow_tree` meets its contract: the root is written, and then searched and split as all that comes of it. Assumes nothing.
use Rattle.std.proofs.Common.{◌∙◌}
use Rattle.node_entries.specs.Writes.{leaf-lengths, as-long}
use Rattle.tree_growth.specs.Tree.{tree-asks, tree-goes}
use Rattle.tree_growth.proofs.grow_tree.Goals as goal

pub grow-requires : goal.grow-requires
grow-requires c =
    tree-asks _ _ _ _ _ _ _ _ _ c.requires.tree_asks _ c.requires.scratch_long c.requires.flags_long
    (as-long _ _ _ (leaf-lengths _ _ _ c.put_leaf.ensures.leaf) c.requires.nodes_enough) c.root_pair-q.ensures

pub returns-clause-nodes_long : goal.returns-clause-nodes_long
returns-clause-nodes_long c = c.grow.ensures.nodes_long ∙ leaf-lengths _ _ _ c.put_leaf.ensures.leaf

pub returns-clause-grown : goal.returns-clause-grown
returns-clause-grown c =
    tree-goes _ _ _ _ _ _ _ c.args.work.now.wholes.now c.args.work.now.reals.now c.requires.tree_asks _ _ _ c.requires.nodes_enough
    c.put_leaf.ensures.leaf c.root_pair-q.ensures _ c.grow.ensures.grown
