-- `means::sums::add_trees` meets its contract: with the trees from t on the room comes to what it comes to with all. Assumes nothing.
use Rattle.std.proofs.Common.{arith, add-one, ◌∙◌}
use Rattle.rules.specs.Slices.{forest_in}
use Rattle.rules.specs.Table.{tree_at}
use Rattle.tables.specs.Laws.{start-below}
use Rattle.means.specs.Sums.{tree-first, tree-next, tree-last, tree-at}
use Rattle.means.proofs.sums.add_trees.Goals as goal

pub loop-t-init : goal.loop-t-init
loop-t-init c = tree-first c.args.sample.now.shape.rows c.args.sample.now.shape.features c.args.sample.now.values.now c.args.sample.now.counts.now (forest_in c.args.forest.now) c.args.out.now

pub overflow_sub-tree : goal.overflow_sub-tree
overflow_sub-tree c = rw add-one (omega (arith, start-below (forest_in c.args.forest.now) c.requires.trees.lying c.loop-t.t c.loop-t-test.true))

pub add_tree-requires-clause-readable : goal.add_tree-requires-clause-readable
add_tree-requires-clause-readable c =
    record {
      tree =
          tree-at c.args.sample.now.shape.rows c.args.sample.now.shape.features c.args.sample.now.values.now (forest_in c.args.forest.now) c.args.out.now c.requires c.loop-t.t c.loop-t-test.true;
      some = c.requires.some;
      few = c.requires.few;
      long = c.requires.long;
      room = c.loop-t.invariant.long ∙ c.requires.room;
    }

pub loop-t-preserved : goal.loop-t-preserved
unfolding tree_at
loop-t-preserved c =
    tree-next c.args.sample.now.shape.rows c.args.sample.now.shape.features c.args.sample.now.values.now c.args.sample.now.counts.now (forest_in c.args.forest.now) c.args.out.now c.loop-t.out _ c.loop-t.t
    c.loop-t-test.true c.loop-t.invariant (rw (← add-one) c.add_tree.ensures)

pub returns : goal.returns
returns c =
    tree-last c.args.sample.now.shape.rows c.args.sample.now.shape.features c.args.sample.now.values.now c.args.sample.now.counts.now (forest_in c.args.forest.now) c.args.out.now c.loop-t.out c.loop-t.t
    c.loop-t-test.false c.loop-t.invariant
