-- `importances::add_trees` meets its contract: what it has, with the trees from t on added, is the whole, and good starts lie inside the columns. Assumes nothing.
use Rattle.std.proofs.Common.{arith, add-one, refl}
use Rattle.rules.specs.Slices.{forest_in}
use Rattle.rules.specs.Table.{tree_at}
use Rattle.tables.specs.Laws.{start-below, tree-lies}
use Rattle.importances.specs.Scores.{gather-start, gather-turn, gather-done}
use Rattle.importances.proofs.add_trees.Goals as goal

pub loop-t-init : goal.loop-t-init
loop-t-init c = gather-start _ (forest_in c.args.forest.now) _

pub overflow_sub-e : goal.overflow_sub-e
overflow_sub-e c = rw add-one (omega (arith, start-below (forest_in c.args.forest.now) c.requires.lie.lying c.loop-t.t c.loop-t-test.true))

pub add_tree-requires-clause-lies : goal.add_tree-requires-clause-lies
add_tree-requires-clause-lies c =
    rw (c.loop-t.auto.v, add-one) (tree-lies _ (forest_in c.args.forest.now) c.requires.lie c.loop-t.t c.loop-t-test.true refl refl)

pub loop-t-preserved : goal.loop-t-preserved
unfolding tree_at
loop-t-preserved c =
    rw c.add_tree.auto.v (gather-turn _ (forest_in c.args.forest.now) _ c.loop-t.v c.loop-t.t c.loop-t-test.true c.loop-t.invariant (rw (← add-one) c.add_tree.ensures))

pub returns : goal.returns
returns c = gather-done _ (forest_in c.args.forest.now) _ _ _ c.loop-t-test.false c.loop-t.invariant
