-- `tables::trees_good` meets its contract: what is left to ask is asked of the trees from t on, and good starts lie inside the columns. Assumes nothing.
use Rattle.std.proofs.Common.{arith, add-one, sym, ◌∙◌}
use Rattle.rules.specs.Table.{good_tree, tree_at, trees_of}
use Rattle.rules.specs.Words.{from}
use Rattle.rules.specs.Slices.{forest_in}
use Rattle.lemmas.specs.Scans.{count-goes, count-stops, count-ends, count-starts}
use Rattle.tables.specs.Laws.{every-mapped, start-below, start-inside}
use Rattle.tables.proofs.trees_good.Invariants.{good_at}
use Rattle.tables.proofs.trees_good.Goals as goal

pub loop-t-init : goal.loop-t-init
unfolding trees_of
loop-t-init c =
    let F = forest_in c.args.forest.now in
    every-mapped (good_tree c.args.features) (tree_at F.nodes F.starts) (from 0 F.trees) ∙ count-starts (good_at c.args.features F) F.trees

pub overflow_sub-e : goal.overflow_sub-e
overflow_sub-e c =
    let F = forest_in c.args.forest.now in
    rw add-one (omega (arith, start-below F c.requires c.loop-t.t c.loop-t-test.true))

pub tree_good-requires : goal.tree_good-requires
tree_good-requires c =
    let F = forest_in c.args.forest.now in
    record {
      inside = rw add-one (omega (arith, start-below F c.requires c.loop-t.t c.loop-t-test.true, start-inside F c.requires c.loop-t.t c.loop-t-test.true));
    }

pub returns-then-not-tree_good : goal.returns-then-not-tree_good
unfolding tree_at
returns-then-not-tree_good c =
    let F = forest_in c.args.forest.now in
    count-stops (good_at c.args.features F) F.trees c.loop-t.t c.loop-t-test.true c.loop-t.invariant
    (rw (← add-one) (sym c.tree_good.ensures ∙ c.if-not-tree_good.true))

pub loop-t-preserved : goal.loop-t-preserved
unfolding tree_at
loop-t-preserved c =
    let F = forest_in c.args.forest.now in
    count-goes (good_at c.args.features F) F.trees c.loop-t.t c.loop-t-test.true c.loop-t.invariant
    (rw (← add-one) (sym c.tree_good.ensures ∙ c.if-not-tree_good.false))

pub returns : goal.returns
returns c =
    let F = forest_in c.args.forest.now in
    count-ends (good_at c.args.features F) F.trees c.loop-t.t c.loop-t-test.false c.loop-t.invariant
