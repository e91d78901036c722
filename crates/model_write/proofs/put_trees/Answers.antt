-- `model_write::put_trees` meets its contract: with the trees from t on the file comes to what it comes to with all. Assumes nothing.
use Rattle.std.proofs.Common.{refl, sym, ap, ◌∙◌}
use Rattle.rules.specs.Slices.{forest_in}
use Rattle.lemmas.specs.Spliced.{spliced}
use Rattle.model_write.specs.Puts.{put_same, putting-starts, putting-room, putting-goes, putting-ends, trees-left, trees-room, tree_is, tree-fits}
use Rattle.model_write.proofs.put_trees.Goals as goal

pub loop-t-init : goal.loop-t-init
loop-t-init c = putting-starts _ _ _ _ _

pub put_tree-spot-requires : goal.put_tree-spot-requires
put_tree-spot-requires c =
    let F = forest_in c.args.forest.now in
    tree-fits F c.loop-t.t refl refl c.requires.lying c.loop-t-test.true (putting-room _ _ c.loop-t.invariant c.loop-t-test.true (trees-room F c.requires))

pub loop-t-preserved : goal.loop-t-preserved
loop-t-preserved c =
    let F = forest_in c.args.forest.now in
    putting-goes _ _ c.loop-t.invariant c.loop-t-test.true (trees-room F c.requires) (put_same (tree_is F c.loop-t.t refl refl) c.put_tree-spot.ensures)

pub returns : goal.returns
returns c =
    (putting-ends _ _ c.loop-t.invariant c.loop-t-test.false).file
    ∙ ap (λ l. spliced 9 l c.args.file.now) (sym (trees-left (forest_in c.args.forest.now)))
