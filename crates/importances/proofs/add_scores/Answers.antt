-- `importances::add_scores` meets its contract: what it has, with the entries from k on added, is the whole. Assumes nothing.
use Rattle.rules.specs.Slices.{columns_in}
use Rattle.importances.specs.Scores.{adding-turn, adding-done, split-known}
use Rattle.importances.proofs.add_scores.Goals as goal

pub add_score-requires : goal.add_score-requires
add_score-requires c = λ h. rw c.loop-k.auto.v (split-known (columns_in c.args.table.now) _ _ _ _ c.requires c.loop-k-test.true h)

pub loop-k-preserved : goal.loop-k-preserved
loop-k-preserved c = adding-turn (columns_in c.args.table.now) _ _ _ c.loop-k.v _ c.loop-k-test.true c.loop-k.invariant c.add_score.ensures

pub returns : goal.returns
returns c = adding-done (columns_in c.args.table.now) _ _ _ _ _ c.loop-k-test.false c.loop-k.invariant
