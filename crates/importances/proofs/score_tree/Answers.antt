-- `importances::score_tree` meets its contract: zeros first, then the scores. Assumes nothing.
use Rattle.std.proofs.Common.{ap, ◌∙◌}
use Rattle.rules.specs.Words.{nought}
use Rattle.rules.specs.Lent.{entries_at}
use Rattle.rules.specs.Slices.{columns_in}
use Rattle.rules.specs.Reading.{add_scores, scores_of}
use Rattle.scores.specs.Lists.{filled_is}
use Rattle.importances.proofs.score_tree.Goals as goal

pub returns : goal.returns
unfolding scores_of
returns c = c.add_scores.ensures ∙ ap (λ v. add_scores v (entries_at (columns_in c.args.table.now) c.args.a c.args.n)) (c.fill.ensures ∙ filled_is nought c.args.v.now)
