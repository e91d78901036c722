-- `scores::sum_of` meets its contract: the sum is a fold. Assumes nothing.
use Rattle.std.proofs.Common.{rules, ◌∙◌}
use Rattle.std.proofs.lemmas.Iterator.{YieldsList-from_slice}
use Rattle.std.proofs.lemmas.Iterator.Consumers.{fold_from_yields_List}
use Rattle.std.specs.Float.Ieee.{add}
use Rattle.std.specs.Float.{binary64}
use Rattle.scores.specs.Lists.{sum-folds}
use Rattle.scores.proofs.sum_of.Goals as goal

pub returns : goal.returns
returns c =
    fold_from_yields_List _ (λ s x. add binary64 s x) _ _ c.fold.ensures.ran (YieldsList-from_slice c.args.v.now cc) (λ s x r q k. search rules) ∙ sum-folds _ _
