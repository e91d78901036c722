-- `scores::normalise` meets its contract: divided by the sum, if that is above 0. Assumes nothing.
use Rattle.std.proofs.Common.{ap, ◌∙◌}
use Rattle.rules.specs.Reading.{divided_if, normalised}
use Rattle.scores.proofs.normalise.Goals as goal

pub returns : goal.returns
unfolding normalised
returns c =
    c.divide_if.ensures ∙ ap (λ s. divided_if s c.args.v.now) c.sum_of-sum.ensures
