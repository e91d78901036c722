-- `scores::scale` meets its contract: by the scale that is asked. Assumes nothing.
use Rattle.std.proofs.Common.{sym, ap, ◌∙◌}
use Rattle.rules.specs.Reading.{scaled}
use Rattle.scores.proofs.scale.Goals as goal

pub returns-in-Normalised : goal.returns-in-Normalised
unfolding scaled
returns-in-Normalised c = c.normalise.ensures ∙ ap (λ s. scaled s c.args.v.now) (sym c.in-Normalised.is)

pub returns-in-ByMass : goal.returns-in-ByMass
unfolding scaled
returns-in-ByMass c =
    c.divide_if.ensures ∙ ap (λ s. scaled s c.args.v.now) (sym c.in-ByMass.is)
