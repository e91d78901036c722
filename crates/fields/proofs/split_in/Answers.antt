-- `fields::split_in` meets its contract: the feature, then threshold and score. Assumes nothing.
use Rattle.std.proofs.Common.{arith, add-one, refl, ◌∙◌, ltb-true}
use Rattle.fields.specs.Fields.{split_from, passed-so, left_by, stops, goes}
use Rattle.fields.proofs.split_in.Goals as goal

pub overflow_cast-entry : goal.overflow_cast-entry
overflow_cast-entry c = omega (arith, ltb-true _ _ (passed-so _ _ _ _ _ c.in_ok-feature.ensures), c.requires.features_below)

pub returns-in_err-feature : goal.returns-in_err-feature
unfolding split_from
returns-in_err-feature c = left_by _ c.from_residual.ensures.1 ∙ stops _ _ _ c.in_err-feature.ensures

pub returns-in_err-threshold : goal.returns-in_err-threshold
unfolding split_from
returns-in_err-threshold c =
    left_by _ c.from_residual-in_err-threshold.ensures.1 ∙ goes _ _ _ c.in_ok-feature.ensures (stops _ _ _ c.in_err-threshold.ensures)

pub returns-in_err-score : goal.returns-in_err-score
unfolding split_from
returns-in_err-score c =
    left_by _ c.from_residual-in_err-score.ensures.1
    ∙ goes _ _ _ c.in_ok-feature.ensures (goes _ _ _ c.in_ok-threshold.ensures (stops _ _ _ c.in_err-score.ensures))

pub returns : goal.returns
unfolding split_from
returns c =
    goes _ _ _ c.in_ok-feature.ensures (goes _ _ _ c.in_ok-threshold.ensures (goes _ _ _ c.in_ok-score.ensures (rw (c.float_of.ensures, c.float_of-2.ensures, add-one) refl)))
