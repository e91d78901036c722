-- `params::limit_of` meets its contract: the depth, or 65,535 in its stead. Assumes nothing.
use Rattle.std.proofs.Common.{ℕ, ◌≡◌, refl, ◌∙◌}
use Rattle.std.specs.Prelude.{Option, None, Some}
use Rattle.std.specs.Option.{unwrap_or}
use Rattle.rules.specs.Fit.{limit_of}
use Rattle.params.proofs.limit_of.Goals as goal

or_most : (h : Option ℕ) → unwrap_or h 65535 ≡ limit_of h
unfolding limit_of
or_most None = refl
or_most (Some d) = refl

pub returns-clause-value : goal.returns-clause-value
returns-clause-value c = c.from.ensures ∙ c.unwrap_or.ensures ∙ or_most c.args.depth
