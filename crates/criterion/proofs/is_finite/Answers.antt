-- `criterion::is_finite` meets its contract: the library's word and the definitions' are one. Assumes nothing.
use Rattle.std.proofs.Common.{◌≡◌, refl, ◌∙◌, Float}
use Rattle.std.specs.Float.{nan, inf, fin, float_is_finite}
use Rattle.std.specs.Float.Ieee.Scale.{finite}
use Rattle.criterion.proofs.is_finite.Goals as goal

finite-is : (x : Float) → float_is_finite x ≡ finite x
unfolding float_is_finite
finite-is nan = refl
finite-is (inf s) = refl
finite-is (fin s m e) = refl

pub returns : goal.returns
returns c = c.is_finite.ensures.value ∙ finite-is _
