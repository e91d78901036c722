-- `criterion::threshold_of` meets its contract: a match on the choice; each arm returns what the definition has for it, and `inside` has the bounds. Assumes nothing.
use Rattle.std.proofs.Common.{◌≡◌, sym, subst, ap, ◌∙◌, T, Float}
use lib.Ieee.{binary64, fits, lt, le}
use Rattle.rules.specs.declared.Height.{Height}
use Rattle.rules.specs.Threshold.{midpoint, threshold_between}
use Rattle.lemmas.specs.Values.{inside}
use Rattle.criterion.specs.Bounds.{Between}
use Rattle.criterion.proofs.threshold_of.Goals as goal

met : (h : Height) (p x r : Float) → T (fits binary64 p) → r ≡ threshold_between h p x → Between h p x r
met h p x r t e = record { exact = e; inside = λ f g l. subst (λ z. T (le p z) × T (lt z x)) (sym e) (inside h p x (t, f) g l) }

pub returns-then-mid-x : goal.returns-then-mid-x
unfolding threshold_between midpoint
returns-then-mid-x c =
    let a = c.args in
    met a.height a.p a.x _ (subst T (sym c.well_formed.1.0.1) tt)
    ((rw c.if-mid-x.true) ∙ sym (ap (λ h. threshold_between h a.p a.x) c.in-Midpoint.is))

pub returns-else-mid-x : goal.returns-else-mid-x
unfolding threshold_between midpoint
returns-else-mid-x c =
    let a = c.args in
    met a.height a.p a.x _ (subst T (sym c.well_formed.1.0.1) tt)
    ((rw c.if-mid-x.false) ∙ sym (ap (λ h. threshold_between h a.p a.x) c.in-Midpoint.is))

pub returns-in-Lower : goal.returns-in-Lower
unfolding threshold_between
returns-in-Lower c =
    let a = c.args in
    met a.height a.p a.x a.p (subst T (sym c.well_formed.1.0.1) tt)
    (sym (ap (λ h. threshold_between h a.p a.x) c.in-Lower.is))
