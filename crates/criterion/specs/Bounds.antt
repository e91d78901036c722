-- What the threshold promises, and what a row's mass asks.
use Rattle.std.specs.Prelude.{ℕ, ◌<◌, ◌≡◌, List, length, T, Float}
use Rattle.std.specs.Float.Ieee.{lt, le}
use Rattle.std.specs.Float.Ieee.Scale.{finite}
use Rattle.rules.specs.declared.Height.{Height}
use Rattle.rules.specs.Threshold.{threshold_between}

-- for either choice, exact and at least the lower and below the upper
pub record Between (h : Height) (p x r : Float) : Type 0 where
  pub exact : r ≡ threshold_between h p x
  pub inside : T (finite p) → T (finite x) → T (lt p x) → T (le p r) × T (lt r x)

-- row i has a count, and a weight if there are weights
pub record Weighed (i : ℕ) (weights : List Float) (counts : List ℕ) : Type 0 where
  pub counted : i < length counts
  pub weighed : 0 < length weights → i < length weights
