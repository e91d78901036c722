-- What the checks ask of their callers.
use Rattle.std.specs.Prelude.{ℕ, ◌≤◌, ◌≡◌, true}
use Rattle.rules.specs.declared.Shape.{Shape}
use Rattle.rules.specs.Checks.{shape_in}

-- a shape and trees in range
pub record Ranges (S : Shape) (trees : ℕ) : Type 0 where
  pub shape : shape_in S ≡ true
  pub few : trees ≤ 1024
