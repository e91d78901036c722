-- What the checks of a listing ask of their callers.
use Rattle.std.specs.Prelude.{ℕ, ◌*◌, ◌<◌, ◌≤◌, ◌≡◌, List, length, Float}
use Rattle.rules.specs.declared.Shape.{Shape}

-- feature j's listing, and the values that it is walked along
pub record Walkable (S : Shape) (j : ℕ) (xs : List Float) (l : List ℕ) : Type 0 where
  pub few : S.rows ≤ 65535
  pub few_features : S.features ≤ 1024
  pub known : j < S.features
  pub values_long : length xs ≡ S.rows * S.features
  pub listing_long : length l ≡ S.rows

-- values and listings of a shape
pub record Laid (S : Shape) (xs : List Float) (ls : List ℕ) : Type 0 where
  pub few : S.rows ≤ 65535
  pub few_features : S.features ≤ 1024
  pub values_long : length xs ≡ S.rows * S.features
  pub listings_long : length ls ≡ S.features * S.rows

-- feature j's listing among them
pub record Listed (S : Shape) (j : ℕ) (xs : List Float) (ls : List ℕ) : Type 0 where
  pub laid : Laid S xs ls
  pub known : j < S.features
