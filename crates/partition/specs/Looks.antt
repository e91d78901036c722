-- The front of a stretch, and what a look along it asks.
use Rattle.std.specs.Prelude.{ℕ, ◌<◌, ◌≤◌, ◌≡◌, Bool, true, false, List, length, get_or, take}
use Rattle.lemmas.specs.Lists.{Every}
use Rattle.sweeps.specs.Swept.{flagged}

-- the first n pass
pub record Front (p : ℕ → Bool) (l : List ℕ) (n : ℕ) : Type 0 where
  pub within : n ≤ length l
  pub passed : Every (λ r. p r ≡ true) (take n l)

-- n is the first place whose entry does not pass, or the end
pub record FirstFalse (p : ℕ → Bool) (l : List ℕ) (n : ℕ) : Type 0 where
  pub front : Front p l n
  pub next : n < length l → p (get_or l n 0) ≡ false

-- what a look along a stretch from a on asks: a flag for each row, and that all before a are flagged
pub record LookAsks (flags : List Bool) (col : List ℕ) (a : ℕ) : Type 0 where
  pub below : Every (λ r. r < length flags) col
  pub front : Front (flagged flags) col a
