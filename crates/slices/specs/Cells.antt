-- What the read of a row's value asks. Assumes nothing.
use Rattle.std.specs.Prelude.{ℕ, ◌+◌, ◌*◌, ◌<◌, ◌≡◌, List, length, Float}
use Rattle.std.proofs.Common.{sym, subst}
use Rattle.lemmas.specs.Cells.{cell-within}

-- row i's value of feature j is among the values
pub record Inside (features i j : ℕ) (xs : List Float) : Type 0 where
  pub known : j < features
  pub within : i * features + j < length xs

pub cell-inside : (rows features i j : ℕ) (xs : List Float) → length xs ≡ rows * features → i < rows → j < features → Inside features i j xs
cell-inside rows features i j xs long h k =
    record { known = k; within = subst (λ n. i * features + j < n) (sym long) (cell-within i rows features j h k) }
