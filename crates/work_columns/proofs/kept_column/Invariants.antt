-- `work_columns::kept_column` meets its contract: what it promises of the listing holds of the i rows passed. Assumes nothing.
use Rattle.std.proofs.Common.{ℕ, ◌≤◌, ◌≡◌, Bool, List, length, take}
use Rattle.rules.specs.Words.{keep}
use Rattle.rules.specs.Lent.{kept_in}
use Rattle.work_columns.proofs.kept_column.Given as goal

pub record Keeping (p : ℕ → Bool) (l column : List ℕ) (n i : ℕ) : Type 0 where
  pub within : i ≤ length l
  pub few : n ≤ i
  pub front : take n column ≡ keep p (take i l)

abbrev pub invariant-loop-e : goal.invariant-loop-e
invariant-loop-e l = Keeping (kept_in l.weights l.counts) l.listing l.column l.n l.e-index
