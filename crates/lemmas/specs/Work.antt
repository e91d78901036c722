-- The work columns as code lays them: one a feature, each `rows` long, one after another. A node's rows lie in the same stretch of each.
use Rattle.std.specs.Prelude.{ℕ, ◌+◌, ◌-◌, ◌*◌, List, map}
use Rattle.rules.specs.Words.{from, stretch}
use Rattle.rules.specs.Search.{Element, Column}

-- the rows from place a to place e of column k
abbrev pub part : ℕ → ℕ → ℕ → ℕ → List ℕ → List ℕ
part rows k a e order = stretch (k * rows + a) (e - a) order

-- what rows stand for: their elements, column by column
unfoldable pub columns_at : (ℕ → Element) → ℕ → ℕ → ℕ → ℕ → List ℕ → List Column
columns_at el rows n a e order = map (λ k. map el (part rows k a e order)) (from 0 n)
