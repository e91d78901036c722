-- From where to where a tree has the counts and both tapes. Assumes nothing.
use Rattle.std.specs.Prelude.{ℕ, ◌+◌, ◌*◌, ◌<◌, List, length, get_or}
use Rattle.forest_parts.specs.declared.Parts.{Parts}

-- what the parts of tree t ask: rows that fit, and starts up to the next tree's
pub record PartsAsk (rows t : ℕ) (word_starts threshold_starts : List ℕ) : Type 0 where
  pub small : t * rows + rows < 4294967296
  pub words : t + 1 < length word_starts
  pub thresholds : t + 1 < length threshold_starts

-- its own rows of the counts, and from its start to the next on both tapes
abbrev pub parts_at : ℕ → ℕ → List ℕ → List ℕ → Parts
parts_at rows t ws ts =
    record {
      counts = record { start = t * rows; end = t * rows + rows };
      words = record { start = get_or ws t 0; end = get_or ws (t + 1) 0 };
      thresholds = record { start = get_or ts t 0; end = get_or ts (t + 1) 0 };
    }
