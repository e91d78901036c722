-- Node room by kept rows, of a tree and of a forest. Assumes nothing.
use Rattle.std.specs.Prelude.{ℕ, ◌+◌, ◌-◌, ◌*◌, ◌≤◌, max, ◌≡◌, refl, List, length, Float}
use Rattle.rules.specs.Words.{from, keep, stretch, total}
use Rattle.rules.specs.Lent.{OneTree, kept_in, kept, kept_rows}
use Rattle.rules.specs.Checks.{room_for}

-- ---- the numbers

-- rows kept by one tree
abbrev pub kept_of : ℕ → List Float → List ℕ → ℕ
kept_of rows weights counts = length (keep (kept_in weights counts) (from 0 rows))

abbrev pub room_in : ℕ → List Float → List ℕ → ℕ
room_in rows weights counts = max 1 (2 * kept_of rows weights counts - 1)

-- tree t of a forest
abbrev pub room_of : ℕ → List Float → List ℕ → ℕ → ℕ
room_of rows weights counts t = room_in rows weights (stretch (t * rows) rows counts)

abbrev pub rooms_in : ℕ → ℕ → List Float → List ℕ → ℕ
rooms_in rows trees weights counts = total (room_of rows weights counts) (from 0 trees)

-- they are the rules'
pub room-is : (F : OneTree) → room_for F ≡ room_in F.rows F.weights F.counts
unfolding room_for kept_rows kept
room-is F = refl

pub record Kept (weights : List Float) (counts : List ℕ) (rows r : ℕ) : Type 0 where
  pub exact : r ≡ kept_of rows weights counts
  pub low : r ≤ rows

pub record TreeRoom (weights : List Float) (counts : List ℕ) (rows r : ℕ) : Type 0 where
  pub exact : r ≡ room_in rows weights counts
  pub low : r ≤ 2 * rows + 1

pub record ForestRoom (weights : List Float) (counts : List ℕ) (rows trees r : ℕ) : Type 0 where
  pub exact : r ≡ rooms_in rows trees weights counts
  pub low : r ≤ trees * 131071
