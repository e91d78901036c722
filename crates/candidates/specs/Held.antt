-- A node by its totals and count alone, and what is held by the cuts that stand at each place. Definitions only. Assumes nothing.
use Rattle.std.specs.Prelude.{ℕ, ◌+◌, ◌≡◌, ◌⊎◌, true, cond, [], Some, None}
use Rattle.rules.specs.declared.Cut.{Cut}
use Rattle.rules.specs.Results.{Held}
use Rattle.rules.specs.Search.{NodeRows}
use Rattle.rules.specs.Words.{nought}
use Rattle.criterion.specs.declared.Side.{Side}
use Rattle.candidates.specs.declared.Spot.{Spot}
use Rattle.candidates.specs.declared.Candidate.{Candidate}

-- a node of which only totals and count are known
abbrev pub bare : Side → NodeRows
bare a = record { columns = []; totals = a.totals; count = a.count }

-- what s holds, by the cuts that stand at each place
unfoldable pub held_of : (ℕ → Cut) → Spot → Held
held_of c s = cond s.held (Some ((c s.place), s.proxy)) None

-- the cut that is held when a column begins, or any
abbrev pub earlier_of : Held → Cut
earlier_of None = record { feature = 0; threshold = nought }
earlier_of (Some (c, q)) = c

-- what is held stays, or it is now at the place n
abbrev pub Moved : Spot → ℕ → Spot → Type 0
Moved s n r = (r ≡ s) ⊎ ((r.held ≡ true) × (r.place ≡ n))

-- after a column was tried: what was held before it, or the cut c at the place of s, with the rows before that place
pub record HeldAt (h : Candidate) (s : Spot) (c : Cut) (r : Candidate) : Type 0 where
  pub earlier : s.place ≡ 0 → r ≡ h
  pub here : (n : ℕ) → s.place ≡ n + 1 → r ≡ record { held = Some (c, s.proxy); rows = n }
