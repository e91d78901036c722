-- One entry of a table by what is read of it, and laws of its tests. Assumes nothing.
use Rattle.std.specs.Prelude.{ℕ, suc, ◌≡◌, refl, Bool, ◌&&◌, cond, eqb, Float}
use Rattle.std.specs.Float.Ieee.{le}
use Rattle.rules.specs.Words.{nought}
use Rattle.rules.specs.Lent.{Entry}
use Rattle.rules.specs.Table.{is_leaf, good_entry}

-- an entry, by what stands in each column
abbrev pub entry_is : Float → ℕ → Float → Float → ℕ → ℕ → Entry
entry_is v j t s y n = record { value = v; feature = j; threshold = t; score = s; true_child = y; false_child = n }

-- what is looked at of an entry; the rest does not matter
abbrev pub bare : ℕ → ℕ → ℕ → Entry
bare j y n = entry_is nought j nought nought y n

-- a leaf, by its two children
abbrev pub no_child : ℕ → ℕ → Bool
no_child y o = eqb y 0 && eqb o 0

-- ---- whether it is good

-- whatever stands beside it
pub bare-same : (features n k : ℕ) (e : Entry) → good_entry features n k (bare e.feature e.true_child e.false_child) ≡ good_entry features n k e
unfolding good_entry is_leaf
bare-same features n k e = refl

-- ---- a step of a walk

-- from node k: a leaf is stayed at, and of a split the false child comes next after the true one
abbrev pub next_of : ℕ → Float → Float → ℕ → ℕ
next_of k x t y = cond (eqb y 0) k (cond (le x t) y (suc y))
