-- A node by what is read of it to add its score. Assumes nothing.
use Rattle.std.specs.Prelude.{ℕ, ◌≡◌, Bool, not, List, Float}
use Rattle.std.proofs.Common.{sym, ap}
use Rattle.rules.specs.Words.{nought}
use Rattle.rules.specs.Lent.{Entry}
use Rattle.rules.specs.Table.{is_leaf}
use Rattle.rules.specs.Reading.{scored}
use Rattle.entries.specs.Entries.{entry_is, no_child}

-- what is read of an entry; the rest does not matter
abbrev pub marked : ℕ → Float → ℕ → ℕ → Entry
marked j s y n = entry_is nought j nought s y n

pub scored-by : (j : ℕ) (s : Float) (y o : ℕ) (v : List Float) {b : Bool} → no_child y o ≡ b
    → scored (not b) (marked j s y o) v ≡ scored (not (is_leaf (marked j s y o))) (marked j s y o) v
unfolding is_leaf
scored-by j s y o v h = ap (λ z. scored (not z) (marked j s y o) v) (sym h)
