-- Where there is an entry it is the same, whatever is told where there is none. Assumes nothing.
use Rattle.std.specs.Prelude.{ℕ, suc, ◌<◌, ◌≡◌, List, length, get_or}
use Rattle.lemmas.specs.Lists.{same-default}

pub first_entry : (l : List ℕ) → 0 < length l → get_or l 0 1 ≡ get_or l 0 0
first_entry l h = same-default l 0 1 0 h

pub last_entry : (l : List ℕ) (n t : ℕ) → n < length l → get_or l n (suc t) ≡ get_or l n 0
last_entry l n t h = same-default l n (suc t) 0 h
