-- The number of features that a forest tries where none is given is the floor of the root of their number: its square is at most that, the next square is above it,
-- and no other number is so. Assumes nothing.
use Rattle.std.specs.Prelude.{ℕ, ◌≡◌, refl, [], ◌∷◌, map, None}
use Rattle.rules.specs.Forest.{squares, tried_of}
use Rattle.lemmas.specs.Tried.{IsRoot, is-root, root-only}

abbrev pub FloorOfRoot : Type 0
FloorOfRoot = (n : ℕ) → IsRoot n (tried_of n None) × ((s : ℕ) → IsRoot n s → s ≡ tried_of n None)

pub tried-root : FloorOfRoot
tried-root n = (is-root n, root-only n)

-- the examples of R11.2
pub tried-examples : map (λ n. tried_of n None) (1 ∷ 3 ∷ 4 ∷ 8 ∷ 9 ∷ 1024 ∷ []) ≡ 1 ∷ 1 ∷ 2 ∷ 2 ∷ 3 ∷ 32 ∷ []
unfolding tried_of squares
tried-examples = refl
