-- The few words on lists and numbers that the rules are written in.
use Rattle.std.specs.Prelude.{ℕ, zero, suc, ◌+◌, Bool, true, false, not, ◌&&◌, ◌||◌, List, [], ◌∷◌, ◌++◌, map, length, take, drop, pos, eqb, ltb, Float}
use Rattle.std.specs.Float.{binary64}
use Rattle.std.specs.Float.Ieee.{of_bits, of_int}

-- R1.1: the literals 0.0 and 2.0, and a whole number as a float, as the code's are read
abbrev pub nought : Float
nought = of_bits binary64 0

-- R1.1
abbrev pub two : Float
two = of_bits binary64 0x4000_0000_0000_0000

-- R1.1
abbrev pub float : ℕ → Float
float n = of_int binary64 (pos n)

-- R1.2: a, a + 1 and on: n of them
unfoldable pub from : ℕ → ℕ → List ℕ
from a zero = []
from a (suc n) = a ∷ from (suc a) n

-- R1.3: x before l, if b
unfoldable pub put_if {ℓ} : {A : Type ℓ} → Bool → A → List A → List A
put_if true x l = x ∷ l
put_if false x l = l

-- R1.3: the entries that pass a test, in their order
unfoldable pub keep {ℓ} : {A : Type ℓ} → (A → Bool) → List A → List A
keep p [] = []
keep p (x ∷ l) = put_if (p x) x (keep p l)

-- R1.4: every entry passes a test
unfoldable pub every {ℓ} : {A : Type ℓ} → (A → Bool) → List A → Bool
every p [] = true
every p (x ∷ l) = p x && every p l

-- R1.5: every entry passes a test with the one after it
unfoldable pub along_from {ℓ} : {A : Type ℓ} → (A → A → Bool) → A → List A → Bool
along_from p x [] = true
along_from p x (y ∷ l) = p x y && along_from p y l

-- R1.5
unfoldable pub along {ℓ} : {A : Type ℓ} → (A → A → Bool) → List A → Bool
along p [] = true
along p (x ∷ l) = along_from p x l

-- R1.11: the lists that each entry gives, one after another
unfoldable pub joined {ℓ} : {A B : Type ℓ} → (A → List B) → List A → List B
joined f [] = []
joined f (x ∷ l) = f x ++ joined f l

-- R1.6: what the entries weigh together, by any weight
unfoldable pub total {ℓ} : {A : Type ℓ} → (A → ℕ) → List A → ℕ
total f [] = 0
total f (x ∷ l) = f x + total f l

-- R1.7
unfoldable pub member : ℕ → List ℕ → Bool
member k [] = false
member k (x ∷ l) = eqb k x || member k l

-- R1.7: numbers below n, none of them twice, and none that was seen
unfoldable pub fresh : ℕ → List ℕ → List ℕ → Bool
fresh n seen [] = true
fresh n seen (k ∷ l) = ltb k n && not (member k seen) && fresh n (k ∷ seen) l

-- R1.8: each number below n once: the rows of a listing, a permutation of the features
unfoldable pub each_once : ℕ → List ℕ → Bool
each_once n l = eqb (length l) n && fresh n [] l

-- R1.9: the n entries from place a on
abbrev pub stretch {ℓ} : {A : Type ℓ} → ℕ → ℕ → List A → List A
stretch a n l = take n (drop a l)

-- R1.10: new entries at the front; those beyond stay as they were
abbrev pub front {ℓ} : {A : Type ℓ} → List A → List A → List A
front new old = new ++ drop (length new) old

-- R1.10: x at every place
abbrev pub filled {ℓ} : {A : Type ℓ} → A → List A → List A
filled x l = map (λ _. x) l
