-- Numbers and floats as bytes, the least byte first.
use Rattle.std.specs.Prelude.{ℕ, zero, suc, ◌+◌, ◌*◌, ◌/◌, ◌%◌, Bool, not, ◌||◌, cond, List, [], ◌∷◌, eqb, Float}
use Rattle.std.specs.Float.{binary64}
use Rattle.std.specs.Float.Ieee.{is_nan, of_bits, to_bits}

-- R17.1: a number in k bytes
unfoldable pub bytes_of : ℕ → ℕ → List ℕ
bytes_of zero n = []
bytes_of (suc k) n = n % 256 ∷ bytes_of k (n / 256)

-- R17.1: the number that bytes say
unfoldable pub number_in : List ℕ → ℕ
number_in [] = 0
number_in (b ∷ bs) = number_in bs * 256 + b

-- R17.2: the one NaN that is written and read
abbrev pub the_nan : ℕ
the_nan = 0x7ff8_0000_0000_0000

-- R17.2
unfoldable pub float_bytes : Float → List ℕ
float_bytes x = bytes_of 8 (cond (is_nan x) the_nan (to_bits binary64 x))

-- R17.3: whether a pattern is read
unfoldable pub good_pattern : ℕ → Bool
good_pattern n = not (is_nan (of_bits binary64 n)) || eqb n the_nan

-- R17.3
abbrev pub float_of : ℕ → Float
float_of n = of_bits binary64 n
