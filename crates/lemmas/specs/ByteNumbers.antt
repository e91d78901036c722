-- Numbers and floats as bytes: what is written is read, and what is read is written. Assumes nothing.
use Rattle.std.specs.Prelude.{ℕ, zero, suc, ◌+◌, ◌*◌, ◌/◌, ◌%◌, ◌^◌, ◌<◌, ◌≡◌, refl, Bool, true, false, not, ◌||◌, cond, List, [], ◌∷◌, length, T, eqb, Float}
use Rattle.std.proofs.Common.{zero-lt-suc, mod-lt, pow-suc, div-add-mod', div-lt_iff_lt-mul, arith, sym, ap, ◌∙◌, subst, eqb→eq}
use Rattle.std.proofs.Math.Arith.{digits_lt, digits_div, digits_mod}
use Rattle.std.specs.Float.{nan, inf, fin, binary64}
use Rattle.std.specs.Float.Ieee.{fits, is_nan, of_bits, to_bits}
use Rattle.std.specs.Float.Ieee.Bits.{of_bits-to_bits, to_bits-of_bits, to_bits-lt}
use Rattle.rules.specs.Bytes.{bytes_of, number_in, the_nan, good_pattern, float_of}
use Rattle.lemmas.specs.Lists.{Every}

-- ---- numbers

abbrev pub Byte : ℕ → Type 0
Byte b = b < 256

pub bytes-long : (k n : ℕ) → length (bytes_of k n) ≡ k
unfolding bytes_of
bytes-long zero n = refl
bytes-long (suc k) n = ap suc (bytes-long k (n / 256))

pub bytes-are : (k n : ℕ) → Every Byte (bytes_of k n)
unfolding bytes_of
bytes-are zero n = tt
bytes-are (suc k) n = (mod-lt n (zero-lt-suc 255), bytes-are k (n / 256))

-- what is written is read
pub number-back : (k n : ℕ) → n < 256 ^ k → number_in (bytes_of k n) ≡ n
unfolding bytes_of number_in
number-back zero n h = few n h
  where
    few : (n : ℕ) → n < 1 → 0 ≡ n
    few n h = omega arith
number-back (suc k) n h =
    ap (λ m. m * 256 + n % 256) (number-back k (n / 256) ((div-lt_iff_lt-mul (zero-lt-suc 255)).1 (subst (λ m. n < m) (pow-suc 256 k) h))) ∙ div-add-mod' n 256

-- what is read is written
pub bytes_back : (bs : List ℕ) → Every Byte bs → bytes_of (length bs) (number_in bs) ≡ bs
unfolding bytes_of number_in
bytes_back [] e = refl
bytes_back (b ∷ bs) e = λ i. digits_mod (number_in bs) e.0 i ∷ (ap (bytes_of (length bs)) (digits_div (number_in bs) e.0) ∙ bytes_back bs e.1) i

pub number-below : (bs : List ℕ) → Every Byte bs → number_in bs < 256 ^ length bs
unfolding number_in
number-below [] e = zero-lt-suc 0
number-below (b ∷ bs) e = subst (λ m. number_in bs * 256 + b < m) (sym (pow-suc 256 (length bs))) (digits_lt (number-below bs e.1) e.0)

-- ---- floats

-- the pattern that is written
abbrev pub pattern_of : Float → ℕ
pattern_of x = cond (is_nan x) the_nan (to_bits binary64 x)

pub pattern-is : (x : Float) → pattern_of x ≡ to_bits binary64 x
unfolding is_nan to_bits
pattern-is nan = refl
pattern-is (inf s) = refl
pattern-is (fin s m e) = refl

module _ (x : Float) (fit : T (fits binary64 x)) where
  pub pattern-below : pattern_of x < 256 ^ 8
  pattern-below = subst (λ n. n < 256 ^ 8) (sym (pattern-is x)) (to_bits-lt binary64 x fit)

  pub float_back : float_of (pattern_of x) ≡ x
  float_back = ap (of_bits binary64) (pattern-is x) ∙ of_bits-to_bits binary64 x fit

pub pattern-good : (x : Float) → T (fits binary64 x) → T (good_pattern (pattern_of x))
unfolding good_pattern is_nan
pattern-good x fit = subst (λ y. T (not (is_nan y) || eqb (pattern_of x) the_nan)) (sym (float_back x fit)) (go x)
  where
    go : (y : Float) → T (not (is_nan y) || eqb (pattern_of y) the_nan)
    go nan = tt
    go (inf s) = tt
    go (fin s m e) = tt

pub pattern-back : (n : ℕ) → n < 256 ^ 8 → T (good_pattern n) → pattern_of (float_of n) ≡ n
unfolding good_pattern
pattern-back n h good = go (is_nan (of_bits binary64 n)) refl good
  where
    go : (b : Bool) → is_nan (of_bits binary64 n) ≡ b → T (not b || eqb n the_nan) → cond b the_nan (to_bits binary64 (of_bits binary64 n)) ≡ n
    go true q t = sym (eqb→eq n the_nan t)
    go false q t = to_bits-of_bits binary64 n h (subst (λ b. T (not b)) (sym q) tt)
