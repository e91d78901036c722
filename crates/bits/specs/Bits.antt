-- Patterns of floats, and bytes put into a word or taken out of it. Assumes nothing.
use Prim.Native.Nat.{ℕ, zero, suc, ◌+◌, ◌-◌, ◌*◌, ◌/◌, ◌%◌, ◌<◌, ◌≤◌}
use Rattle.std.proofs.Common.{not-le_of_lt, ◌∙◌, subst, add-one, drop-drop, length-append, lt→ltb, ltb→lt}
use Rattle.std.proofs.lemmas.List.{append-nil, drop-replicate, drop_all, length-drop, length-replicate, length-take-le, take_all}
use native.Mathlib.Omega.{arith}
use Rattle.std.specs.Prelude.{◌≡◌, refl, true, not, ◌||◌, List, [], ◌∷◌, ◌++◌, length, set, take, drop, replicate, T, eqb, Float}
use Rattle.std.proofs.Math.Path.{sym, ap}
use Rattle.std.proofs.Math.ListN.{get_or}
use Rattle.std.proofs.Math.Seq.{take-suc-set}
use Rattle.std.proofs.Math.Dec.{not_T}
use Rattle.std.specs.Int.{w64, from_le_bytes}
use Rattle.std.specs.Float.{nan, inf, fin, binary64}
use Rattle.std.specs.Float.Ieee.{is_nan, nan_bits, of_bits}
use Rattle.std.specs.Float.Ieee.Bits.{nan_bits_is, nan_bits_above}
use mathlib.Core.List.{append_assoc}
use borrow.Rule.Slice.PartMut.{put_mid}
use Rattle.rules.specs.Words.{stretch}
use Rattle.rules.specs.Bytes.{bytes_of, number_in, the_nan, good_pattern}
use Rattle.lemmas.specs.Lists.{is_true, is_false}
use Rattle.lemmas.specs.ByteNumbers.{bytes-long}
use Rattle.lemmas.specs.Spliced.{spliced}

-- k bytes from place at on, few enough for a number of 64 bits
pub record Stretches (at k : ℕ) (bytes : List ℕ) : Type 0 where
  pub few : k ≤ 8
  pub inside : at + k ≤ length bytes

-- ---- patterns of NaNs: above that of an infinity, but for the sign

pub nan_pattern : (n : ℕ) → 0x7ff0_0000_0000_0000 < n % 0x8000_0000_0000_0000 → is_nan (of_bits binary64 n) ≡ true
nan_pattern n h = is_true (is_nan (of_bits binary64 n)) (subst T (sym (nan_bits_above binary64 n) ∙ nan_bits_is binary64 n) (lt→ltb 0x7ff0_0000_0000_0000 (n % 0x8000_0000_0000_0000) h))

pub other-pattern : (n : ℕ) → n % 0x8000_0000_0000_0000 ≤ 0x7ff0_0000_0000_0000 → T (not (nan_bits binary64 n))
other-pattern n h = not_T (nan_bits binary64 n) (λ t. not-le_of_lt (ltb→lt 0x7ff0_0000_0000_0000 (n % 0x8000_0000_0000_0000) (subst T (nan_bits_above binary64 n) t)) h)

pub only_nan : (x : Float) → is_nan x ≡ true → nan ≡ x
unfolding is_nan
only_nan nan h = refl
only_nan (inf s) h = absurd (subst T (sym h) tt)
only_nan (fin s m e) h = absurd (subst T (sym h) tt)

pub nan-good : (n : ℕ) → 0x7ff0_0000_0000_0000 < n % 0x8000_0000_0000_0000 → eqb n the_nan ≡ good_pattern n
unfolding good_pattern
nan-good n h = ap (λ z. not z || eqb n the_nan) (sym (nan_pattern n h))

pub other-good : (n : ℕ) → n % 0x8000_0000_0000_0000 ≤ 0x7ff0_0000_0000_0000 → true ≡ good_pattern n
unfolding good_pattern
other-good n h = ap (λ z. not z || eqb n the_nan) (sym (sym (nan_bits_is binary64 n) ∙ is_false (nan_bits binary64 n) (other-pattern n h)))

-- ---- a number read: what is past the last byte is 0

zeros-in : (m : ℕ) → number_in (replicate m 0) ≡ 0
unfolding number_in
zeros-in zero = refl
zeros-in (suc m) = ap (λ n. n * 256 + 0) (zeros-in m)

zeros-after : (bs : List ℕ) (m : ℕ) → number_in (bs ++ replicate m 0) ≡ number_in bs
unfolding number_in
zeros-after [] m = zeros-in m
zeros-after (b ∷ bs) m = ap (λ n. n * 256 + b) (zeros-after bs m)

byte-first : (i : ℕ) (bs : List ℕ) → number_in (drop i bs) ≡ number_in (drop (suc i) bs) * 256 + get_or bs i 0
unfolding number_in
byte-first zero [] = refl
byte-first zero (b ∷ bs) = refl
byte-first (suc i) [] = refl
byte-first (suc i) (b ∷ bs) = byte-first i bs

word-in : (bs : List ℕ) → length bs ≤ 8 → from_le_bytes w64 bs ≡ number_in bs
unfolding number_in
word-in bs h =
    let none : number_in (drop 8 bs) ≡ 0 = ap number_in (drop_all 8 bs h) in
    omega (arith, none, byte-first 0 bs, byte-first 1 bs, byte-first 2 bs, byte-first 3 bs, byte-first 4 bs, byte-first 5 bs, byte-first 6 bs, byte-first 7 bs)

-- bytes in front of a word of zeros
pub word-read : (at k : ℕ) (bytes : List ℕ) → Stretches at k bytes → {new : List ℕ} → new ≡ stretch at (at + k - at) bytes
    → from_le_bytes w64 (put_mid 0 k (replicate 8 0) new) ≡ number_in (stretch at k bytes)
word-read at k bytes h {new} e =
    word-in (put_mid 0 k (replicate 8 0) new) (omega (arith, ap length shape, length-append new (replicate (8 - k) 0), length-replicate {A = ℕ} (8 - k) 0, long, h.few))
    ∙ ap number_in shape
    ∙ zeros-after new (8 - k)
    ∙ ap number_in same
  where
    same : new ≡ stretch at k bytes
    same = let k-is : at + k - at ≡ k = omega arith in e ∙ ap (λ m. stretch at m bytes) k-is

    long : length new ≡ k
    long = ap length same ∙ length-take-le k (drop at bytes) (omega (arith, length-drop at bytes, h.inside))

    shape : put_mid 0 k (replicate 8 0) new ≡ new ++ replicate (8 - k) 0
    shape = rw (drop-replicate {X = ℕ} k 8 0) refl

-- ---- a number written: the bytes before the i-th are, and what is left of n is m

pub put-next : (k i m : ℕ) (out : List ℕ) → i < k → i < length out → take (i + 1) (set out i (m % 256)) ++ bytes_of (k - (i + 1)) (m / 256) ≡ take i out ++ bytes_of (k - i) m
unfolding bytes_of
put-next k i m out h g =
    (λ j. take (add-one i j) (set out i (m % 256)) ++ bytes_of (k - (i + 1)) (m / 256))
    ∙ ap (λ l. l ++ bytes_of (k - (i + 1)) (m / 256)) (take-suc-set out i (m % 256) g)
    ∙ append_assoc (take i out) (m % 256 ∷ []) (bytes_of (k - (i + 1)) (m / 256))
    ∙ ap (λ n. take i out ++ bytes_of n m) (sym more)
  where
    more : k - i ≡ suc (k - (i + 1))
    more = omega arith

pub put-end : (k i m : ℕ) (out : List ℕ) → k ≤ i → length out ≡ k → out ≡ take i out ++ bytes_of (k - i) m
unfolding bytes_of
put-end k i m out h long =
    sym (take_all i out (omega (arith, h, long))) ∙ sym (append-nil (take i out)) ∙ ap (λ n. take i out ++ bytes_of n m) (sym none)
  where
    none : k - i ≡ 0
    none = omega arith

-- into a part of a list
pub put-spliced : (at k n : ℕ) (out : List ℕ) → at + k ≤ length out → {new : List ℕ} → new ≡ bytes_of (length (stretch at (at + k - at) out)) n
    → put_mid at (at + k - at) out new ≡ spliced at (bytes_of k n) out
unfolding spliced
put-spliced at k n out h e =
    (λ i. put_mid at (k-is i) out ((e ∙ ap (λ l. bytes_of l n) (ap (λ m. length (stretch at m out)) k-is ∙ long)) i))
    ∙ ap (λ l. take at out ++ (bytes_of k n ++ l)) (drop-drop k at out ∙ ap (λ m. drop (at + m) out) (sym (bytes-long k n)))
  where
    k-is : at + k - at ≡ k
    k-is = omega arith

    long : length (stretch at k out) ≡ k
    long = length-take-le k (drop at out) (omega (arith, length-drop at out, h))
