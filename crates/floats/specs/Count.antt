-- A count as a float is finite, and above 0 where it is not 0; the mass of a row that is left out, by its count or by its weight, is a zero; and what is not below 0 is
-- not larger if it is divided by a larger count. Assumes nothing.
use Rattle.std.specs.Prelude.{◌≡◌, refl, ℕ, ◌*◌, ◌^◌, ◌≤◌, ◌<◌, Bool, true, false, cond, ℤ, pos, T, eqb, Float}
use Rattle.std.proofs.Common.{sym, ap, ◌∙◌, mul-pos, zero-lt-suc, mul-one, zero-mul, le_trans, mul-le-mul_right, mul_assoc, mul_comm, mul_right_comm, arith, true≢false, ltb→lt, lt→ltb, eqb→eq, pow_pos}
use Rattle.std.specs.Float.{nan, inf, fin, binary64}
use Rattle.std.specs.Float.Ieee.{low, up, down, round, mul, div, of_int, lt}
use Rattle.std.specs.Float.Ieee.Fits.{up_pos, down_pos}
use Rattle.std.specs.Float.Ieee.Exact.{HasValue}
use Rattle.std.specs.Float.Ieee.Scale.{finite}
use Rattle.std.specs.Float.Ieee.Back.{round_whole}
use Rattle.std.specs.Float.Ieee.Order.{round_mono}
use Rattle.std.specs.Float.Ieee.Positive.{above, first_pos}
use Rattle.floats.specs.Order.{lt_not_le}
use Rattle.floats.specs.Zero.{is_zero, mul-zero64, zero-mul64, count-zero, not-lost}
use Rattle.floats.specs.Sign.{side}

-- a count has its own value
pub count-value : (n : ℕ) → n ≤ 2 ^ 53 → HasValue (of_int binary64 (pos n)) false n 1
unfolding of_int
count-value n h = round_whole binary64 false n h

value-finite : (x : Float) (s : Bool) (a c : ℕ) → HasValue x s a c → T (finite x)
value-finite nan s a c v = v
value-finite (inf t) s a c v = v
value-finite (fin t m e) s a c v = tt

pub count-finite : (n : ℕ) → n ≤ 2 ^ 53 → T (finite (of_int binary64 (pos n)))
count-finite n h = value-finite (of_int binary64 (pos n)) false n 1 (count-value n h)

pub count-above : (n : ℕ) → 0 < n → T (above (of_int binary64 (pos n)))
unfolding of_int
count-above n h = not-lost binary64 n 1 (zero-lt-suc 0) (mul-pos h (pow_pos (low binary64)))

-- ---- the mass of a row: its count times its weight
pub mass-none : (w : Float) → T (finite w) → T (is_zero (mul binary64 (of_int binary64 (pos 0)) w))
mass-none w p = zero-mul64 (of_int binary64 (pos 0)) w count-zero p

pub mass-weightless : (n : ℕ) (w : Float) → n ≤ 2 ^ 53 → T (is_zero w) → T (is_zero (mul binary64 (of_int binary64 (pos n)) w))
mass-weightless n w h z = mul-zero64 (of_int binary64 (pos n)) w (count-finite n h) z

-- ---- above zero, as a program tests it
pub above-lt : (x : Float) → T (above x) → T (lt (fin false 0 (pos 0)) x)
unfolding lt
above-lt nan h = h
above-lt (inf true) h = h
above-lt (inf false) h = tt
above-lt (fin true m e) h = absurd h
above-lt (fin false m e) h = lt→ltb (0 * 1 * down e) (m * up e * 1) (some (m * up e) (mul-pos (ltb→lt 0 m h) (up_pos e)))
  where
    some : (a : ℕ) → 0 < a → 0 * 1 * down e < a * 1
    some a g = omega arith

pub lt_above : (x : Float) → T (lt (fin false 0 (pos 0)) x) → T (above x)
unfolding lt
lt_above nan h = h
lt_above (inf true) h = h
lt_above (inf false) h = tt
lt_above (fin true m e) h = h
lt_above (fin false m e) h = lt→ltb 0 m (first_pos m (up e) (some (m * up e) (ltb→lt (0 * 1 * down e) (m * up e * 1) h)))
  where
    some : (a : ℕ) → 0 * 1 * down e < a * 1 → 0 < a
    some a g = omega arith

-- ---- divided by a count

no : (z : Bool) → (T z → ⊥) → z ≡ false
no true h = absurd (h tt)
no false h = refl

-- it is the fraction that is rounded: no division by 0
by_count : (m : ℕ) (e : ℤ) (a : ℕ) (b : ℤ) (k : ℕ) → 0 < k → a * up b * 1 ≡ k * down b
    → div binary64 (fin false m e) (fin false a b) ≡ round binary64 false (m * up e * down b) (a * up b * down e)
unfolding div
by_count m e a b k p v = ap (λ z. cond z (cond (eqb m 0) nan (inf false)) (round binary64 false (m * up e * down b) (a * up b * down e))) (no (eqb a 0) (λ z. some (eqb→eq a 0 z)))
  where
    some : a ≡ 0 → ⊥
    some z = omega (arith, v, mul-pos p (down_pos b), ap (λ y. y * up b) z ∙ zero-mul (up b))

crossed : (x b d e k n a c : ℕ) → k ≤ n → a * 1 ≡ k * b → c * 1 ≡ n * d → x * d * (a * e) ≤ x * b * (c * e)
crossed x b d e k n a c q v w =
    let same : x * d * e * b ≡ x * b * e * d = mul_right_comm (x * d) e b ∙ ap (λ z. z * e) (mul_right_comm x d b) ∙ mul_right_comm (x * b) d e in
    let left : x * d * (a * e) ≡ k * (x * b * e * d) = turned (x * d) b k a v ∙ ap (λ z. k * z) same in
    omega (arith, left, turned (x * b) d n c w, mul-le-mul_right (x * b * e * d) q)
  where
    turned : (y b k a : ℕ) → a * 1 ≡ k * b → y * (a * e) ≡ k * (y * e * b)
    turned y b k a v =
        ap (λ z. y * (z * e)) (sym (mul-one a) ∙ v) ∙ sym (mul_assoc y (k * b) e) ∙ mul_right_comm y (k * b) e ∙ ap (λ z. y * e * z) (mul_comm k b)
        ∙ sym (mul_assoc (y * e) b k) ∙ mul_comm (y * e * b) k

-- of a value on the upper side
falls : (u v x : Float) (k n : ℕ) → 0 < k → k ≤ n → HasValue u false k 1 → HasValue v false n 1 → T (side false x) → lt (div binary64 x u) (div binary64 x v) ≡ false
unfolding div lt
falls nan v x k n p q r s h = absurd r
falls (inf t) v x k n p q r s h = absurd r
falls (fin true a b) v x k n p q r s h = absurd (true≢false r.0)
falls (fin false a b) nan x k n p q r s h = absurd s
falls (fin false a b) (inf t) x k n p q r s h = absurd s
falls (fin false a b) (fin true c d) x k n p q r s h = absurd (true≢false s.0)
falls (fin false a b) (fin false c d) nan k n p q r s h = refl
falls (fin false a b) (fin false c d) (inf true) k n p q r s h = absurd h
falls (fin false a b) (fin false c d) (inf false) k n p q r s h = refl
falls (fin false a b) (fin false c d) (fin true m e) k n p q r s h = absurd h
falls (fin false a b) (fin false c d) (fin false m e) k n p q r s h =
    (λ i. lt (by_count m e a b k p r.1 i) (by_count m e c d n (le_trans p q) s.1 i))
    ∙ no (lt (round binary64 false (m * up e * down b) (a * up b * down e)) (round binary64 false (m * up e * down d) (c * up d * down e)))
    (λ l. lt_not_le (round binary64 false (m * up e * down b) (a * up b * down e)) (round binary64 false (m * up e * down d) (c * up d * down e)) l
    (round_mono binary64 (m * up e * down d) (c * up d * down e) (m * up e * down b) (a * up b * down e) (under c d n (le_trans p q) s.1) (under a b k p r.1)
    (crossed (m * up e) (down b) (down d) (down e) k n (a * up b) (c * up d) q r.1 s.1)))
  where
    under : (a : ℕ) (b : ℤ) (k : ℕ) → 0 < k → a * up b * 1 ≡ k * down b → 0 < a * up b * down e
    under a b k p v = mul-pos (omega (arith, v, mul-pos p (down_pos b))) (down_pos e)

-- so a sum of squares divided by fewer rows is never below the same sum divided by more
pub by-more : (x : Float) (k n : ℕ) → T (side false x) → 0 < k → k ≤ n → n ≤ 2 ^ 53 → lt (div binary64 x (of_int binary64 (pos k))) (div binary64 x (of_int binary64 (pos n))) ≡ false
by-more x k n h p q r = falls (of_int binary64 (pos k)) (of_int binary64 (pos n)) x k n p q (count-value k (le_trans q r)) (count-value n r) h
