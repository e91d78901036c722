-- Zeros of either sign in sums, products and quotients: a value that is not -0 stays as it is when a zero is added, and a sum that starts at a value other than -0 never comes to -0.
-- Assumes nothing.
use Rattle.std.specs.Prelude.{◌≡◌, ℕ, zero, suc, ◌+◌, ◌-◌, ◌*◌, ◌%◌, ◌^◌, ◌≤◌, ◌<◌, Bool, true, false, not, ◌&&◌, cond, ℤ, pos, T, ltb, leb, eqb, Float}
use Rattle.std.proofs.Math.Path.{refl}
use Rattle.std.proofs.Common.{sym, ap, ◌∙◌, subst, mul-pos, mul-one, one-mul, zero-mul, mul-zero, mul_comm, mul_assoc, mul_right_comm, mul-le-mul_right, mul-lt-mul_of_pos_right, zero-lt-suc, lt_irrefl, lt_of_mul-lt-mul_right, arith, ltb→lt, lt→ltb, leb→le, eqb→eq, T_not, pow_pos}
use Rattle.std.proofs.Math.Nat.{mul-sub}
use Rattle.std.specs.Bool.{beq}
use Rattle.std.proofs.Math.Pow.{pow-lt}
use Rattle.std.specs.Float.{nan, inf, fin, Format, binary64}
use Rattle.std.specs.Float.Ieee.{prec, emax, low, up, down, unlike, round, neg, sum, add, mul, div, of_int, fits, level, eq, sub}
use Rattle.std.specs.Float.Ieee.Fits.{up_pos, down_pos, and_l, and_r, two, two-le_pos}
use Rattle.std.specs.Float.Ieee.Exact.{HasValue, round_exact}
use Rattle.std.specs.Float.Ieee.Order.{round_mono}
use Rattle.std.specs.Float.Ieee.Positive.{above, positive_of_value, above_of_le}
use Rattle.std.specs.Float.Ieee.Scale.{round_same, finite}
use Rattle.floats.specs.Round.{unique, round-self, round-neg, shift, clear, round-clear}

abbrev pub is_zero : Float → Bool
is_zero nan = false
is_zero (inf s) = false
is_zero (fin s zero e) = true
is_zero (fin s (suc m) e) = false

-- -0
abbrev pub is_minus_zero : Float → Bool
is_minus_zero nan = false
is_minus_zero (inf s) = false
is_minus_zero (fin true zero e) = true
is_minus_zero (fin true (suc m) e) = false
is_minus_zero (fin false m e) = false

-- ---- a zero added
-- (m * 2 ^ e) / 1, with a factor above and below
same-frac : (f : Format) (s : Bool) (m : ℕ) (e d : ℤ) (k : ℕ) → k ≡ m * up e * down d → T (fits f (fin s m e)) → round f s k (down e * down d) ≡ fin s m e
same-frac f s m e d k h t =
    round_same f s k (down e * down d) (m * up e) (down e) (mul-pos (down_pos e) (down_pos d)) (down_pos e)
    (ap (λ (z : ℕ). z * down e) h ∙ mul_assoc (m * up e) (down d) (down e) ∙ ap (λ (z : ℕ). m * up e * z) (mul_comm (down d) (down e)))
    ∙ round-self f s m e t

no_add : (a u v : ℕ) → a + 0 * u * v ≡ a
no_add a u v = omega arith

no_sub : (a u v : ℕ) → a - 0 * u * v ≡ a
no_sub a u v = omega arith

none_below : (a u v : ℕ) → a < 0 * u * v → ⊥
none_below a u v h = omega arith

zero-below : (a u v : ℕ) → 0 < a → 0 * u * v < a
zero-below a u v h = omega arith

sum-zero : (f : Format) (s : Bool) (m : ℕ) (e : ℤ) (t : Bool) (d : ℤ) → T (fits f (fin s m e)) → T (not (is_minus_zero (fin s m e)))
    → sum f s (m * up e * down d) t (0 * up d * down e) (down e * down d) ≡ fin s m e
unfolding sum
sum-zero f false m e false d p q = same-frac f false m e d (m * up e * down d + 0 * up d * down e) (no_add (m * up e * down d) (up d) (down e)) p
sum-zero f true m e true d p q = same-frac f true m e d (m * up e * down d + 0 * up d * down e) (no_add (m * up e * down d) (up d) (down e)) p
sum-zero f false m e true d p q = go (ltb (m * up e * down d) (0 * up d * down e)) (ltb→lt (m * up e * down d) (0 * up d * down e))
  where
    go : (x : Bool) → (T x → m * up e * down d < 0 * up d * down e)
        → cond x (round f true (0 * up d * down e - m * up e * down d) (down e * down d)) (round f false (m * up e * down d - 0 * up d * down e) (down e * down d)) ≡ fin false m e
    go true h = absurd (none_below (m * up e * down d) (up d) (down e) (h tt))
    go false h = same-frac f false m e d (m * up e * down d - 0 * up d * down e) (no_sub (m * up e * down d) (up d) (down e)) p
sum-zero f true zero e false d p q = absurd q
sum-zero f true (suc m) e false d p q =
    go (ltb (suc m * up e * down d) (0 * up d * down e)) (ltb→lt (suc m * up e * down d) (0 * up d * down e)) (ltb (0 * up d * down e) (suc m * up e * down d))
    (lt→ltb (0 * up d * down e) (suc m * up e * down d) (zero-below (suc m * up e * down d) (up d) (down e) (mul-pos (mul-pos (zero-lt-suc m) (up_pos e)) (down_pos d))))
  where
    go : (x : Bool) → (T x → suc m * up e * down d < 0 * up d * down e) → (y : Bool) → T y
        → cond x (round f false (0 * up d * down e - suc m * up e * down d) (down e * down d)) (round f (true && y) (suc m * up e * down d - 0 * up d * down e) (down e * down d)) ≡ fin true (suc m) e
    go true h y k = absurd (none_below (suc m * up e * down d) (up d) (down e) (h tt))
    go false h true k = same-frac f true (suc m) e d (suc m * up e * down d - 0 * up d * down e) (no_sub (suc m * up e * down d) (up d) (down e)) p
    go false h false k = absurd k

pub add-zero64 : (f : Format) (x z : Float) → T (fits f x) → T (not (is_minus_zero x)) → T (is_zero z) → add f x z ≡ x
unfolding add
add-zero64 f nan z p q h = refl
add-zero64 f (inf s) nan p q h = absurd h
add-zero64 f (inf s) (inf t) p q h = absurd h
add-zero64 f (inf s) (fin t n d) p q h = refl
add-zero64 f (fin s m e) nan p q h = absurd h
add-zero64 f (fin s m e) (inf t) p q h = absurd h
add-zero64 f (fin s m e) (fin t zero d) p q h = sum-zero f s m e t d p q
add-zero64 f (fin s m e) (fin t (suc n) d) p q h = absurd h

-- ---- a product with a zero
round-zero : (s : Bool) (a c : ℕ) → 0 < c → a ≡ 0 → round binary64 s a c ≡ fin s 0 (pos 0)
unfolding round
round-zero s a c C h = round_same binary64 s a c 0 1 C (zero-lt-suc 0) (ap (λ (z : ℕ). z * 1) h ∙ sym (zero-mul c)) ∙ closed s
  where
    closed : (s : Bool) → round binary64 s 0 1 ≡ fin s 0 (pos 0)
    closed true = refl
    closed false = refl

pub mul-zero64 : (x z : Float) → T (finite x) → T (is_zero z) → T (is_zero (mul binary64 x z))
unfolding mul
mul-zero64 nan z p h = absurd p
mul-zero64 (inf s) z p h = absurd p
mul-zero64 (fin s m e) nan p h = absurd h
mul-zero64 (fin s m e) (inf t) p h = absurd h
mul-zero64 (fin s m e) (fin t (suc n) d) p h = absurd h
mul-zero64 (fin s m e) (fin t zero d) p h =
    subst (λ (z : Float). T (is_zero z)) (sym (round-zero (unlike s t) (m * up e * (0 * up d)) (down e * down d) (mul-pos (down_pos e) (down_pos d))
    (ap (λ (z : ℕ). m * up e * z) (zero-mul (up d)) ∙ mul-zero (m * up e)))) tt

pub zero-mul64 : (z x : Float) → T (is_zero z) → T (finite x) → T (is_zero (mul binary64 z x))
unfolding mul
zero-mul64 nan x h p = absurd h
zero-mul64 (inf s) x h p = absurd h
zero-mul64 (fin s (suc m) e) x h p = absurd h
zero-mul64 (fin s zero e) nan h p = absurd p
zero-mul64 (fin s zero e) (inf t) h p = absurd p
zero-mul64 (fin s zero e) (fin t n d) h p =
    subst (λ (z : Float). T (is_zero z)) (sym (round-zero (unlike s t) (0 * up e * (n * up d)) (down e * down d) (mul-pos (down_pos e) (down_pos d))
    (ap (λ (z : ℕ). z * (n * up d)) (zero-mul (up e)) ∙ zero-mul (n * up d)))) tt

-- 0 over what is above it
pub zero-div64 : (x : Float) → T (above x) → div binary64 (fin false 0 (pos 0)) x ≡ fin false 0 (pos 0)
unfolding div
zero-div64 nan h = absurd h
zero-div64 (inf true) h = absurd h
zero-div64 (inf false) h = refl
zero-div64 (fin true n d) h = absurd h
zero-div64 (fin false n d) h = go (eqb n 0) (eqb→eq n 0)
  where
    go : (b : Bool) → (T b → n ≡ 0) → cond b nan (round binary64 false (0 * 1 * down d) (n * up d * 1)) ≡ fin false 0 (pos 0)
    go true z = absurd (lt_irrefl 0 (subst (λ (k : ℕ). 0 < k) (z tt) (ltb→lt 0 n h)))
    go false z =
        round-zero false (0 * 1 * down d) (n * up d * 1) (mul-pos (mul-pos (ltb→lt 0 n h) (up_pos d)) (zero-lt-suc 0)) (zero-mul (down d))

-- a count of 0, as a float, is a zero
pub count-zero : T (is_zero (of_int binary64 (pos 0)))
unfolding of_int
count-zero = tt

-- ---- a sum is never -0 but where both are
-- in units of the smallest value a value that fits is a whole number
in-units : (f : Format) (s : Bool) (m : ℕ) (e : ℤ) → T (fits f (fin s m e)) → (q : ℕ) × (m * up e * 2 ^ low f ≡ q * down e)
unfolding fits
in-units f s zero e t = (0, ap (λ (z : ℕ). z * 2 ^ low f) (zero-mul (up e)) ∙ zero-mul (2 ^ low f) ∙ sym (zero-mul (down e)))
in-units f s (suc m) e t =
    let a : Bool = eqb (suc m % 2) 1 in
    let b : Bool = ltb (suc m) (2 ^ prec f) in
    let c : Bool = leb (down e) (2 ^ low f) in
    let d : Bool = ltb (suc m * up e) (2 ^ suc (emax f) * down e) in
    let j = shift f e (leb→le (down e) (2 ^ low f) (and_r (a && b) c (and_l (a && b && c) d t))) in
    (suc m * 2 ^ j.0, mul_assoc (suc m) (up e) (2 ^ low f) ∙ ap (λ (z : ℕ). suc m * z) (sym j.1) ∙ sym (mul_assoc (suc m) (2 ^ j.0) (down e)))

-- one unit or more does not round to zero
one-small : (p : ℕ) → 2 ≤ p → 1 < 2 ^ p
one-small p h = pow-lt {i = 0} (two-le_pos p h)

unit : (f : Format) → HasValue (round f false 1 (2 ^ low f)) false 1 (2 ^ low f)
unit f = round_exact f false 1 (2 ^ low f) 1 0 (pow_pos (low f)) (one-small (prec f) (two f)) (pow-lt {i = 0} (some (low f) (emax f))) (ap (λ (z : ℕ). z * 2 ^ low f) (sym (mul-one 1)))
  where
    some : (a b : ℕ) → 0 < a + suc b
    some a b = omega arith

pub not-lost : (f : Format) (k c : ℕ) → 0 < c → c ≤ k * 2 ^ low f → T (above (round f false k c))
not-lost f k c C h =
    above_of_le (round f false 1 (2 ^ low f)) (round f false k c) (positive_of_value (round f false 1 (2 ^ low f)) 1 (2 ^ low f) (unit f) (zero-lt-suc 0))
    (round_mono f 1 (2 ^ low f) k c (pow_pos (low f)) C (subst (λ (z : ℕ). z ≤ k * 2 ^ low f) (sym (one-mul c)) h))

not-minus : (x : Float) → T (above x) → T (not (is_minus_zero (neg x)))
unfolding neg
not-minus nan h = tt
not-minus (inf s) h = tt
not-minus (fin true m e) h = absurd h
not-minus (fin false zero e) h = absurd (lt_irrefl 0 (ltb→lt 0 0 h))
not-minus (fin false (suc m) e) h = tt

neg-round : (f : Format) (k c : ℕ) → 0 < c → c ≤ k * 2 ^ low f → T (not (is_minus_zero (round f true k c)))
neg-round f k c C h = subst (λ (z : Float). T (not (is_minus_zero z))) (sym (round-neg f k c)) (not-minus (round f false k c) (not-lost f k c C h))

clear-not-minus : (x : Float) → T (clear x) → T (not (is_minus_zero x))
clear-not-minus nan h = tt
clear-not-minus (inf s) h = tt
clear-not-minus (fin true m e) h = absurd h
clear-not-minus (fin false m e) h = tt

pos-round : (f : Format) (k c : ℕ) → T (not (is_minus_zero (round f false k c)))
pos-round f k c = clear-not-minus (round f false k c) (round-clear f k c)

-- two fractions over one denominator, each whole in units: a sum or difference above zero is a unit at least
-- a * L = p * c and b * L = q * c
gap : (a b c L p q : ℕ) → a * L ≡ p * c → b * L ≡ q * c → 0 < L → a < b → c ≤ (b - a) * L
gap a b c L p q A B L0 h =
    let x : a * L < b * L = mul-lt-mul_of_pos_right h L0 in
    let y : p < q = lt_of_mul-lt-mul_right c (subst (λ (z : ℕ). z < q * c) A (subst (λ (z : ℕ). a * L < z) B x)) in
    let z : suc p * c ≤ q * c = mul-le-mul_right c y in
    let w : (b - a) * L ≡ L * b - L * a = mul_comm (b - a) L ∙ mul-sub L b a in
    omega arith

whole-l : (f : Format) (s : Bool) (m : ℕ) (e d : ℤ) → T (fits f (fin s m e)) → (p : ℕ) × (m * up e * down d * 2 ^ low f ≡ p * (down e * down d))
whole-l f s m e d t =
    let q = in-units f s m e t in
    (q.0, mul_right_comm (m * up e) (down d) (2 ^ low f) ∙ ap (λ (z : ℕ). z * down d) q.1 ∙ mul_assoc q.0 (down e) (down d))

whole-r : (f : Format) (s : Bool) (n : ℕ) (d e : ℤ) → T (fits f (fin s n d)) → (p : ℕ) × (n * up d * down e * 2 ^ low f ≡ p * (down e * down d))
whole-r f s n d e t =
    let q = whole-l f s n d e t in
    (q.0, q.1 ∙ ap (λ (z : ℕ). q.0 * z) (mul_comm (down d) (down e)))

less_none : (a : ℕ) → a - 0 ≡ a
less_none a = omega arith

more : (a b c L p q : ℕ) → a * L ≡ p * c → b * L ≡ q * c → 0 < L → 0 < a → c ≤ (a + b) * L
more a b c L p q A B L0 h =
    let g : c ≤ a * L = subst (λ (z : ℕ). c ≤ z * L) (less_none a) (gap 0 a c L 0 p (zero-mul L ∙ sym (zero-mul c)) A L0 h) in
    omega arith

pub add-not-minus : (f : Format) (x y : Float) → T (fits f x) → T (fits f y) → T (not (is_minus_zero x)) → T (not (is_minus_zero (add f x y)))
unfolding add
add-not-minus f nan y p q h = tt
add-not-minus f (inf s) nan p q h = tt
add-not-minus f (inf true) (inf true) p q h = tt
add-not-minus f (inf true) (inf false) p q h = tt
add-not-minus f (inf false) (inf true) p q h = tt
add-not-minus f (inf false) (inf false) p q h = tt
add-not-minus f (inf s) (fin t n d) p q h = tt
add-not-minus f (fin s m e) nan p q h = tt
add-not-minus f (fin s m e) (inf t) p q h = tt
add-not-minus f (fin false m e) (fin false n d) p q h = pos-round f (m * up e * down d + n * up d * down e) (down e * down d)
add-not-minus f (fin true zero e) (fin t n d) p q h = absurd h
add-not-minus f (fin true (suc m) e) (fin true n d) p q h =
    let u = whole-l f true (suc m) e d p in
    let v = whole-r f true n d e q in
    neg-round f (suc m * up e * down d + n * up d * down e) (down e * down d) (mul-pos (down_pos e) (down_pos d))
    (more (suc m * up e * down d) (n * up d * down e) (down e * down d) (2 ^ low f) u.0 v.0 u.1 v.1 (pow_pos (low f)) (mul-pos (mul-pos (zero-lt-suc m) (up_pos e)) (down_pos d)))
add-not-minus f (fin false m e) (fin true n d) p q h = go (ltb (m * up e * down d) (n * up d * down e)) (ltb→lt (m * up e * down d) (n * up d * down e))
  where
    go : (x : Bool) → (T x → m * up e * down d < n * up d * down e)
        → T (not (is_minus_zero (cond x (round f true (n * up d * down e - m * up e * down d) (down e * down d)) (round f false (m * up e * down d - n * up d * down e) (down e * down d)))))
    go true l =
        let u = whole-l f false m e d p in
        let v = whole-r f true n d e q in
        neg-round f (n * up d * down e - m * up e * down d) (down e * down d) (mul-pos (down_pos e) (down_pos d))
        (gap (m * up e * down d) (n * up d * down e) (down e * down d) (2 ^ low f) u.0 v.0 u.1 v.1 (pow_pos (low f)) (l tt))
    go false l = pos-round f (m * up e * down d - n * up d * down e) (down e * down d)
add-not-minus f (fin true (suc m) e) (fin false n d) p q h =
    go (ltb (suc m * up e * down d) (n * up d * down e)) (ltb (n * up d * down e) (suc m * up e * down d)) (ltb→lt (n * up d * down e) (suc m * up e * down d))
  where
    go : (x y : Bool) → (T y → n * up d * down e < suc m * up e * down d)
        → T (not (is_minus_zero (cond x (round f false (n * up d * down e - suc m * up e * down d) (down e * down d))
        (round f (true && y) (suc m * up e * down d - n * up d * down e) (down e * down d)))))
    go true y l = pos-round f (n * up d * down e - suc m * up e * down d) (down e * down d)
    go false false l = pos-round f (suc m * up e * down d - n * up d * down e) (down e * down d)
    go false true l =
        let u = whole-l f true (suc m) e d p in
        let v = whole-r f false n d e q in
        neg-round f (suc m * up e * down d - n * up d * down e) (down e * down d) (mul-pos (down_pos e) (down_pos d))
        (gap (n * up d * down e) (suc m * up e * down d) (down e * down d) (2 ^ low f) v.0 u.0 v.1 u.1 (pow_pos (low f)) (l tt))

-- ---- x - x is 0 for a finite x, and a NaN for any other: so a program tests for a finite value
no_less : (a : ℕ) → a < a → ⊥
no_less a h = lt_irrefl a h

sum_self : (s : Bool) (a c : ℕ) → 0 < c → sum binary64 s a (not s) a c ≡ fin false 0 (pos 0)
unfolding sum
sum_self s a c C = both s (ltb a a) (ltb→lt a a)
  where
    gone : (a : ℕ) → a - a ≡ 0
    gone a = omega arith

    zero_of : round binary64 false (a - a) c ≡ fin false 0 (pos 0)
    zero_of = round-zero false (a - a) c C (gone a)

    both : (s : Bool) (x : Bool) → (T x → a < a)
        → cond (beq s (not s)) (round binary64 s (a + a) c) (cond x (round binary64 (not s) (a - a) c) (round binary64 (s && x) (a - a) c)) ≡ fin false 0
        (pos 0)
    both s true h = absurd (no_less a (h tt))
    both true false h = zero_of
    both false false h = zero_of

zero-eq : eq (fin false 0 (pos 0)) (fin false 0 (pos 0)) ≡ true
unfolding eq
zero-eq = refl

pub sub-none : (x : Float) → T (finite x) → sub binary64 x x ≡ fin false 0 (pos 0)
unfolding sub
sub-none nan p = absurd p
sub-none (inf s) p = absurd p
sub-none (fin s m e) p = sum_self s (m * up e * down e) (down e * down e) (mul-pos (down_pos e) (down_pos e))

pub sub_self : (x : Float) → eq (sub binary64 x x) (fin false 0 (pos 0)) ≡ finite x
unfolding sub
sub_self nan = unfold eq in refl
sub_self (inf true) = unfold eq in refl
sub_self (inf false) = unfold eq in refl
sub_self (fin s m e) = ap (λ (z : Float). eq z (fin false 0 (pos 0))) (sub-none (fin s m e) tt) ∙ zero-eq

-- ---- values that are equal and no zeros are the same
no-factor : (a c : ℕ) → 0 < c → a * c ≡ 0 → a ≡ 0
no-factor zero c C h = refl
no-factor (suc a) c C h = absurd (omega (arith, h, mul-pos (zero-lt-suc a) C))

zero-level : (s : Bool) (k b : ℕ) → k ≡ 0 → b ≡ 0 → T (level s k false b)
zero-level s k b h g = subst (λ n. T (level s n false b)) (sym h) (subst (λ n. T (level s 0 false n)) (sym g) (go s))
  where
    go : (s : Bool) → T (level s 0 false 0)
    go true = tt
    go false = tt

pub eq-same : (f : Format) (x y : Float) → T (fits f x) → T (fits f y) → T (eq x y) → T (not (eq x (fin false 0 (pos 0)))) → x ≡ y
unfolding eq
eq-same f nan y p q h z = absurd h
eq-same f (inf s) nan p q h z = absurd h
eq-same f (inf true) (inf true) p q h z = refl
eq-same f (inf true) (inf false) p q h z = absurd h
eq-same f (inf false) (inf true) p q h z = absurd h
eq-same f (inf false) (inf false) p q h z = refl
eq-same f (inf s) (fin t n d) p q h z = absurd h
eq-same f (fin s m e) nan p q h z = absurd h
eq-same f (fin s m e) (inf t) p q h z = absurd h
eq-same f (fin s m e) (fin t n d) p q h z =
    let r = go s t h in
    unique f (fin s m e) (fin t n d) s (m * up e) (down e) p q (down_pos e) (refl, refl) (sym r.1, sym r.0)
  where
    here : ℕ
    here = m * up e * down d

    there : ℕ
    there = n * up d * down e

    large : T (eqb here 0) → ⊥
    large l =
        T_not (level s (m * up e * 1) false (0 * down e)) z
        (zero-level s (m * up e * 1) (0 * down e) (mul-one (m * up e) ∙ no-factor (m * up e) (down d) (down_pos d) (eqb→eq here 0 l)) (zero-mul (down e)))

    go : (s t : Bool) → T (level s here t there) → (here ≡ there) × (s ≡ t)
    go true true l = (eqb→eq here there (and_l (eqb here there) true l), refl)
    go true false l = absurd (large (and_r (eqb here there) (eqb here 0) l))
    go false true l = absurd (large (and_r (eqb here there) (eqb here 0) l))
    go false false l = (eqb→eq here there (and_l (eqb here there) true l), refl)
