-- On which side of 0 a value stands by its sign, a NaN on either: sums, squares, products and quotients keep to it. What is added to 0, or divided by 1, stays as it is, but for a -0
-- added to 0; and two values can be added to 0 in either order. Assumes nothing.
use Rattle.std.specs.Prelude.{◌≡◌, ℕ, zero, suc, ◌+◌, ◌-◌, ◌*◌, ◌≤◌, ◌<◌, Bool, not, ◌&&◌, cond, ℤ, pos, T, ltb, eqb, Float}
use Rattle.std.proofs.Math.Path.{refl, ap}
use Rattle.std.proofs.Common.{sym, ◌∙◌, subst, zero-mul, mul-one, one-mul, mul_comm, add_comm, arith, true≢false, ltb→lt, nltb→le}
use Rattle.std.proofs.Math.Bool.{true, false}
use Rattle.std.specs.Bool.{beq}
use Rattle.std.specs.Float.{nan, inf, fin, Format}
use Rattle.std.specs.Float.Ieee.{up, down, unlike, round, neg, sum, add, mul, div, lt, eq, le, fits}
use Rattle.floats.specs.Round.{round-self, round-neg, clear, round-clear}
use Rattle.floats.specs.Between.{neg-below}
use Rattle.floats.specs.Zero.{is_minus_zero, is_zero, add-zero64}

-- a NaN, or its sign is s: set below 0, clear above
abbrev pub side : Bool → Float → Bool
side s nan = true
side s (inf t) = beq s t
side s (fin t m e) = beq s t

-- ---- what keeps to a side

clear-side : (x : Float) → T (clear x) → T (side false x)
clear-side nan h = tt
clear-side (inf true) h = h
clear-side (inf false) h = tt
clear-side (fin true m e) h = h
clear-side (fin false m e) h = tt

neg-side : (x : Float) → T (clear x) → T (side true (neg x))
unfolding neg
neg-side nan h = tt
neg-side (inf true) h = h
neg-side (inf false) h = tt
neg-side (fin true m e) h = h
neg-side (fin false m e) h = tt

pub round-side : (f : Format) (s : Bool) (a c : ℕ) → T (side s (round f s a c))
round-side f true a c = subst (λ x. T (side true x)) (sym (round-neg f a c)) (neg-side (round f false a c) (round-clear f a c))
round-side f false a c = clear-side (round f false a c) (round-clear f a c)

pub add-side : (f : Format) (s : Bool) (x y : Float) → T (side s x) → T (side s y) → T (side s (add f x y))
unfolding add
add-side f s nan y h k = tt
add-side f s (inf t) nan h k = tt
add-side f s (inf true) (inf true) h k = h
add-side f s (inf true) (inf false) h k = tt
add-side f s (inf false) (inf true) h k = tt
add-side f s (inf false) (inf false) h k = h
add-side f s (inf t) (fin u n d) h k = h
add-side f s (fin t m e) nan h k = tt
add-side f s (fin t m e) (inf u) h k = k
add-side f true (fin true m e) (fin true n d) h k = round-side f true (m * up e * down d + n * up d * down e) (down e * down d)
add-side f true (fin true m e) (fin false n d) h k = absurd k
add-side f true (fin false m e) (fin u n d) h k = absurd h
add-side f false (fin true m e) (fin u n d) h k = absurd h
add-side f false (fin false m e) (fin true n d) h k = absurd k
add-side f false (fin false m e) (fin false n d) h k = round-side f false (m * up e * down d + n * up d * down e) (down e * down d)

-- a square is not below 0
pub square-side : (f : Format) (x : Float) → T (side false (mul f x x))
unfolding mul
square-side f nan = tt
square-side f (inf true) = tt
square-side f (inf false) = tt
square-side f (fin true m e) = round-side f false (m * up e * (m * up e)) (down e * down e)
square-side f (fin false m e) = round-side f false (m * up e * (m * up e)) (down e * down e)

none_or : (b : Bool) → T (side false (cond b nan (inf false)))
none_or true = tt
none_or false = tt

-- a product of two on the upper side stays there
pub mul-side : (f : Format) (x y : Float) → T (side false x) → T (side false y) → T (side false (mul f x y))
unfolding mul
mul-side f nan y h k = tt
mul-side f (inf true) y h k = absurd h
mul-side f (inf false) nan h k = tt
mul-side f (inf false) (inf true) h k = absurd k
mul-side f (inf false) (inf false) h k = tt
mul-side f (inf false) (fin true n d) h k = absurd k
mul-side f (inf false) (fin false n d) h k = none_or (eqb n 0)
mul-side f (fin true m e) y h k = absurd h
mul-side f (fin false m e) nan h k = tt
mul-side f (fin false m e) (inf true) h k = absurd k
mul-side f (fin false m e) (inf false) h k = none_or (eqb m 0)
mul-side f (fin false m e) (fin true n d) h k = absurd k
mul-side f (fin false m e) (fin false n d) h k = round-side f false (m * up e * (n * up d)) (down e * down d)

-- a divisor on the upper side leaves each its side
pub div-side : (f : Format) (s : Bool) (x y : Float) → T (side s x) → T (side false y) → T (side s (div f x y))
unfolding div
div-side f s nan y h k = tt
div-side f s (inf t) nan h k = tt
div-side f s (inf t) (inf u) h k = tt
div-side f s (inf t) (fin true n d) h k = absurd k
div-side f s (inf true) (fin false n d) h k = h
div-side f s (inf false) (fin false n d) h k = h
div-side f s (fin t m e) nan h k = tt
div-side f s (fin t m e) (inf true) h k = absurd k
div-side f s (fin true m e) (inf false) h k = h
div-side f s (fin false m e) (inf false) h k = h
div-side f s (fin t m e) (fin true n d) h k = absurd k
div-side f s (fin t m e) (fin false n d) h k = go s t h (eqb n 0) (eqb m 0)
  where
    go : (s t : Bool) → T (beq s t) → (a b : Bool)
        → T (side s (cond a (cond b nan (inf (unlike t false))) (round f (unlike t false) (m * up e * down d) (n * up d * down e))))
    go true true h true true = tt
    go true true h true false = tt
    go true true h false b = round-side f true (m * up e * down d) (n * up d * down e)
    go true false h a b = absurd h
    go false true h a b = absurd h
    go false false h true true = tt
    go false false h true false = tt
    go false false h false b = round-side f false (m * up e * down d) (n * up d * down e)

-- ---- sides, and the order

none-less : (a b : ℕ) → b ≡ 0 → ltb a b ≡ false
none-less a b h = go (ltb a b) (ltb→lt a b)
  where
    low : a < b → ⊥
    low l = omega arith

    go : (x : Bool) → (T x → a < b) → x ≡ false
    go true l = absurd (low (l tt))
    go false l = refl

nothing : (e : ℤ) → 0 * 1 * down e ≡ 0
nothing e = zero-mul (down e)

pub not-below : (x : Float) → T (side false x) → lt x (fin false 0 (pos 0)) ≡ false
unfolding lt
not-below nan h = refl
not-below (inf true) h = absurd h
not-below (inf false) h = refl
not-below (fin true m e) h = absurd h
not-below (fin false m e) h = none-less (m * up e * 1) (0 * 1 * down e) (nothing e)

pub not-above : (x : Float) → T (side true x) → lt (fin false 0 (pos 0)) x ≡ false
unfolding lt
not-above nan h = refl
not-above (inf true) h = refl
not-above (inf false) h = absurd h
not-above (fin true m e) h = refl
not-above (fin false m e) h = absurd h

pub below-side : (x : Float) → T (lt x (fin false 0 (pos 0))) → T (side true x)
unfolding lt
below-side nan h = tt
below-side (inf true) h = tt
below-side (inf false) h = h
below-side (fin true m e) h = tt
below-side (fin false m e) h = subst T (none-less (m * up e * 1) (0 * 1 * down e) (nothing e)) h

pub above-side : (x : Float) → T (lt (fin false 0 (pos 0)) x) → T (side false x)
unfolding lt
above-side nan h = tt
above-side (inf true) h = h
above-side (inf false) h = tt
above-side (fin true m e) h = h
above-side (fin false m e) h = tt

-- what is not at most 0, a NaN among it
pub over-side : (x : Float) → le x (fin false 0 (pos 0)) ≡ false → T (side false x)
unfolding le lt eq
over-side nan h = tt
over-side (inf true) h = absurd (true≢false h)
over-side (inf false) h = tt
over-side (fin true m e) h = absurd (subst T h (neg-below m e (fin false 0 (pos 0)) tt))
over-side (fin false m e) h = tt

-- ---- 0 added, and divided by 1

-- a sum is the same either way round
sum-turned : (f : Format) (a b c : ℕ) → sum f true a false b c ≡ sum f false b true a c
unfolding sum
sum-turned f a b c = go (ltb a b) (ltb b a) (ltb→lt a b) (ltb→lt b a) (nltb→le a b) (nltb→le b a)
  where
    clash : a < b → b < a → ⊥
    clash p q = omega arith

    same : b ≤ a → a ≤ b → a - b ≡ b - a
    same p q = omega arith

    go : (x y : Bool) → (T x → a < b) → (T y → b < a) → (T (not x) → b ≤ a) → (T (not y) → a ≤ b)
        → cond x (round f false (b - a) c) (round f (true && y) (a - b) c) ≡ cond y (round f true (a - b) c) (round f (false && x) (b - a) c)
    go true true p q r z = absurd (clash (p tt) (q tt))
    go true false p q r z = refl
    go false true p q r z = refl
    go false false p q r z = ap (λ n. round f false n c) (same (r tt) (z tt))

sum_comm : (f : Format) (s : Bool) (a : ℕ) (t : Bool) (b c : ℕ) → sum f s a t b c ≡ sum f t b s a c
sum_comm f true a true b c = unfold sum in ap (λ n. round f true n c) (add_comm a b)
sum_comm f true a false b c = sum-turned f a b c
sum_comm f false a true b c = sym (sum-turned f b a c)
sum_comm f false a false b c = unfold sum in ap (λ n. round f false n c) (add_comm a b)

pub add-comm64 : (f : Format) (x y : Float) → add f x y ≡ add f y x
unfolding add
add-comm64 f nan nan = refl
add-comm64 f nan (inf t) = refl
add-comm64 f nan (fin t n d) = refl
add-comm64 f (inf s) nan = refl
add-comm64 f (inf true) (inf true) = refl
add-comm64 f (inf true) (inf false) = refl
add-comm64 f (inf false) (inf true) = refl
add-comm64 f (inf false) (inf false) = refl
add-comm64 f (inf s) (fin t n d) = refl
add-comm64 f (fin s m e) nan = refl
add-comm64 f (fin s m e) (inf t) = refl
add-comm64 f (fin s m e) (fin t n d) =
    sum_comm f s (m * up e * down d) t (n * up d * down e) (down e * down d) ∙ ap (sum f t (n * up d * down e) s (m * up e * down d)) (mul_comm (down e) (down d))

-- -0 told as +0, all else as it is
abbrev pub plain : Float → Float
plain x = cond (is_minus_zero x) (fin false 0 (pos 0)) x

pub zero-add64 : (f : Format) (x : Float) → T (fits f x) → add f (fin false 0 (pos 0)) x ≡ plain x
zero-add64 f nan p = unfold add in refl
zero-add64 f (inf s) p = unfold add in refl
zero-add64 f (fin true zero e) p = add-zero64 f (fin false 0 (pos 0)) (fin true zero e) (unfold fits in tt) tt tt
zero-add64 f (fin true (suc m) e) p = add-comm64 f (fin false 0 (pos 0)) (fin true (suc m) e) ∙ add-zero64 f (fin true (suc m) e) (fin false 0 (pos 0)) p tt tt
zero-add64 f (fin false m e) p = add-comm64 f (fin false 0 (pos 0)) (fin false m e) ∙ add-zero64 f (fin false m e) (fin false 0 (pos 0)) p tt tt

-- two values added to 0: whichever comes first
minus-zero : (x : Float) → is_minus_zero x ≡ true → T (is_zero x)
minus-zero nan h = absurd (true≢false (sym h))
minus-zero (inf s) h = absurd (true≢false (sym h))
minus-zero (fin true zero e) h = tt
minus-zero (fin true (suc m) e) h = absurd (true≢false (sym h))
minus-zero (fin false m e) h = absurd (true≢false (sym h))

pub add-two64 : (f : Format) (x y : Float) → T (fits f x) → T (fits f y) → add f (add f (fin false 0 (pos 0)) x) y ≡ add f (add f (fin false 0 (pos 0)) y) x
add-two64 f x y p q =
    ap (λ z. add f z y) (zero-add64 f x p) ∙ go (is_minus_zero x) (is_minus_zero y) refl refl ∙ ap (λ z. add f z x) (sym (zero-add64 f y q))
  where
    stays : (x z : Float) → T (fits f x) → is_minus_zero x ≡ false → is_minus_zero z ≡ true → add f x z ≡ x
    stays x z p a b = add-zero64 f x z p (subst (λ c. T (not c)) (sym a) tt) (minus-zero z b)

    alone : (x : Float) → T (fits f x) → (b : Bool) → is_minus_zero x ≡ b → add f (fin false 0 (pos 0)) x ≡ cond b (fin false 0 (pos 0)) x
    alone x p b h = zero-add64 f x p ∙ ap (λ c. cond c (fin false 0 (pos 0)) x) h

    go : (a b : Bool) → is_minus_zero x ≡ a → is_minus_zero y ≡ b → add f (cond a (fin false 0 (pos 0)) x) y ≡ add f (cond b (fin false 0 (pos 0)) y) x
    go true true h k = alone y q true k ∙ sym (alone x p true h)
    go true false h k = alone y q false k ∙ sym (stays y x q k h)
    go false true h k = stays x y p h k ∙ sym (alone x p false h)
    go false false h k = add-comm64 f x y

pub div-one64 : (f : Format) (x : Float) → T (fits f x) → div f x (fin false 1 (pos 0)) ≡ x
unfolding div
div-one64 f nan p = refl
div-one64 f (inf true) p = refl
div-one64 f (inf false) p = refl
div-one64 f (fin s m e) p = go s ∙ round-self f s m e p
  where
    go : (s : Bool) → round f (unlike s false) (m * up e * 1) (1 * 1 * down e) ≡ round f s (m * up e) (down e)
    go true = λ i. round f true (mul-one (m * up e) i) (one-mul (down e) i)
    go false = λ i. round f false (mul-one (m * up e) i) (one-mul (down e) i)
