-- The middle of p < x, as p + (x - p) / 2 has it: no float between is crossed, so p <= mid wherever mid is no NaN, and it is none. Assumes nothing.
use Rattle.std.specs.Prelude.{◌≡◌, refl, ℕ, zero, suc, ◌+◌, ◌-◌, ◌*◌, ◌≤◌, ◌<◌, Bool, true, false, not, ◌&&◌, cond, ℤ, pos, T, ltb, Float}
use Rattle.std.proofs.Common.{sym, subst, mul-pos, mul-le-mul_right, arith, ltb→lt}
use Rattle.std.specs.Float.{nan, inf, fin, Format}
use Rattle.std.specs.Float.Ieee.{up, down, round, neg, add, sub, div, lt, le, fits, is_nan}
use Rattle.std.specs.Float.Ieee.Fits.{down_pos}
use Rattle.std.specs.Float.Ieee.Order.{round_mono}
use Rattle.std.specs.Float.Ieee.Scale.{finite}
use Rattle.floats.specs.Round.{round-self, round-neg, clear, round-clear}
use Rattle.floats.specs.Order.{left, right, side→le, le→side, le-refl64}

-- ---- negated, the order turns round
turn-neg : (x c y d : ℕ) → left false y d false x c ≤ right false y d false x c → left true x c true y d ≤ right true x c true y d
turn-neg x c y d h = omega arith

-- |y| <= |x| of two values with a clear sign gives -x <= -y
le-neg : (x y : Float) → T (clear x) → T (clear y) → T (le y x) → T (le (neg x) (neg y))
unfolding le neg
le-neg nan y p q h = absurd p
le-neg (inf true) y p q h = absurd p
le-neg (inf false) nan p q h = absurd q
le-neg (inf false) (inf true) p q h = absurd q
le-neg (inf false) (inf false) p q h = tt
le-neg (inf false) (fin t n d) p q h = tt
le-neg (fin s m e) nan p q h = absurd q
le-neg (fin s m e) (inf true) p q h = absurd q
le-neg (fin s m e) (inf false) p q h = absurd h
le-neg (fin true m e) (fin t n d) p q h = absurd p
le-neg (fin false m e) (fin true n d) p q h = absurd q
le-neg (fin false m e) (fin false n d) p q h = side→le true m e true n d (turn-neg (m * up e) (down e) (n * up d) (down d) (le→side false n d false m e h))

-- a value with the sign set is at most any with it clear
pub neg-below : (m : ℕ) (e : ℤ) (y : Float) → T (clear y) → T (le (fin true m e) y)
unfolding le
neg-below m e nan q = absurd q
neg-below m e (inf true) q = absurd q
neg-below m e (inf false) q = tt
neg-below m e (fin true n d) q = absurd q
neg-below m e (fin false n d) q = side→le true m e false n d (omega arith)

-- ---- p + h for a finite h with a clear sign
grow : (a d e b : ℕ) → a * (e * d) ≤ (a * d + b) * e
grow a d e b = omega arith

up_from : (f : Format) (m : ℕ) (e : ℤ) (b d : ℕ) → 0 < d → T (fits f (fin false m e)) → T (le (fin false m e) (round f false (m * up e * d + b) (down e * d)))
up_from f m e b d D t =
    subst (λ (z : Float). T (le z (round f false (m * up e * d + b) (down e * d)))) (round-self f false m e t)
    (round_mono f (m * up e) (down e) (m * up e * d + b) (down e * d) (down_pos e) (mul-pos (down_pos e) D) (grow (m * up e) d (down e) b))

shrinks : (a d e k : ℕ) → k ≤ a * d → k * e ≤ a * (e * d)
shrinks a d e k h = omega (arith, mul-le-mul_right e h)

neg-fits-clear : (f : Format) (m : ℕ) (e : ℤ) → T (fits f (fin true m e)) → T (fits f (fin false m e))
unfolding fits
neg-fits-clear f zero e t = t
neg-fits-clear f (suc m) e t = t

down-from : (f : Format) (m : ℕ) (e : ℤ) (k d : ℕ) → 0 < d → k ≤ m * up e * d → T (fits f (fin true m e)) → T (le (fin true m e) (round f true k (down e * d)))
unfolding neg
down-from f m e k d D h t =
    let q = neg-fits-clear f m e t in
    subst (λ (z : Float). T (le (fin true m e) z)) (sym (round-neg f k (down e * d)))
    (le-neg (fin false m e) (round f false k (down e * d)) tt (round-clear f k (down e * d))
    (subst (λ (z : Float). T (le (round f false k (down e * d)) z)) (round-self f false m e q)
    (round_mono f k (down e * d) (m * up e) (down e) (mul-pos (down_pos e) D) (down_pos e) (shrinks (m * up e) d (down e) k h))))

less-le : (a b : ℕ) → a - b ≤ a
less-le a b = omega arith

-- p <= p + h
pub add-above : (f : Format) (p h : Float) → T (fits f p) → T (finite p) → T (clear h) → T (le p (add f p h))
unfolding add
add-above f nan h t g c = absurd g
add-above f (inf s) h t g c = absurd g
add-above f (fin s m e) nan t g c = absurd c
add-above f (fin s m e) (inf true) t g c = absurd c
add-above f (fin s m e) (inf false) t g c = unfold le in tt
add-above f (fin s m e) (fin true n d) t g c = absurd c
add-above f (fin false m e) (fin false n d) t g c = up_from f m e (n * up d * down e) (down d) (down_pos d) t
add-above f (fin true m e) (fin false n d) t g c =
    go (ltb (m * up e * down d) (n * up d * down e)) (ltb (n * up d * down e) (m * up e * down d))
  where
    go : (x y : Bool)
        → T (le (fin true m e) (cond x (round f false (n * up d * down e - m * up e * down d) (down e * down d))
        (round f (true && y) (m * up e * down d - n * up d * down e) (down e * down d))))
    go true y = neg-below m e (round f false (n * up d * down e - m * up e * down d) (down e * down d)) (round-clear f (n * up d * down e - m * up e * down d) (down e * down d))
    go false true = down-from f m e (m * up e * down d - n * up d * down e) (down d) (down_pos d) (less-le (m * up e * down d) (n * up d * down e)) t
    go false false = neg-below m e (round f false (m * up e * down d - n * up d * down e) (down e * down d)) (round-clear f (m * up e * down d - n * up d * down e) (down e * down d))

-- ---- x - p for p < x has a clear sign, and so has its half
sub-clear : (f : Format) (x p : Float) → T (finite x) → T (finite p) → T (lt p x) → T (clear (sub f x p))
unfolding sub lt
sub-clear f nan p g k h = absurd g
sub-clear f (inf s) p g k h = absurd g
sub-clear f (fin s m e) nan g k h = absurd k
sub-clear f (fin s m e) (inf t) g k h = absurd k
sub-clear f (fin false m e) (fin true n d) g k h = round-clear f (m * up e * down d + n * up d * down e) (down e * down d)
sub-clear f (fin true m e) (fin false n d) g k h = absurd h
sub-clear f (fin false m e) (fin false n d) g k h = go (ltb (m * up e * down d) (n * up d * down e)) (ltb→lt (m * up e * down d) (n * up d * down e)) (ltb→lt (n * up d * down e) (m * up e * down d) h)
  where
    both : (a b : ℕ) → a < b → b < a → ⊥
    both a b p q = omega arith

    go : (x : Bool) → (T x → m * up e * down d < n * up d * down e) → n * up d * down e < m * up e * down d
        → T (clear (cond x (round f true (n * up d * down e - m * up e * down d) (down e * down d)) (round f false (m * up e * down d - n * up d * down e) (down e * down d))))
    go true p q = absurd (both (m * up e * down d) (n * up d * down e) (p tt) q)
    go false p q = round-clear f (m * up e * down d - n * up d * down e) (down e * down d)
sub-clear f (fin true m e) (fin true n d) g k h = go (ltb (m * up e * down d) (n * up d * down e)) h
  where
    go : (x : Bool) → T x
        → T (clear (cond x (round f false (n * up d * down e - m * up e * down d) (down e * down d))
        (round f (true && ltb (n * up d * down e) (m * up e * down d)) (m * up e * down d - n * up d * down e) (down e * down d))))
    go true t = round-clear f (n * up d * down e - m * up e * down d) (down e * down d)
    go false t = absurd t

half-clear : (f : Format) (x : Float) → T (clear x) → T (clear (div f x (fin false 1 (pos 1))))
unfolding div
half-clear f nan c = absurd c
half-clear f (inf true) c = absurd c
half-clear f (inf false) c = tt
half-clear f (fin true m e) c = absurd c
half-clear f (fin false m e) c = round-clear f (m * up e * 1) (1 * 2 * down e)

-- p <= p + (x - p) / 2
pub middle-above : (f : Format) (p x : Float) → T (fits f p) → T (finite p) → T (finite x) → T (lt p x) → T (le p (add f p (div f (sub f x p) (fin false 1 (pos 1)))))
middle-above f p x t g k h = add-above f p (div f (sub f x p) (fin false 1 (pos 1))) t g (half-clear f (sub f x p) (sub-clear f x p k g h))

finite-no-nan : (x : Float) → T (finite x) → T (not (is_nan x))
unfolding is_nan
finite-no-nan nan g = g
finite-no-nan (inf s) g = tt
finite-no-nan (fin s m e) g = tt

-- the middle where it is below x, and p elsewhere: between p and x, the latter left out
pub between : (f : Format) (p x : Float) → T (fits f p) → T (finite p) → T (finite x) → T (lt p x)
    → (r : Float) → r ≡ (let mid = add f p (div f (sub f x p) (fin false 1 (pos 1))) in cond (lt mid x) mid p) → T (le p r) × T (lt r x)
between f p x t g k h r e =
    let mid = add f p (div f (sub f x p) (fin false 1 (pos 1))) in
    subst (λ (z : Float). T (le p z) × T (lt z x)) (sym e) (go mid (lt mid x) refl (middle-above f p x t g k h))
  where
    go : (mid : Float) (b : Bool) → b ≡ lt mid x → T (le p mid) → T (le p (cond b mid p)) × T (lt (cond b mid p) x)
    go mid true q l = (l, subst T q tt)
    go mid false q l = (le-refl64 p (finite-no-nan p g), h)
