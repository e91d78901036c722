-- Factors may change places, and a difference turned round has the same square. Assumes nothing.
use Rattle.std.specs.Prelude.{ℕ, ◌+◌, ◌-◌, ◌*◌, ◌≡◌, refl, Bool, not, ◌&&◌, cond, ltb, eqb, Float}
use Rattle.std.proofs.Common.{mul_comm, sym, ap, ◌∙◌}
use Rattle.std.proofs.Math.Bool.{true, false}
use Rattle.std.specs.Float.{nan, inf, fin, Format}
use Rattle.std.specs.Float.Ieee.{up, down, unlike, round, neg, sum, add, sub, mul}
use Rattle.floats.specs.Round.{round-neg}
use Rattle.floats.specs.Sign.{add-comm64}

-- ---- factors

unlike-comm : (s t : Bool) → unlike s t ≡ unlike t s
unlike-comm true true = refl
unlike-comm true false = refl
unlike-comm false true = refl
unlike-comm false false = refl

pub mul-comm64 : (f : Format) (x y : Float) → mul f x y ≡ mul f y x
unfolding mul
mul-comm64 f nan nan = refl
mul-comm64 f nan (inf t) = refl
mul-comm64 f nan (fin t n d) = refl
mul-comm64 f (inf s) nan = refl
mul-comm64 f (inf s) (inf t) = ap inf (unlike-comm s t)
mul-comm64 f (inf s) (fin t n d) = ap (λ u. cond (eqb n 0) nan (inf u)) (unlike-comm s t)
mul-comm64 f (fin s m e) nan = refl
mul-comm64 f (fin s m e) (inf t) = ap (λ u. cond (eqb m 0) nan (inf u)) (unlike-comm s t)
mul-comm64 f (fin s m e) (fin t n d) = λ i. round f (unlike-comm s t i) (mul_comm (m * up e) (n * up d) i) (mul_comm (down e) (down d) i)

-- ---- squares

abbrev square : Format → Float → Float
square f x = mul f x x

square-neg : (f : Format) (x : Float) → square f (neg x) ≡ square f x
unfolding mul neg
square-neg f nan = refl
square-neg f (inf true) = refl
square-neg f (inf false) = refl
square-neg f (fin true m e) = refl
square-neg f (fin false m e) = refl

-- the sign of a fraction is lost
square-round : (f : Format) (s t : Bool) (a c : ℕ) → square f (round f s a c) ≡ square f (round f t a c)
square-round f s t a c = lost s ∙ sym (lost t)
  where
    lost : (s : Bool) → square f (round f s a c) ≡ square f (round f false a c)
    lost true = ap (square f) (round-neg f a c) ∙ square-neg f (round f false a c)
    lost false = refl

-- and so are the signs of a sum, if both are changed
sum-unlike : (f : Format) (a b c : ℕ) → square f (sum f false a true b c) ≡ square f (sum f true a false b c)
unfolding sum
sum-unlike f a b c = go (ltb a b)
  where
    go : (x : Bool) → square f (cond x (round f true (b - a) c) (round f (false && ltb b a) (a - b) c)) ≡ square f (cond x (round f false (b - a) c) (round f (true && ltb b a) (a - b) c))
    go true = square-round f true false (b - a) c
    go false = square-round f false (true && ltb b a) (a - b) c

square-sum : (f : Format) (s : Bool) (a : ℕ) (t : Bool) (b c : ℕ) → square f (sum f (not s) a t b c) ≡ square f (sum f s a (not t) b c)
square-sum f true a true b c = sum-unlike f a b c
square-sum f false a false b c = sym (sum-unlike f a b c)
square-sum f true a false b c = unfold sum in square-round f false true (a + b) c
square-sum f false a true b c = unfold sum in square-round f true false (a + b) c

square-add : (f : Format) (x y : Float) → square f (add f (neg x) y) ≡ square f (add f x (neg y))
unfolding add neg mul
square-add f nan y = refl
square-add f (inf s) nan = refl
square-add f (inf true) (inf true) = refl
square-add f (inf true) (inf false) = refl
square-add f (inf false) (inf true) = refl
square-add f (inf false) (inf false) = refl
square-add f (inf true) (fin t n d) = refl
square-add f (inf false) (fin t n d) = refl
square-add f (fin s m e) nan = refl
square-add f (fin s m e) (inf true) = refl
square-add f (fin s m e) (inf false) = refl
square-add f (fin s m e) (fin t n d) = square-sum f s (m * up e * down d) t (n * up d * down e) (down e * down d)

-- x - y and y - x
pub square-turned : (f : Format) (x y : Float) → mul f (sub f x y) (sub f x y) ≡ mul f (sub f y x) (sub f y x)
unfolding sub
square-turned f x y = sym (square-add f x y) ∙ ap (square f) (add-comm64 f (neg x) y)
