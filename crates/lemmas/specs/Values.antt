-- Values that a fit accepts: numbers of binary64, neither NaN nor infinite. Their order, and the threshold between two of them. Assumes nothing.
use Rattle.std.specs.Prelude.{◌≡◌, refl, ◌⊎◌, Bool, true, false, not, T, Float}
use Rattle.std.proofs.Common.{sym, subst, inl, inr}
use Rattle.std.specs.Float.{nan, inf, fin, binary64}
use Rattle.std.specs.Float.Ieee.{fits, is_nan, lt, le, eq, of_bits}
use Rattle.std.specs.Float.Ieee.Scale.{finite}
use Rattle.floats.specs.Order.{le-refl64, le-of-eq64, le-trans64, lt_not_le, le-or-gt, trichotomy, eq-sym, differs-lt, cut_out}
use Rattle.floats.specs.Between as Mid
use Rattle.rules.specs.declared.Height.{Height}
use Rattle.rules.specs.declared.Height.TheVariants.{Midpoint, Lower}
use Rattle.rules.specs.Threshold.{midpoint, threshold_between}
use Rattle.lemmas.specs.Lists.{is_true, is_false}

abbrev pub Value : Float → Type 0
Value x = T (fits binary64 x) × T (finite x)

pub no_nan : (x : Float) → T (finite x) → T (not (is_nan x))
unfolding is_nan
no_nan nan g = g
no_nan (inf s) g = tt
no_nan (fin s m e) g = tt

pub le_refl : (x : Float) → Value x → T (le x x)
le_refl x v = le-refl64 x (no_nan x v.1)

pub eq_refl : (x : Float) → Value x → eq x x ≡ true
eq_refl x v = go (trichotomy x x (no_nan x v.1) (no_nan x v.1))
  where
    go : T (lt x x) ⊎ (T (eq x x) ⊎ T (lt x x)) → eq x x ≡ true
    go (inl h) = absurd (lt_not_le x x h (le_refl x v))
    go (inr (inl h)) = is_true (eq x x) h
    go (inr (inr h)) = absurd (lt_not_le x x h (le_refl x v))

pub le-eq : (x y : Float) → eq x y ≡ true → T (le x y)
le-eq x y h = le-of-eq64 x y (subst T (sym h) tt)

-- what does not fall rises
pub not-falls : (x y : Float) → T (finite x) → T (finite y) → T (not (lt y x)) → T (le x y)
not-falls x y a b n = go (le-or-gt x y (no_nan x a) (no_nan y b))
  where
    go : T (le x y) ⊎ T (lt y x) → T (le x y)
    go (inl h) = h
    go (inr h) = absurd (subst (λ c. T (not c)) (is_true (lt y x) h) n)

-- from the first value above the threshold on, all go to the false side
pub past : (t x y : Float) → T (lt t x) → T (le x y) → le y t ≡ false
past t x y h k = is_false (le y t) (cut_out t x y h k)

-- p <= threshold < x, for either choice
pub inside : (h : Height) (p x : Float) → Value p → T (finite x) → T (lt p x) → T (le p (threshold_between h p x)) × T (lt (threshold_between h p x) x)
unfolding threshold_between midpoint of_bits
inside Midpoint p x v w l = Mid.between binary64 p x v.0 v.1 w l (threshold_between Midpoint p x) refl
inside Lower p x v w l = (le_refl p v, l)

-- what does not fall and is not equal is above
pub rises : (p x : Float) → T (le p x) → eq x p ≡ false → T (lt p x)
rises p x l n = differs-lt p x l (apart (eq p x) (λ t. subst T n (eq-sym p x t)))
  where
    apart : (b : Bool) → (T b → ⊥) → T (not b)
    apart true f = f tt
    apart false f = tt

-- and what is at most p is then below x
pub under : (y p x : Float) → Value y → Value x → T (le y p) → T (lt p x) → T (lt y x)
under y p x v w h l = go (le-or-gt x y (no_nan x w.1) (no_nan y v.1))
  where
    go : T (le x y) ⊎ T (lt y x) → T (lt y x)
    go (inl z) = absurd (lt_not_le p x l (le-trans64 x y p z h))
    go (inr z) = z

pub between : (h : Height) (p x : Float) → Value p → Value x → T (le p x) → eq x p ≡ false → T (le p (threshold_between h p x)) × T (lt (threshold_between h p x) x)
between h p x v w l n = inside h p x v w.1 (rises p x l n)
