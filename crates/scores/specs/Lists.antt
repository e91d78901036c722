-- Loops over a list, and those that write one in place from the front: what is done so far, before what is still as it was. Assumes nothing.
use Rattle.std.specs.Prelude.{ℕ, zero, suc, ◌+◌, ◌<◌, ◌≡◌, Bool, List, [], ◌∷◌, ◌++◌, map, length, get_or, set, take, drop, replicate, fold, Float}
use Rattle.std.proofs.Common.{not-suc-le-zero, le_of_suc-le-suc, add-one, sym, ◌∙◌}
use Rattle.std.proofs.Math.Path.{refl, ap}
use Rattle.std.proofs.Math.Bool.{cond}
use Rattle.std.specs.Float.Ieee.{nan, add, div, lt}
use Rattle.std.specs.Float.{binary64}
use Rattle.rules.specs.Words.{nought, filled}
use Rattle.rules.specs.Reading.{sum_from, divided_if, add_each}

abbrev pub divided_by : Float → List Float → List Float
divided_by s v = map (λ x. div binary64 x s) v

pub filled_is {ℓ} : {A : Type ℓ} (x : A) (l : List A) → filled x l ≡ replicate (length l) x
filled_is x [] = refl
filled_is x (y ∷ l) = ap (λ k. x ∷ k) (filled_is x l)

-- ---- a sum

pub sum-folds : (s : Float) (l : List Float) → fold (λ a x. add binary64 a x) s l ≡ sum_from s l
unfolding sum_from
sum-folds s [] = refl
sum-folds s (x ∷ l) = sum-folds (add binary64 s x) l

-- ---- quotients

pub divided : (by : Float) (v : List Float) (b : Bool) → lt nought by ≡ b → cond b (divided_by by v) v ≡ divided_if by v
unfolding divided_if
divided by v b h = ap (λ z. cond z (divided_by by v) v) (sym h)

-- ---- sums, place by place: those of the first i places, before the rest as it was

abbrev pub joined : List Float → List Float → ℕ → List Float
joined d w i = add_each (take i d) w ++ drop i d

join_one : (d w : List Float) (i : ℕ) → i < length d → i < length w → set (joined d w i) i (add binary64 (get_or (joined d w i) i nan) (get_or w i nan)) ≡ joined d w (suc i)
unfolding add_each
join_one [] w i h k = absurd (not-suc-le-zero h)
join_one (x ∷ d) [] i h k = absurd (not-suc-le-zero k)
join_one (x ∷ d) (y ∷ w) zero h k = refl
join_one (x ∷ d) (y ∷ w) (suc i) h k = ap (λ l. add binary64 x y ∷ l) (join_one d w i (le_of_suc-le-suc h) (le_of_suc-le-suc k))

pub join-more : (d w : List Float) (i : ℕ) → i < length d → i < length w → set (joined d w i) i (add binary64 (get_or (joined d w i) i nan) (get_or w i nan)) ≡ joined d w (i + 1)
join-more d w i h k = join_one d w i h k ∙ ap (joined d w) (sym (add-one i))
