-- The squares of the rows that have a mean, one after another. Assumes nothing.
use Rattle.std.specs.Prelude.{◌≡◌, refl, cond, List, [], ◌∷◌, fold, Float}
use Rattle.std.specs.List.{zip}
use Rattle.std.specs.Float.Ieee.{is_nan, add}
use Rattle.std.specs.Float.{binary64}
use Rattle.rules.specs.OutOfBag.{square_off, add_squares}

-- a row's square is added, unless it has no mean
abbrev pub with_square : Float → Float → Float → Float
with_square s y m = cond (is_nan m) s (add binary64 s (square_off y m))

pub squares-fold : (s : Float) (ys ms : List Float) → fold (λ a (p : Float × Float). with_square a p.0 p.1) s (zip ys ms) ≡ add_squares s ys ms
unfolding add_squares
squares-fold s [] ms = refl
squares-fold s (y ∷ ys) [] = refl
squares-fold s (y ∷ ys) (m ∷ ms) = squares-fold (with_square s y m) ys ms
