-- The threshold between two neighbours of a column, p before and x after: in their middle, or at the lower of them.
use Rattle.std.specs.Prelude.{cond, Float}
use Rattle.std.specs.Float.{binary64}
use Rattle.std.specs.Float.Ieee.{add, sub, div, lt}
use Rattle.rules.specs.declared.Height.{Height}
use Rattle.rules.specs.declared.Height.TheVariants.{Midpoint, Lower}
use Rattle.rules.specs.Words.{two}

-- R6.1
unfoldable pub midpoint : Float → Float → Float
midpoint p x = add binary64 p (div binary64 (sub binary64 x p) two)

-- R6.2: at Midpoint the middle, or p where rounding takes the middle up to x or beyond; at Lower p
unfoldable pub threshold_between : Height → Float → Float → Float
threshold_between Midpoint p x = cond (lt (midpoint p x) x) (midpoint p x) p
threshold_between Lower p x = p
