-- The square of the gap between two sides over a divisor, which the proxy and the score share.
use Rattle.std.specs.Prelude.{cond, Float}
use Rattle.std.specs.Float.{binary64}
use Rattle.std.specs.Float.Ieee.{mul, div}
use Rattle.rules.specs.declared.Totals.{Totals}
use Rattle.rules.specs.Words.{nought}
use Rattle.rules.specs.Totals.{massless, gap}

-- 0 where a side has no mass
unfoldable pub gap_over : Totals → Totals → Float → Float
gap_over t f divisor = cond (massless t f) nought (div binary64 (mul binary64 (gap t f) (gap t f)) divisor)
