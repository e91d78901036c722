-- A side: what its rows add up to.
use Rattle.std.specs.Prelude.{ℕ, ◌+◌, Float}
use Rattle.rules.specs.Totals.{empty, take_in}
use Rattle.rules.specs.Search.{Column, totals_of, tally}
use Rattle.criterion.specs.declared.Side.{Side}

abbrev pub side_on : Column → Side
side_on es = record { totals = totals_of empty es; count = tally es }

-- one row more, of target y, mass m and count k
unfoldable pub joined : Side → Float → Float → ℕ → Side
joined s y m k = record { totals = take_in s.totals y m; count = s.count + k }
