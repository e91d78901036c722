-- Totals and scores.
use Rattle.std.specs.Prelude.{Bool, ◌||◌, cond, Float}
use Rattle.std.specs.Float.{binary64}
use Rattle.std.specs.Float.Ieee.{add, sub, mul, div, lt, le}
use Rattle.rules.specs.declared.Totals.{Totals}
use Rattle.rules.specs.Words.{nought}

-- R5.1: no rows yet
abbrev pub empty : Totals
empty = record { sum = nought; mass = nought }

-- R5.1: one row more, of target y and mass m
unfoldable pub take_in : Totals → Float → Float → Totals
take_in t y m = record { sum = add binary64 t.sum (mul binary64 y m); mass = add binary64 t.mass m }

-- R5.2: the node's totals less the true side's: the false side's, in a search
unfoldable pub less : Totals → Totals → Totals
less t u = record { sum = sub binary64 t.sum u.sum; mass = sub binary64 t.mass u.mass }

-- R5.3: a node's value
unfoldable pub value_of : Totals → Float
value_of t = cond (lt nought t.mass) (div binary64 t.sum t.mass) nought

-- R5.4: either side's mass is at most 0, which a NaN is not
unfoldable pub massless : Totals → Totals → Bool
massless t f = le t.mass nought || le f.mass nought

-- R5.5: d, from the true side's totals and the false side's
unfoldable pub gap : Totals → Totals → Float
gap t f = sub binary64 (mul binary64 t.sum f.mass) (mul binary64 f.sum t.mass)

-- R5.6: by which candidates are compared
unfoldable pub proxy : Totals → Totals → Float
proxy t f = cond (massless t f) nought (div binary64 (mul binary64 (gap t f) (gap t f)) (mul binary64 t.mass f.mass))

-- R5.7: what a split is given, m being the mass of the whole node
unfoldable pub score : Totals → Totals → Float → Float
score t f m =
    cond (massless t f) nought
    (div binary64 (mul binary64 (gap t f) (gap t f)) (mul binary64 (mul binary64 t.mass f.mass) m))
