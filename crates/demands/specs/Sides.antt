-- What a split earns. Which of its two sides is called the true one does not matter, to its score or to that by which candidates are compared: every bit is the same
-- with the sides changed round. Neither is ever below 0, the score in a node whose own mass is above 0. And what a split gives, its score and its children's totals and
-- counts, comes of the split column alone: no other column has a say, and none of the totals that the node carries. It holds because a difference turned round has the
-- same square, and because no side is divided by whose mass is not above 0. Assumes nothing.
use Rattle.std.specs.Prelude.{ℕ, ◌≡◌, refl, Bool, true, false, ◌||◌, cond, [], get_or, T, Float}
use Rattle.std.specs.Float.{binary64}
use Rattle.std.specs.Float.Ieee.{mul, div, lt, le, of_bits}
use Rattle.floats.specs.Sign.{side, square-side, mul-side, div-side, over-side, not-below}
use Rattle.floats.specs.Turned.{mul-comm64, square-turned}
use Rattle.rules.specs.declared.Totals.{Totals}
use Rattle.rules.specs.Words.{nought}
use Rattle.rules.specs.Totals.{empty, massless, gap, proxy, score}
use Rattle.rules.specs.Search.{totals_of, tally, on_true, on_false, side_of}
use Rattle.rules.specs.Growth.{Waiting, child, splitting}

-- ---- the statements

-- m is the mass of the whole node
abbrev pub EitherSide : Type 0
EitherSide = (t f : Totals) → (proxy t f ≡ proxy f t) × ((m : Float) → score t f m ≡ score f t m)

-- of a node that weighs something
abbrev pub NeverBelow : Type 0
NeverBelow = (t f : Totals) → (lt (proxy t f) nought ≡ false) × ((m : Float) → le m nought ≡ false → lt (score t f m) nought ≡ false)

-- w and w' may differ in their other columns, and in the totals and counts that they carry
abbrev pub ColumnAlone : Type 0
ColumnAlone =
    (w w' : Waiting) → w.cut ≡ w'.cut → get_or w.node.columns w.cut.feature [] ≡ get_or w'.node.columns w'.cut.feature []
    → ((k : ℕ) → splitting w k ≡ splitting w' k)
    × ((b : Bool → Bool) → ((child b w).totals ≡ (child b w').totals) × ((child b w).count ≡ (child b w').count))

-- ---- sides changed round

or_turn : (a b : Bool) → (a || b) ≡ (b || a)
or_turn true true = refl
or_turn true false = refl
or_turn false true = refl
or_turn false false = refl

pub either_side : EitherSide
unfolding proxy score massless gap
either_side t f = (
  (λ i. cond (weighed i) nought (div binary64 (squared i) (masses i))),
  (λ m i. cond (weighed i) nought (div binary64 (squared i) (mul binary64 (masses i) m))),
)
  where
    weighed : massless t f ≡ massless f t
    weighed = or_turn (le t.mass nought) (le f.mass nought)

    squared : mul binary64 (gap t f) (gap t f) ≡ mul binary64 (gap f t) (gap f t)
    squared = square-turned binary64 (mul binary64 t.sum f.mass) (mul binary64 f.sum t.mass)

    masses : mul binary64 t.mass f.mass ≡ mul binary64 f.mass t.mass
    masses = mul-comm64 binary64 t.mass f.mass

-- ---- never below 0

-- either side weighs nothing, or both are on the upper side of 0
not-under : (t f : Totals) (x : Float) → (T (side false t.mass) → T (side false f.mass) → T (side false x)) → lt (cond (massless t f) nought x) nought ≡ false
unfolding massless of_bits
not-under t f x fine = not-below (cond (massless t f) nought x) (go (le t.mass nought) refl (le f.mass nought) refl)
  where
    go : (a : Bool) → le t.mass nought ≡ a → (b : Bool) → le f.mass nought ≡ b → T (side false (cond (a || b) nought x))
    go true p b q = tt
    go false p true q = tt
    go false p false q = fine (over-side t.mass p) (over-side f.mass q)

pub never-below : NeverBelow
unfolding proxy score of_bits
never-below t f = (
  not-under t f _ (λ p q. over _ (mul-side binary64 t.mass f.mass p q)),
  (λ m w. not-under t f _ (λ p q. over _ (mul-side binary64 _ m (mul-side binary64 t.mass f.mass p q) (over-side m w)))),
)
  where
    over : (y : Float) → T (side false y) → T (side false (div binary64 (mul binary64 (gap t f) (gap t f)) y))
    over y h = div-side binary64 false _ y (square-side binary64 (gap t f)) h

-- ---- the split column alone

pub column-alone : ColumnAlone
unfolding splitting child
column-alone w w' cuts columns = (
  (λ k i. record { cut = cuts i; score = score (added on_true i) (added on_false i) (totals_of empty (columns i)).mass; children = k }),
  (λ b. (added b, (λ i. tally (side_of b (cuts i) (columns i))))),
)
  where
    added : (b : Bool → Bool) → (child b w).totals ≡ (child b w').totals
    added b = λ i. totals_of empty (side_of b (cuts i) (columns i))
