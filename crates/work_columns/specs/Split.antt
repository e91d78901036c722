-- The split pass: what it makes of the rows of a stretch, and what it leaves in the flags.
use Rattle.std.specs.Prelude.{ℕ, ◌-◌, ◌*◌, ◌<◌, ◌≤◌, ◌≡◌, Bool, List, [], ◌∷◌, map, length, set, Float}
use Rattle.rules.specs.declared.Totals.{Totals}
use Rattle.rules.specs.declared.Cut.{Cut}
use Rattle.rules.specs.Words.{keep, total}
use Rattle.rules.specs.Totals.{empty}
use Rattle.rules.specs.Search.{Element, totals_of, tally, goes_true, true_side, false_side}
use Rattle.rules.specs.Fit.{element_in}
use Rattle.lemmas.specs.Lists.{Every}
use Rattle.lemmas.specs.Work.{part}
use Rattle.criterion.specs.Sides.{side_on}
use Rattle.work_columns.specs.declared.Sides.{Sides}
use Rattle.work_columns.specs.declared.Gathered.{Gathered}
use Rattle.sweeps.specs.Swept.{flagged}
use Rattle.work_columns.specs.Columns.{bare, Cleft, Counted}

-- the tables of a fit, by their lengths
pub record Shaped (rows features : ℕ) (values targets weights : List Float) (counts : List ℕ) : Type 0 where
  pub tables : Counted rows weights counts
  pub wide : length values ≡ rows * features
  pub targeted : length targets ≡ rows

-- ---- over a stretch

-- whether row r goes to the true side
abbrev pub goes : (ℕ → Element) → Cut → ℕ → Bool
goes el c r = goes_true c (el r)

-- both sides of a stretch, its totals, and how many rows go to the true side
abbrev pub sides_of : (ℕ → Element) → Cut → List ℕ → Sides
sides_of el c l =
    record { trueside = side_on (true_side c (map el l)); falseside = side_on (false_side c (map el l)); all = totals_of empty (map el l); rows = length (keep (goes el c) l) }

-- flags, each row of the list set to its test
unfoldable pub marked : (ℕ → Bool) → List Bool → List ℕ → List Bool
marked p flags [] = flags
marked p flags (r ∷ l) = marked p (set flags r (p r)) l

-- what the pass over one side asks
pub record GatherAsks (targets weights : List Float) (counts col : List ℕ) (flags : ℕ) : Type 0 where
  pub tables : Counted (length counts) weights counts
  pub targeted : length targets ≡ length counts
  pub below : Every (λ r. r < length counts) col
  pub count : tally (map (bare targets weights counts) col) < 4294967296
  pub room : length counts ≤ flags

-- and what it leaves: the side, the whole with it, and each row's flag
pub record GatherDone (el : ℕ → Element) (t : Bool) (start : Totals) (col : List ℕ) (before after : List Bool) (r : Gathered) : Type 0 where
  pub side : r.side ≡ side_on (map el col)
  pub all : r.all ≡ totals_of start (map el col)
  pub flags : after ≡ marked (λ k. t) before col

-- what the pass over a stretch asks
pub record PassAsks (rows features : ℕ) (values targets weights : List Float) (counts : List ℕ) (c : Cut) (col : List ℕ) (n flags : ℕ) : Type 0 where
  pub shaped : Shaped rows features values targets weights counts
  pub below : Every (λ r. r < rows) col
  pub count : tally (map (element_in features values targets weights counts) col) < 4294967296
  pub room : rows ≤ flags
  pub cleft : Cleft (goes (element_in features values targets weights counts) c) col n

-- and what it leaves
pub record PassDone (el : ℕ → Element) (c : Cut) (col : List ℕ) (before after : List Bool) (s : Sides) : Type 0 where
  pub within : s.rows ≤ length col
  pub sides : s ≡ sides_of el c col
  pub flags : after ≡ marked (goes el c) before col

-- ---- over every column

-- the same rows in another order: every weight adds up to the same
abbrev pub Alike : List ℕ → List ℕ → Type 0
Alike l m = (g : ℕ → ℕ) → total g l ≡ total g m

-- what the pass of a node asks, whose rows lie from a to e of every column
pub record SplitAsks (rows features a e : ℕ) (values targets weights : List Float) (counts : List ℕ) (c : Cut) (order : List ℕ) (n flags : ℕ) : Type 0 where
  pub shaped : Shaped rows features values targets weights counts
  pub known : c.feature < features
  pub long : features * rows ≤ length order
  pub ordered : a ≤ e
  pub high : e ≤ rows
  pub flag_room : rows ≤ flags
  pub below : (k : ℕ) → k < features → Every (λ r. r < rows) (part rows k a e order)
  pub alike : (k : ℕ) → k < features → Alike (part rows c.feature a e order) (part rows k a e order)
  pub count : tally (map (element_in features values targets weights counts) (part rows c.feature a e order)) < 4294967296
  pub cleft : Cleft (goes (element_in features values targets weights counts) c) (part rows c.feature a e order) n

-- the sides, and each row's flag
pub record SplitDone (rows a e : ℕ) (el : ℕ → Element) (c : Cut) (order : List ℕ) (flags : List Bool) (s : Sides) : Type 0 where
  pub within : s.rows ≤ e - a
  pub sides : s ≡ sides_of el c (part rows c.feature a e order)
  pub marks : Every (λ r. flagged flags r ≡ goes el c r) (part rows c.feature a e order)
