-- What a fit is given, as the lists of it that set-up and split read: what its rows are, and what is asked of them.
use Rattle.std.specs.Prelude.{ℕ, Bool, List}
use Rattle.rules.specs.declared.Cut.{Cut}
use Rattle.rules.specs.declared.Input.{Input}
use Rattle.rules.specs.declared.Shape.{Shape}
use Rattle.rules.specs.Lent.{kept_in}
use Rattle.rules.specs.Search.{Element}
use Rattle.rules.specs.Fit.{element_in}
use Rattle.work_columns.specs.Columns.{bare, RootAsks, CountAsks, KeepAsks, KeepAllAsks}
use Rattle.work_columns.specs.Split.{GatherAsks, PassAsks, SplitAsks}

-- ---- rows

-- row i, with its values
abbrev pub row_in : ℕ → Input → ℕ → Element
row_in features d = element_in features d.values.now d.targets.now d.weights.now d.counts.now

-- row i as totals and counts see it
abbrev pub bare_in : Input → ℕ → Element
bare_in d = bare d.targets.now d.weights.now d.counts.now

-- whether row i is kept
abbrev pub keeps_in : Input → ℕ → Bool
keeps_in d = kept_in d.weights.now d.counts.now

-- ---- what is asked

-- of the root's totals
abbrev pub RootAsksIn : ℕ → Input → Type 0
RootAsksIn rows d = RootAsks rows d.targets.now d.weights.now d.counts.now

-- of the root's count
abbrev pub CountAsksIn : ℕ → Input → Type 0
CountAsksIn rows d = CountAsks rows d.weights.now d.counts.now

-- of the kept rows of one listing
abbrev pub KeepAsksIn : Input → List ℕ → ℕ → Type 0
KeepAsksIn d listing column = KeepAsks listing d.weights.now d.counts.now column

-- of every listing's
abbrev pub KeepAllAsksIn : Shape → Input → ℕ → Type 0
KeepAllAsksIn S d order = KeepAllAsks S.rows S.features d.listings.now d.weights.now d.counts.now order

-- of one side
abbrev pub GatherAsksIn : Input → List ℕ → ℕ → Type 0
GatherAsksIn d col flags = GatherAsks d.targets.now d.weights.now d.counts.now col flags

-- of the pass along the split column
abbrev pub PassAsksIn : Shape → Input → Cut → List ℕ → ℕ → ℕ → Type 0
PassAsksIn S d c col n flags = PassAsks S.rows S.features d.values.now d.targets.now d.weights.now d.counts.now c col n flags

-- of a node's pass, its rows from a to e of every column
abbrev pub SplitAsksIn : Shape → ℕ → ℕ → Input → Cut → List ℕ → ℕ → ℕ → Type 0
SplitAsksIn S a e d c order n flags = SplitAsks S.rows S.features a e d.values.now d.targets.now d.weights.now d.counts.now c order n flags
