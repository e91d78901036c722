-- What is told of a tree that was grown, or of its bad draw. Assumes nothing.
use Rattle.std.specs.Prelude.{ℕ, ◌<◌, min, Float, Result, Ok, Err}
use Rattle.rules.specs.declared.Report.{Report}
use Rattle.rules.specs.Results.{TreeAnswer}
use Rattle.tree_growth.specs.declared.At.{At}
use Rattle.tree_growth.specs.Places.{Grown}
use Rattle.rules.specs.declared.FitError.{FitError}

-- what it is told of fits 32 bits
pub record ReportAsks (words thresholds : ℕ) (at : At) : Type 0 where
  pub searches : at.stand.drawn.searches < 4294967296
  pub words-used : min at.stand.drawn.words words < 4294967296
  pub thresholds-used : min at.stand.drawn.thresholds thresholds < 4294967296

-- what is told fits 32 bits
abbrev pub TellAsks : ℕ → ℕ → Grown → Type 0
TellAsks words thresholds (Err b) = b.search < 4294967296
TellAsks words thresholds (Ok at) = ReportAsks words thresholds at

-- of a tape, what was used is at most the tape
abbrev pub report_at : Float → ℕ → ℕ → At → Report
report_at mass words thresholds at =
    record {
      nodes = at.nodes;
      depth = at.depth;
      mass = mass;
      searches = at.stand.drawn.searches;
      words = min at.stand.drawn.words words;
      thresholds = min at.stand.drawn.thresholds thresholds;
    }

-- a tree that is grown, or the search of its bad draw
abbrev pub Planted : Type 0
Planted = Result Report ℕ

-- the same, of a growth
abbrev pub told : Float → ℕ → ℕ → Grown → Planted
told mass words thresholds (Err b) = Err b.search
told mass words thresholds (Ok at) = Ok (report_at mass words thresholds at)

-- the bad draw of a fit of one tree, which is tree 0
abbrev pub bad_draw : ℕ → TreeAnswer
bad_draw search = Err (FitError.BadDraw (record { tree = 0; search = search }))
