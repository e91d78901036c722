-- What is lent, by the lengths that the checks know of it.
use Rattle.std.specs.Prelude.{ℕ, ◌*◌, ◌<◌, ◌≤◌, ◌≡◌, List, length, Float}
use Rattle.rules.specs.Lent.{Work, Reports, WaitingRoom, waiting_room}
use Rattle.checks.specs.declared.Lengths.{Lengths}
use Rattle.checks.specs.declared.ReportLengths.{ReportLengths}

-- ---- counts and weights that are long enough

-- of one tree
pub record Counted (rows : ℕ) (weights : List Float) (counts : List ℕ) : Type 0 where
  pub few : rows ≤ 65535
  pub counted : rows ≤ length counts
  pub weighed : 0 < length weights → rows ≤ length weights

-- of the trees of a forest
pub record Grown (rows trees : ℕ) (weights : List Float) (counts : List ℕ) : Type 0 where
  pub few : rows ≤ 65535
  pub few_trees : trees ≤ 1024
  pub counted : length counts ≡ trees * rows
  pub weighed : 0 < length weights → rows ≤ length weights

-- ---- rooms of these lengths

pub record WorkHas (L : Lengths) (w : Work WaitingRoom) : Type 0 where
  pub order : length w.order ≡ L.order
  pub scratch : length w.scratch ≡ L.scratch
  pub flags : length w.flags ≡ L.flags
  pub waiting : waiting_room.places w.waiting ≡ L.waiting

pub record ReportsHave (L : ReportLengths) (c : Reports) : Type 0 where
  pub nodes : length c.nodes ≡ L.nodes
  pub depth : length c.depth ≡ L.depth
  pub mass : length c.mass ≡ L.mass
  pub searches : length c.searches ≡ L.searches
  pub words : length c.words ≡ L.words
  pub thresholds : length c.thresholds ≡ L.thresholds
