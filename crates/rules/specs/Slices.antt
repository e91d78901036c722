-- What the code lends, as lists: each slice is the list that lies behind it. And that a struct of slices that is lent to be written still holds the same slices.
use Rattle.std.specs.Prelude.{◌≡◌}
use Rattle.rules.specs.declared.Input.{Input}
use Rattle.rules.specs.declared.Table.{Table}
use Rattle.rules.specs.declared.Trees.{Trees}
use Rattle.rules.specs.declared.TableRoom.{TableRoom}
use Rattle.rules.specs.declared.NodeRoom.{NodeRoom}
use Rattle.rules.specs.declared.ReportRoom.{ReportRoom}
use Rattle.rules.specs.declared.WorkRoom.{WorkRoom}
use Rattle.rules.specs.Lent.{Given, given_of, Columns, columns_of, Behind, behind_of, Reports, reports_of, WaitingRoom, Work, work_of}
use Rattle.rules.specs.Table.{ForestTable, table_of}

-- ---- to read

-- R2.22
abbrev pub given_in : Input → Given
given_in d = given_of d.values.now d.targets.now d.weights.now d.counts.now d.listings.now

-- R2.22
abbrev pub columns_in : Table → Columns
columns_in t = columns_of t.value.now t.feature.now t.threshold.now t.score.now t.truechild.now t.falsechild.now

-- R2.22
abbrev pub forest_in : Trees → ForestTable
forest_in f = table_of f.number f.starts.now (columns_in f.table)

-- ---- to write

-- R2.22
abbrev pub table_in : TableRoom → Columns
table_in r = columns_of r.value.now r.feature.now r.threshold.now r.score.now r.truechild.now r.falsechild.now

-- R2.22
abbrev pub nodes_in : NodeRoom → Columns
nodes_in r = columns_of r.value.now r.feature.now r.threshold.now r.score.now r.truechild.now r.falsechild.now

-- R2.22
abbrev pub behind_in : NodeRoom → Behind
behind_in r = behind_of r.count.now r.mass.now

-- R2.22
abbrev pub reports_in : ReportRoom → Reports
reports_in r = reports_of r.nodes.now r.depth.now r.mass.now r.searches.now r.words.now r.thresholds.now

-- R2.22
abbrev pub work_in : WorkRoom → Work WaitingRoom
work_in r = work_of r.order.now r.scratch.now r.flags.now r.wholes.now r.reals.now

-- ---- the same slices, so that a caller knows what stands in its own

-- R2.23
pub record SameTable (a b : TableRoom) : Type 0 where
  pub value : b.value.ghost_name ≡ a.value.ghost_name
  pub feature : b.feature.ghost_name ≡ a.feature.ghost_name
  pub threshold : b.threshold.ghost_name ≡ a.threshold.ghost_name
  pub score : b.score.ghost_name ≡ a.score.ghost_name
  pub truechild : b.truechild.ghost_name ≡ a.truechild.ghost_name
  pub falsechild : b.falsechild.ghost_name ≡ a.falsechild.ghost_name

-- R2.23
pub record SameNodes (a b : NodeRoom) : Type 0 where
  pub value : b.value.ghost_name ≡ a.value.ghost_name
  pub feature : b.feature.ghost_name ≡ a.feature.ghost_name
  pub threshold : b.threshold.ghost_name ≡ a.threshold.ghost_name
  pub score : b.score.ghost_name ≡ a.score.ghost_name
  pub truechild : b.truechild.ghost_name ≡ a.truechild.ghost_name
  pub falsechild : b.falsechild.ghost_name ≡ a.falsechild.ghost_name
  pub count : b.count.ghost_name ≡ a.count.ghost_name
  pub mass : b.mass.ghost_name ≡ a.mass.ghost_name

-- R2.23
pub record SameReports (a b : ReportRoom) : Type 0 where
  pub nodes : b.nodes.ghost_name ≡ a.nodes.ghost_name
  pub depth : b.depth.ghost_name ≡ a.depth.ghost_name
  pub mass : b.mass.ghost_name ≡ a.mass.ghost_name
  pub searches : b.searches.ghost_name ≡ a.searches.ghost_name
  pub words : b.words.ghost_name ≡ a.words.ghost_name
  pub thresholds : b.thresholds.ghost_name ≡ a.thresholds.ghost_name

-- R2.23
pub record SameWork (a b : WorkRoom) : Type 0 where
  pub order : b.order.ghost_name ≡ a.order.ghost_name
  pub scratch : b.scratch.ghost_name ≡ a.scratch.ghost_name
  pub flags : b.flags.ghost_name ≡ a.flags.ghost_name
  pub wholes : b.wholes.ghost_name ≡ a.wholes.ghost_name
  pub reals : b.reals.ghost_name ≡ a.reals.ghost_name
