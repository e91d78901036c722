-- What the trees of a forest are grown from. Assumes nothing.
use Rattle.std.specs.Prelude.{ℕ, ◌*◌, List, map, Float}
use Rattle.rules.specs.declared.Params.{Params}
use Rattle.rules.specs.declared.Shape.{Shape}
use Rattle.rules.specs.declared.Input.{Input}
use Rattle.rules.specs.declared.Tapes.{Tapes}
use Rattle.rules.specs.declared.TapeStarts.{TapeStarts}
use Rattle.rules.specs.Words.{from, stretch}
use Rattle.rules.specs.Lent.{Data, OneTree}
use Rattle.rules.specs.Forest.{part}
use Rattle.node_entries.specs.Entries.{NodeRoom}
use Rattle.tree_growth.specs.Places.{WorkLengths}
use Rattle.tree_build.specs.Plant.{one_tree_in, data_for, PlantAsks}

-- all that the trees share, and the counts and tapes of which each has its part
pub record Lot : Type 0 where
  pub rows : ℕ
  pub features : ℕ
  pub params : Params
  pub weights : List Float
  pub counts : List ℕ
  pub words : List ℕ
  pub thresholds : List Float
  pub word_starts : List ℕ
  pub threshold_starts : List ℕ
  pub inputs : Data

-- from lists
abbrev pub lot_of : ℕ → ℕ → Params → List Float → List ℕ → List ℕ → List Float → List ℕ → List ℕ → Data → Lot
lot_of rows features p weights counts words thresholds word_starts threshold_starts inputs =
    record {
      rows = rows;
      features = features;
      params = p;
      weights = weights;
      counts = counts;
      words = words;
      thresholds = thresholds;
      word_starts = word_starts;
      threshold_starts = threshold_starts;
      inputs = inputs;
    }

-- from what is lent
abbrev pub lot_in : Input → Tapes → TapeStarts → Shape → Params → Lot
lot_in d w s shape p =
    lot_of shape.rows shape.features p d.weights.now d.counts.now w.words.now w.thresholds.now s.words.now s.thresholds.now
    (data_for d)

-- tree t
abbrev pub lot_tree : Lot → ℕ → OneTree
lot_tree L t =
    one_tree_in L.rows L.params L.weights (stretch (t * L.rows) L.rows L.counts) (part L.word_starts L.words t) (part L.threshold_starts L.thresholds t)

-- so many trees, from the first on
abbrev pub lot_trees : ℕ → Lot → List OneTree
lot_trees trees L = map (lot_tree L) (from 0 trees)

-- what tree F asks of node and work rooms
abbrev pub PlantIn : ℕ → OneTree → Data → NodeRoom → WorkLengths → Type 0
PlantIn features F D c w = PlantAsks features F D c w.order w.scratch w.flags w.wholes w.reals
