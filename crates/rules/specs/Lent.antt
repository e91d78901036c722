-- What is lent: tables to read, and rooms to write.
use Rattle.std.specs.Prelude.{ℕ, ◌*◌, min, Bool, true, false, ◌&&◌, ◌||◌, cond, List, [], ◌∷◌, map, length, get_or, replicate, ltb, Float}
use Rattle.std.specs.Float.{nan, binary64}
use Rattle.std.specs.Float.Ieee.{mul, lt}
use Rattle.rules.specs.declared.Params.{Params}
use Rattle.rules.specs.declared.Report.{Report}
use Rattle.rules.specs.Words.{nought, float, from, keep, stretch, front, filled}

-- ---- to read

-- R2.1: feature values row after row, a target a row, a listing of all rows for each feature
pub record Data : Type 0 where
  pub values : List Float
  pub targets : List Float
  pub listings : List ℕ

-- R2.2: with the data, what both fits are given but for the draws: weights, one a row or none at all, and counts, tree after tree
pub record Given : Type 0 where
  pub inputs : Data
  pub weights : List Float
  pub counts : List ℕ

-- R2.2: from slices
abbrev pub given_of : List Float → List Float → List Float → List ℕ → List ℕ → Given
given_of values targets weights counts listings =
    record { inputs = record { values = values; targets = targets; listings = listings }; weights = weights; counts = counts }

-- R2.3: what one tree grows by beside the data: its own counts and its own part of the tapes
pub record OneTree : Type 0 where
  pub rows : ℕ
  pub params : Params
  pub weights : List Float
  pub counts : List ℕ
  pub words : List ℕ
  pub thresholds : List Float

-- R2.4: row i's values, and feature j's value among them
unfoldable pub values_at : ℕ → List Float → ℕ → List Float
values_at features xs i = stretch (i * features) features xs

-- R2.4
unfoldable pub cell : ℕ → List Float → ℕ → ℕ → Float
cell features xs j i = get_or (values_at features xs i) j nan

-- R2.5: feature j's listing
unfoldable pub listing_at : ℕ → List ℕ → ℕ → List ℕ
listing_at rows ls j = stretch (j * rows) rows ls

-- R2.6
unfoldable pub unweighted : List Float → Bool
unweighted [] = true
unweighted (w ∷ ws) = false

-- R2.7
unfoldable pub count_in : List ℕ → ℕ → ℕ
count_in counts i = get_or counts i 0

-- R2.7: without weights a row weighs its count
unfoldable pub mass_in : List Float → List ℕ → ℕ → Float
mass_in weights counts i =
    cond (unweighted weights) (float (count_in counts i)) (mul binary64 (float (count_in counts i)) (get_or weights i nan))

-- R2.8: whether a tree keeps row i
unfoldable pub kept_in : List Float → List ℕ → ℕ → Bool
kept_in weights counts i = ltb 0 (count_in counts i) && (unweighted weights || lt nought (get_or weights i nan))

-- R2.8
unfoldable pub kept : OneTree → ℕ → Bool
kept F i = kept_in F.weights F.counts i

-- R2.8
unfoldable pub kept_rows : OneTree → List ℕ
kept_rows F = keep (kept F) (from 0 F.rows)

-- ---- to write

-- R2.9: node room: six columns
pub record Columns : Type 0 where
  pub value : List Float
  pub feature : List ℕ
  pub threshold : List Float
  pub score : List Float
  pub true_child : List ℕ
  pub false_child : List ℕ

-- R2.9: from slices
abbrev pub columns_of : List Float → List ℕ → List Float → List Float → List ℕ → List ℕ → Columns
columns_of v j t s y n = record { value = v; feature = j; threshold = t; score = s; true_child = y; false_child = n }

-- R2.9: of a fit two more: the kept counts in each node, and its mass
pub record Behind : Type 0 where
  pub count : List ℕ
  pub mass : List Float

-- R2.9: from slices
abbrev pub behind_of : List ℕ → List Float → Behind
behind_of k m = record { count = k; mass = m }

-- R2.10: a node's place in the six
pub record Entry : Type 0 where
  pub value : Float
  pub feature : ℕ
  pub threshold : Float
  pub score : Float
  pub true_child : ℕ
  pub false_child : ℕ

-- R2.11: a forest's report columns, a place a tree
pub record Reports : Type 0 where
  pub nodes : List ℕ
  pub depth : List ℕ
  pub mass : List Float
  pub searches : List ℕ
  pub words : List ℕ
  pub thresholds : List ℕ

-- R2.11: from slices
abbrev pub reports_of : List ℕ → List ℕ → List Float → List ℕ → List ℕ → List ℕ → Reports
reports_of n d m s w t = record { nodes = n; depth = d; mass = m; searches = s; words = w; thresholds = t }

-- R2.12: a waiting list of any form: how many places it has, and what it is when all are zero
pub record WaitingForm (W : Type 0) : Type 0 where
  pub places : W → ℕ
  pub zeroed : W → W

-- R2.13: the form that is lent: six whole numbers and three floats a place, in two slices of which the shorter counts
pub record WaitingRoom : Type 0 where
  pub wholes : List (List ℕ)
  pub reals : List (List Float)

-- R2.13
abbrev pub waiting_room : WaitingForm WaitingRoom
waiting_room =
    record {
      places = λ w. min (length w.wholes) (length w.reals);
      zeroed = λ w. record { wholes = filled (replicate 6 0) w.wholes; reals = filled (replicate 3 nought) w.reals };
    }

-- R2.14
pub record Work (W : Type 0) : Type 0 where
  pub order : List ℕ
  pub scratch : List ℕ
  pub flags : List Bool
  pub waiting : W

-- R2.14: from slices
abbrev pub work_of : List ℕ → List ℕ → List Bool → List (List ℕ) → List (List Float) → Work WaitingRoom
work_of order scratch flags wholes reals =
    record { order = order; scratch = scratch; flags = flags; waiting = record { wholes = wholes; reals = reals } }

-- R2.15
pub record TreeRooms (W : Type 0) : Type 0 where
  pub nodes : Columns
  pub behind : Behind
  pub work : Work W

-- R2.15
pub record ForestRooms (W : Type 0) : Type 0 where
  pub nodes : Columns
  pub behind : Behind
  pub starts : List ℕ
  pub reports : Reports
  pub work : Work W

-- R2.15
abbrev pub tree_rooms_of : Columns → Behind → Work WaitingRoom → TreeRooms WaitingRoom
tree_rooms_of nodes behind work = record { nodes = nodes; behind = behind; work = work }

-- R2.15
abbrev pub forest_rooms_of : Columns → Behind → List ℕ → Reports → Work WaitingRoom → ForestRooms WaitingRoom
forest_rooms_of nodes behind starts reports work = record { nodes = nodes; behind = behind; starts = starts; reports = reports; work = work }

-- R2.16: what a call leaves: its answer, and the rooms
pub record Outcome (A R : Type 0) : Type 0 where
  pub answer : A
  pub rooms : R

-- R2.16
abbrev pub outcome_of : {A R : Type 0} → A → R → Outcome A R
outcome_of answer rooms = record { answer = answer; rooms = rooms }

-- ---- node room

-- R2.17: it is as long as its shortest column
abbrev pub shortest : Columns → ℕ
shortest c =
    min (length c.value) (min (length c.feature) (min (length c.threshold)
    (min (length c.score) (min (length c.true_child) (length c.false_child)))))

-- R2.17: in a fit all eight count
abbrev pub shortest_of_eight : Columns → Behind → ℕ
shortest_of_eight c b = min (shortest c) (min (length b.count) (length b.mass))

-- R2.18
abbrev pub entry_at : Columns → ℕ → Entry
entry_at c k =
    record {
      value = get_or c.value k nan;
      feature = get_or c.feature k 0;
      threshold = get_or c.threshold k nan;
      score = get_or c.score k nan;
      true_child = get_or c.true_child k 0;
      false_child = get_or c.false_child k 0;
    }

-- R2.18: n entries from place a on
unfoldable pub entries_at : Columns → ℕ → ℕ → List Entry
entries_at c a n = map (entry_at c) (from a n)

-- R2.19: a leaf of value v, as it is written
abbrev pub leaf_entry : Float → Entry
leaf_entry v = record { value = v; feature = 0; threshold = nought; score = nought; true_child = 0; false_child = 0 }

-- R2.20
abbrev pub write_entries : List Entry → Columns → Columns
write_entries es c =
    record {
      value = front (map (λ (e : Entry). e.value) es) c.value;
      feature = front (map (λ (e : Entry). e.feature) es) c.feature;
      threshold = front (map (λ (e : Entry). e.threshold) es) c.threshold;
      score = front (map (λ (e : Entry). e.score) es) c.score;
      true_child = front (map (λ (e : Entry). e.true_child) es) c.true_child;
      false_child = front (map (λ (e : Entry). e.false_child) es) c.false_child;
    }

-- R2.20
abbrev pub write_reports : List Report → Reports → Reports
write_reports rs c =
    record {
      nodes = front (map (λ (r : Report). r.nodes) rs) c.nodes;
      depth = front (map (λ (r : Report). r.depth) rs) c.depth;
      mass = front (map (λ (r : Report). r.mass) rs) c.mass;
      searches = front (map (λ (r : Report). r.searches) rs) c.searches;
      words = front (map (λ (r : Report). r.words) rs) c.words;
      thresholds = front (map (λ (r : Report). r.thresholds) rs) c.thresholds;
    }

-- ---- rooms filled with zero, the whole of each

-- R2.21
abbrev pub zero_columns : Columns → Columns
zero_columns c =
    record {
      value = filled nought c.value;
      feature = filled 0 c.feature;
      threshold = filled nought c.threshold;
      score = filled nought c.score;
      true_child = filled 0 c.true_child;
      false_child = filled 0 c.false_child;
    }

-- R2.21
abbrev pub zero_behind : Behind → Behind
zero_behind b = record { count = filled 0 b.count; mass = filled nought b.mass }

-- R2.21
abbrev pub zero_reports : Reports → Reports
zero_reports c =
    record {
      nodes = filled 0 c.nodes;
      depth = filled 0 c.depth;
      mass = filled nought c.mass;
      searches = filled 0 c.searches;
      words = filled 0 c.words;
      thresholds = filled 0 c.thresholds;
    }

-- R2.21
abbrev pub zero_work : {W : Type 0} → WaitingForm W → Work W → Work W
zero_work K w =
    record {
      order = filled 0 w.order;
      scratch = filled 0 w.scratch;
      flags = filled false w.flags;
      waiting = K.zeroed w.waiting;
    }
