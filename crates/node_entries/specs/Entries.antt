-- A waiting node in two slices of arrays, and a node in eight columns: six for its entry, two for its count and mass. Definitions only. Assumes nothing.
use Rattle.std.specs.Prelude.{ℕ, ◌+◌, ◌≤◌, List, [], ◌∷◌, length, get_or, set, Float}
use Rattle.std.specs.Float.{nan}
use Rattle.rules.specs.declared.Totals.{Totals}
use Rattle.rules.specs.declared.NodeRoom as Lent
use Rattle.rules.specs.Lent.{Columns, Behind, columns_of, behind_of}
use Rattle.rules.specs.Slices.{nodes_in, behind_in}
use Rattle.rules.specs.Words.{nought}
use Rattle.rules.specs.Totals.{value_of}
use Rattle.criterion.specs.declared.Side.{Side}
use Rattle.node_entries.specs.declared.WaitingNode.{WaitingNode}
use Rattle.node_entries.specs.declared.NodeEntry.{NodeEntry}

-- ---- a waiting node

-- its six numbers
abbrev pub wholes_of : WaitingNode → List ℕ
wholes_of w = w.node ∷ w.start ∷ w.end ∷ w.level ∷ w.rows ∷ w.feature ∷ []

-- its three reals
abbrev pub reals_of : WaitingNode → List Float
reals_of w = w.sum ∷ w.mass ∷ w.cut ∷ []

-- and back
abbrev pub waiting_in : List ℕ → List Float → WaitingNode
waiting_in w r =
    record {
      node = get_or w 0 0;
      start = get_or w 1 0;
      end = get_or w 2 0;
      level = get_or w 3 0;
      rows = get_or w 4 0;
      feature = get_or w 5 0;
      sum = get_or r 0 nan;
      mass = get_or r 1 nan;
      cut = get_or r 2 nan;
    }

-- the one at place i of both slices
abbrev pub waiting_at : List (List ℕ) → List (List Float) → ℕ → WaitingNode
waiting_at wholes reals i = waiting_in (get_or wholes i []) (get_or reals i [])

-- ---- a node's entry

-- each of the six columns has n places
pub record LongAll (n : ℕ) (c : Columns) : Type 0 where
  pub value : n ≤ length c.value
  pub feature : n ≤ length c.feature
  pub threshold : n ≤ length c.threshold
  pub score : n ≤ length c.score
  pub truechild : n ≤ length c.true_child
  pub falsechild : n ≤ length c.false_child

-- the columns with an entry at place i
unfoldable pub put_entry : ℕ → NodeEntry → Columns → Columns
put_entry i r c =
    record {
      value = set c.value i r.value;
      feature = set c.feature i r.feature;
      threshold = set c.threshold i r.threshold;
      score = set c.score i r.score;
      true_child = set c.true_child i r.truechild;
      false_child = set c.false_child i r.falsechild;
    }

-- a leaf's entry, of this value
abbrev pub leaf_with : Float → NodeEntry
leaf_with v = record { value = v; feature = 0; threshold = nought; score = nought; truechild = 0; falsechild = 0 }

-- of these totals
abbrev pub leaf_for : Totals → NodeEntry
leaf_for t = leaf_with (value_of t)

-- the split of a waiting node whose value is v, with score q and children n and n + 1
abbrev pub split_with : WaitingNode → Float → Float → ℕ → NodeEntry
split_with w v q n = record { value = v; feature = w.feature; threshold = w.cut; score = q; truechild = n; falsechild = n + 1 }

-- of the value that its totals have
abbrev pub split_for : WaitingNode → Float → ℕ → NodeEntry
split_for w q n = split_with w (value_of (record { sum = w.sum; mass = w.mass })) q n

-- ---- the eight columns of a growth: the six, and the two behind them

pub record NodeRoom : Type 0 where
  pub nodes : Columns
  pub behind : Behind

-- from slices
abbrev pub node_room_of : List Float → List ℕ → List Float → List Float → List ℕ → List ℕ → List ℕ → List Float → NodeRoom
node_room_of v j t s y n k m = record { nodes = columns_of v j t s y n; behind = behind_of k m }

-- from the room that is lent
abbrev pub room_in : Lent.NodeRoom → NodeRoom
room_in r = record { nodes = nodes_in r; behind = behind_in r }

-- each of the eight has n places
pub record LongRoom (n : ℕ) (c : NodeRoom) : Type 0 where
  pub nodes : LongAll n c.nodes
  pub count : n ≤ length c.behind.count
  pub mass : n ≤ length c.behind.mass

-- how long each of the eight is
pub record NodeLengths : Type 0 where
  pub value : ℕ
  pub feature : ℕ
  pub threshold : ℕ
  pub score : ℕ
  pub truechild : ℕ
  pub falsechild : ℕ
  pub count : ℕ
  pub mass : ℕ

-- of these columns
abbrev pub node_lengths : NodeRoom → NodeLengths
node_lengths c =
    record {
      value = length c.nodes.value;
      feature = length c.nodes.feature;
      threshold = length c.nodes.threshold;
      score = length c.nodes.score;
      truechild = length c.nodes.true_child;
      falsechild = length c.nodes.false_child;
      count = length c.behind.count;
      mass = length c.behind.mass;
    }

-- a node with count k and mass m
unfoldable pub put_node : ℕ → NodeEntry → ℕ → Float → NodeRoom → NodeRoom
put_node i r k m c = record { nodes = put_entry i r c.nodes; behind = record { count = set c.behind.count i k; mass = set c.behind.mass i m } }

-- a leaf with the totals and the count of a side
abbrev pub put_leaf : ℕ → Side → NodeRoom → NodeRoom
put_leaf i a c = put_node i (leaf_for a.totals) a.count a.totals.mass c

-- a split, and its children a and b
unfoldable pub wrote_split : WaitingNode → Side → Side → Float → ℕ → NodeRoom → NodeRoom
wrote_split w a b q n c = put_leaf (n + 1) b (put_leaf n a (put_node w.node (split_for w q n) (a.count + b.count) w.mass c))
