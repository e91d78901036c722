-- The fit of one tree: from what is lent to its answer and the rooms after.
use Rattle.std.specs.Prelude.{ℕ, suc, ◌-◌, ◌&&◌, List, [], ◌∷◌, ◌++◌, map, length, get_or, leb, Float, Ok, Err, Some, None, Option}
use Rattle.std.specs.Float.{nan}
use Rattle.rules.specs.declared.Params.{Params}
use Rattle.rules.specs.declared.Settings.{Settings}
use Rattle.rules.specs.declared.Shape.{Shape}
use Rattle.rules.specs.declared.Kind.{Kind}
use Rattle.rules.specs.declared.Kind.TheVariants.{Leaf, Split}
use Rattle.rules.specs.declared.Report.{Report}
use Rattle.rules.specs.Results.{Checked, TreeAnswer}
use Rattle.rules.specs.Words.{from, keep, front, total}
use Rattle.rules.specs.Totals.{empty, value_of}
use Rattle.rules.specs.Lent.{Data, Given, OneTree, Behind, Entry, WaitingForm, TreeRooms, Outcome, values_at, listing_at, count_in, mass_in, kept, kept_rows, shortest_of_eight, leaf_entry, write_entries, zero_columns, zero_behind, zero_work}
use Rattle.rules.specs.Checks.{Test, test, checked, shape_in, lengths, numbers_good, counts_good, room_for, work_enough}
use Rattle.rules.specs.Listing.{order_tests}
use Rattle.rules.specs.Draws.{Out, bad, ok, bind, Tapes, tape}
use Rattle.rules.specs.Search.{Element, Column, totals_of, NodeRows, search}
use Rattle.rules.specs.Growth.{TreeNode, State, from_root}
use Rattle.rules.specs.declared.FitError.{FitError}

-- ---- the root

-- R10.1: a row as growth sees it
unfoldable pub element_in : ℕ → List Float → List Float → List Float → List ℕ → ℕ → Element
element_in features values targets weights counts i =
    record { row = i; count = count_in counts i; mass = mass_in weights counts i; target = get_or targets i nan; values = values_at features values i }

-- R10.1
unfoldable pub element : OneTree → Data → ℕ → Element
element F D i = element_in F.params.features D.values D.targets F.weights F.counts i

-- R10.2
unfoldable pub listing : OneTree → Data → ℕ → List ℕ
listing F D j = listing_at F.rows D.listings j

-- R10.2: feature j's column: what its listing has of kept rows
unfoldable pub column : OneTree → Data → ℕ → Column
column F D j = map (element F D) (keep (kept F) (listing F D j))

-- R10.3: the totals take in every row, kept or not, from row 0 on
unfoldable pub root : OneTree → Data → NodeRows
root F D =
    record {
      columns = map (column F D) (from 0 F.params.features);
      totals = totals_of empty (map (element F D) (from 0 F.rows));
      count = total (count_in F.counts) (kept_rows F);
    }

-- ---- a grown tree, and what is reported of it

-- R10.4
pub record Tree : Type 0 where
  pub nodes : List TreeNode
  pub report : Report

-- R10.4
unfoldable pub tree_of : OneTree → NodeRows → State Tapes → Tree
tree_of F node s =
    record {
      nodes = s.nodes;
      report = record {
        nodes = length s.nodes;
        depth = s.depth;
        mass = node.totals.mass;
        searches = s.left.searches;
        words = length F.words - length s.left.words;
        thresholds = length F.thresholds - length s.left.thresholds;
      };
    }

-- R10.5: from its root on, a tree reads nothing of the data
unfoldable pub grow_from : OneTree → NodeRows → Out Tree
grow_from F node =
    bind (from_root F.params (search (tape F.params.features) F.params) node (record { words = F.words; thresholds = F.thresholds; searches = 0 }))
    (λ s. ok (tree_of F node s))

-- R10.5
unfoldable pub fit : OneTree → Data → Out Tree
fit F D = grow_from F (root F D)

-- R10.6: a node as it is written: a leaf's feature, threshold, score and children are 0
unfoldable pub entry_of : Float → Kind → Entry
entry_of v Leaf = leaf_entry v
entry_of v (Split s) =
    record {
      value = v;
      feature = s.cut.feature;
      threshold = s.cut.threshold;
      score = s.score;
      true_child = s.children;
      false_child = suc s.children;
    }

-- R10.6
unfoldable pub entries : List TreeNode → List Entry
entries [] = []
entries (n ∷ ns) = entry_of (value_of n.totals) n.kind ∷ entries ns

-- R10.6: and beside its entry: its count, and the mass that its value was divided by, or would have been
abbrev pub write_behind : List TreeNode → Behind → Behind
write_behind ns b =
    record {
      count = front (map (λ (n : TreeNode). n.count) ns) b.count;
      mass = front (map (λ (n : TreeNode). n.totals.mass) ns) b.mass;
    }

-- ---- the call

-- R10.7: no greatest depth acts as 65,535
unfoldable pub limit_of : Option ℕ → ℕ
limit_of None = 65535
limit_of (Some d) = d

-- R10.7
unfoldable pub params_of : Settings → ℕ → ℕ → Params
params_of G tried features =
    record { limit = limit_of G.depth; leaf = G.leaf; split = G.split; tried = tried; features = features; splitter = G.splitter; height = G.height }

-- R10.8
pub record TreeCall : Type 0 where
  pub shape : Shape
  pub settings : Settings
  pub tried : ℕ
  pub given : Given
  pub words : List ℕ
  pub thresholds : List Float

-- R10.8
abbrev pub tree_call : Shape → Settings → ℕ → Given → List ℕ → List Float → TreeCall
tree_call shape settings tried given words thresholds =
    record { shape = shape; settings = settings; tried = tried; given = given; words = words; thresholds = thresholds }

-- R10.8
unfoldable pub one_tree_of : TreeCall → OneTree
one_tree_of C =
    record {
      rows = C.shape.rows;
      params = params_of C.settings C.tried C.shape.features;
      weights = C.given.weights;
      counts = C.given.counts;
      words = C.words;
      thresholds = C.thresholds;
    }

-- R10.9
unfoldable pub grown_tree : TreeCall → Out Tree
grown_tree C = fit (one_tree_of C) C.given.inputs

module _ {W : Type 0} (K : WaitingForm W) where
  -- R10.10: 1 to 4, then 11 to 13 place by place, then 6
  unfoldable pub tree_tests : TreeCall → TreeRooms W → List Test
  tree_tests C R =
      test 1 (shape_in C.shape)
      ∷ test 2 (lengths C.shape 1 C.given)
      ∷ test 3 (numbers_good C.given)
      ∷ test 4 (counts_good C.given)
      ∷ order_tests C.shape C.given.inputs.values C.given.inputs.listings
      ++ test 6 (leb (room_for (one_tree_of C)) (shortest_of_eight R.nodes R.behind) && work_enough K C.shape R.work)
      ∷ []

  -- R10.11: a bad draw leaves all rooms zero; an answer leaves the nodes, and the work room zero
  unfoldable pub tree_done : Out Tree → TreeRooms W → Outcome TreeAnswer (TreeRooms W)
  tree_done (bad s) R =
      record {
        answer = Err (FitError.BadDraw (record { tree = 0; search = s }));
        rooms = record { nodes = zero_columns R.nodes; behind = zero_behind R.behind; work = zero_work K R.work };
      }
  tree_done (ok t) R =
      record {
        answer = Ok t.report;
        rooms = record { nodes = write_entries (entries t.nodes) R.nodes; behind = write_behind t.nodes R.behind; work = zero_work K R.work };
      }

  -- R10.12: a refusal by one of these leaves the rooms as they were
  unfoldable pub tree_ends : Checked → Out Tree → TreeRooms W → Outcome TreeAnswer (TreeRooms W)
  tree_ends (Ok _) o R = tree_done o R
  tree_ends (Err r) o R = record { answer = Err (FitError.Refused r); rooms = R }

  -- R10.12
  unfoldable pub fit_tree : TreeCall → TreeRooms W → Outcome TreeAnswer (TreeRooms W)
  fit_tree C R = tree_ends (checked (tree_tests C R)) (grown_tree C) R
