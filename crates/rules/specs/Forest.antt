-- The fit of a forest: each tree with its own counts and its own part of both tapes.
use Rattle.std.specs.Prelude.{ℕ, zero, suc, ◌+◌, ◌-◌, ◌*◌, Bool, ◌&&◌, cond, List, [], ◌∷◌, ◌++◌, map, length, get_or, leb, Float, Ok, Err, Some, None, Option}
use Rattle.rules.specs.declared.Settings.{Settings}
use Rattle.rules.specs.declared.Shape.{Shape}
use Rattle.rules.specs.declared.Place.{Place}
use Rattle.rules.specs.Results.{Checked, ForestAnswer}
use Rattle.rules.specs.Words.{from, stretch, front, filled, joined, total}
use Rattle.rules.specs.Lent.{Data, Given, OneTree, Entry, WaitingForm, ForestRooms, Outcome, shortest_of_eight, write_entries, write_reports, zero_columns, zero_behind, zero_reports, zero_work}
use Rattle.rules.specs.Checks.{Test, test, checked, trees_in, shape_in, lengths, good_tape_starts, numbers_good, counts_good, counts_one, room_for, work_enough, reports_exact}
use Rattle.rules.specs.Listing.{order_tests}
use Rattle.rules.specs.Draws.{Out, bad, ok}
use Rattle.rules.specs.Growth.{TreeNode}
use Rattle.rules.specs.Fit.{Tree, fit, entries, write_behind, params_of}
use Rattle.rules.specs.declared.FitError.{FitError}

-- R11.1
pub record ForestCall : Type 0 where
  pub shape : Shape
  pub trees : ℕ
  pub settings : Settings
  pub tried : Option ℕ
  pub given : Given
  pub words : List ℕ
  pub thresholds : List Float
  pub word_starts : List ℕ
  pub threshold_starts : List ℕ

-- R11.1
abbrev pub forest_call : Shape → ℕ → Settings → Option ℕ → Given → List ℕ → List Float → List ℕ → List ℕ → ForestCall
forest_call shape trees settings tried given words thresholds word_starts threshold_starts =
    record {
      shape = shape;
      trees = trees;
      settings = settings;
      tried = tried;
      given = given;
      words = words;
      thresholds = thresholds;
      word_starts = word_starts;
      threshold_starts = threshold_starts;
    }

-- R11.2: how many of 1 to k have a square of at most n: for k = n, the floor of n's root
unfoldable pub squares : ℕ → ℕ → ℕ
squares n zero = 0
squares n (suc k) = cond (leb (suc k * suc k) n) 1 0 + squares n k

-- R11.2
unfoldable pub tried_of : ℕ → Option ℕ → ℕ
tried_of features None = squares features features
tried_of features (Some m) = m

-- R11.3: a tree's own part of a tape
unfoldable pub part {ℓ} : {A : Type ℓ} → List ℕ → List A → ℕ → List A
part starts tape t = stretch (get_or starts t 0) (get_or starts (suc t) 0 - get_or starts t 0) tape

-- R11.4
unfoldable pub one_tree_at : ForestCall → ℕ → OneTree
one_tree_at C t =
    record {
      rows = C.shape.rows;
      params = params_of C.settings (tried_of C.shape.features C.tried) C.shape.features;
      weights = C.given.weights;
      counts = stretch (t * C.shape.rows) C.shape.rows C.given.counts;
      words = part C.word_starts C.words t;
      thresholds = part C.threshold_starts C.thresholds t;
    }

-- R11.4
unfoldable pub each_tree : ForestCall → List OneTree
each_tree C = map (one_tree_at C) (from 0 C.trees)

-- ---- trees are grown one after another; the first bad draw ends it

-- R11.5
pub data Forest : Type 0 where
  stopped : Place → Forest
  grown_all : List Tree → Forest

-- R11.5
unfoldable pub with_tree : Tree → Forest → Forest
with_tree t (stopped d) = stopped d
with_tree t (grown_all ts) = grown_all (t ∷ ts)

-- R11.5
unfoldable pub next_tree : ℕ → Out Tree → Forest → Forest
next_tree k (bad s) rest = stopped (record { tree = k; search = s })
next_tree k (ok t) rest = with_tree t rest

-- R11.5
unfoldable pub grow_trees : ℕ → List OneTree → Data → Forest
grow_trees k [] D = grown_all []
grow_trees k (F ∷ Fs) D = next_tree k (fit F D) (grow_trees (suc k) Fs D)

-- R11.5
unfoldable pub grown_forest : ForestCall → Forest
grown_forest C = grow_trees 0 (each_tree C) C.given.inputs

-- ---- the call

-- R11.6: where each tree starts, and where the last ends
unfoldable pub starts_from : ℕ → List Tree → List ℕ
starts_from a [] = a ∷ []
starts_from a (t ∷ ts) = a ∷ starts_from (a + length t.nodes) ts

-- R11.6
unfoldable pub forest_entries : List Tree → List Entry
forest_entries [] = []
forest_entries (t ∷ ts) = entries t.nodes ++ forest_entries ts

-- R11.6: all nodes, tree after tree
unfoldable pub forest_nodes : List Tree → List TreeNode
forest_nodes ts = joined (λ (t : Tree). t.nodes) ts

-- R11.7
unfoldable pub tapes_good : ForestCall → Bool
tapes_good C = good_tape_starts C.trees (length C.words) C.word_starts && good_tape_starts C.trees (length C.thresholds) C.threshold_starts

module _ {W : Type 0} (K : WaitingForm W) where
  -- R11.8: all but the node room
  unfoldable pub rooms_good : ForestCall → ForestRooms W → Bool
  rooms_good C R =
      work_enough K C.shape R.work && (leb (suc C.trees) (length R.starts) && reports_exact C.trees R.reports)

  -- R11.8: 1 to 4, then 11 to 13 place by place, then 6
  unfoldable pub forest_tests : ForestCall → ForestRooms W → List Test
  forest_tests C R =
      test 1 (shape_in C.shape && trees_in C.trees)
      ∷ test 2 (lengths C.shape C.trees C.given && tapes_good C)
      ∷ test 3 (numbers_good C.given)
      ∷ test 4 (counts_good C.given && counts_one C.given)
      ∷ order_tests C.shape C.given.inputs.values C.given.inputs.listings
      ++ test 6 (leb (total room_for (each_tree C)) (shortest_of_eight R.nodes R.behind) && rooms_good C R)
      ∷ []

  -- R11.9: a bad draw leaves all rooms zero; an answer leaves nodes, starts and reports, and the work room zero
  unfoldable pub forest_done : Forest → ForestRooms W → Outcome ForestAnswer (ForestRooms W)
  forest_done (stopped d) R =
      record {
        answer = Err (FitError.BadDraw d);
        rooms = record {
          nodes = zero_columns R.nodes;
          behind = zero_behind R.behind;
          starts = filled 0 R.starts;
          reports = zero_reports R.reports;
          work = zero_work K R.work;
        };
      }
  forest_done (grown_all ts) R =
      record {
        answer = Ok tt;
        rooms = record {
          nodes = write_entries (forest_entries ts) R.nodes;
          behind = write_behind (forest_nodes ts) R.behind;
          starts = front (starts_from 0 ts) R.starts;
          reports = write_reports (map (λ (t : Tree). t.report) ts) R.reports;
          work = zero_work K R.work;
        };
      }

  -- R11.10: a refusal by one of these leaves the rooms as they were
  unfoldable pub forest_ends : Checked → Forest → ForestRooms W → Outcome ForestAnswer (ForestRooms W)
  forest_ends (Ok _) f R = forest_done f R
  forest_ends (Err r) f R = record { answer = Err (FitError.Refused r); rooms = R }

  -- R11.10
  unfoldable pub fit_forest : ForestCall → ForestRooms W → Outcome ForestAnswer (ForestRooms W)
  fit_forest C R = forest_ends (checked (forest_tests C R)) (grown_forest C) R
