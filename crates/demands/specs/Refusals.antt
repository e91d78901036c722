-- Demand 1: in which order each call makes its checks, and what a refusal leaves. A fit that is refused before growth leaves every lent room as it was, and tells what the
-- first test that failed tells. One that meets a bad draw leaves every lent slice as long as it was, with 0 at each place. Each reader that is refused, and the writer of model files, leaves its
-- result room as it was, and tells the first test that failed; a reader, a writer or a check that does not refuse has passed all its tests. Assumes nothing.
use Rattle.std.specs.Prelude.{ℕ, zero, suc, ◌<◌, ◌≤◌, ◌≡◌, refl, Bool, true, false, cond, List, [], ◌∷◌, ◌++◌, map, length, get_or, ltb, Float, Ok, Err, Some, None}
use Rattle.std.proofs.Common.{arith, ap, ◌∙◌, subst}
use Rattle.std.proofs.lemmas.List.{map-append, length-map}
use Rattle.rules.specs.declared.Shape.{Shape}
use Rattle.rules.specs.declared.Scale.{Scale}
use Rattle.rules.specs.declared.Place.{Place}
use Rattle.rules.specs.declared.Refusal.{Refusal}
use Rattle.rules.specs.Results.{Checked, TreeAnswer, ForestAnswer, Reply, ErrorReply, NodeReply, SizeReply}
use Rattle.rules.specs.declared.Figure.{Figure}
use Rattle.rules.specs.Words.{nought, filled, from, joined}
use Rattle.rules.specs.Lent.{Columns, Behind, Reports, WaitingForm, WaitingRoom, waiting_room, Work, TreeRooms, ForestRooms, Outcome, cell, listing_at, shortest, entry_at, zero_columns, zero_behind, zero_reports, zero_work}
use Rattle.rules.specs.Checks.{Test, test, checked, first_failed, replies}
use Rattle.rules.specs.Listing.{lowest_lacking, tests_from, column_tests, order_tests, listing_tests, check_listings}
use Rattle.rules.specs.Draws.{Out, bad, ok}
use Rattle.rules.specs.Fit.{Tree, TreeCall, grown_tree, tree_tests, tree_done, tree_ends, fit_tree}
use Rattle.rules.specs.Table.{tree_table_tests, check_tree, ForestTable, forest_table_tests, check_forest, node_of, node_read, read_node}
use Rattle.rules.specs.Reading.{reads, predict_tests, predict_tree, mean_tests, forest_means, tree_importance_tests, tree_importances, forest_importance_tests, forest_importances}
use Rattle.rules.specs.Forest.{ForestCall, Forest, stopped, grown_all, grown_forest, forest_tests, forest_done, forest_ends, fit_forest}
use Rattle.rules.specs.Model.{sized, model_size, write_tests, wrote, write_model}
use Rattle.rules.specs.OutOfBag.{out_tests, out_of_bag_means, errs, error_tests, out_of_bag_error}
use Rattle.rules.specs.declared.FitError.{FitError}

-- ---- the statements

abbrev pub numbers : List Test → List ℕ
numbers ts = map (λ (t : Test). t.tells.number) ts

-- three at each place of each column
abbrev pub place_numbers : Shape → List ℕ → List ℕ
place_numbers S ls = joined (λ j. joined (λ k. 11 ∷ 12 ∷ 13 ∷ []) (listing_at S.rows ls j)) (from 0 S.features)

pub record OrderOfChecks {W : Type 0} (K : WaitingForm W) : Type 0 where
  pub tree : (C : TreeCall) (R : TreeRooms W) → numbers (tree_tests K C R) ≡ 1 ∷ 2 ∷ 3 ∷ 4 ∷ place_numbers C.shape C.given.inputs.listings ++ 6 ∷ []
  pub forest : (C : ForestCall) (R : ForestRooms W) → numbers (forest_tests K C R) ≡ 1 ∷ 2 ∷ 3 ∷ 4 ∷ place_numbers C.shape C.given.inputs.listings ++ 6 ∷ []
  pub listings : (S : Shape) (xs : List Float) (ls : List ℕ) → numbers (listing_tests S xs ls) ≡ 1 ∷ 2 ∷ place_numbers S ls
  pub predictions : (S : Shape) (xs : List Float) (c : Columns) (out : List Float) → numbers (predict_tests S xs c out) ≡ 1 ∷ 2 ∷ 6 ∷ 8 ∷ []
  pub means : (S : Shape) (xs : List Float) (T : ForestTable) (out : List Float) → numbers (mean_tests S xs T out) ≡ 1 ∷ 2 ∷ 6 ∷ 8 ∷ []
  pub out_of_bag : (S : Shape) (xs : List Float) (ks : List ℕ) (T : ForestTable) (out : List Float) → numbers (out_tests S xs ks T out) ≡ 1 ∷ 9 ∷ 10 ∷ 2 ∷ 6 ∷ 8 ∷ []
  pub error : (rows : ℕ) (ys ms : List Float) → numbers (error_tests rows ys ms) ≡ 1 ∷ 2 ∷ 18 ∷ []
  pub tree_importances : (features : ℕ) (c : Columns) (out : List Float) → numbers (tree_importance_tests features c out) ≡ 1 ∷ 6 ∷ 8 ∷ []
  pub forest_importances : (features : ℕ) (T : ForestTable) (out : List Float) → numbers (forest_importance_tests features T out) ≡ 1 ∷ 6 ∷ 8 ∷ []
  pub tree_table : (features : ℕ) (c : Columns) → numbers (tree_table_tests features c) ≡ 1 ∷ 8 ∷ []
  pub forest_table : (features : ℕ) (T : ForestTable) → numbers (forest_table_tests features T) ≡ 1 ∷ 6 ∷ 8 ∷ []
  pub model : (features : ℕ) (T : ForestTable) (out : List ℕ) → numbers (write_tests features T out) ≡ 1 ∷ 6 ∷ 8 ∷ 6 ∷ []

abbrev pub TreeRefused : Type 1
TreeRefused =
    (W : Type 0) (K : WaitingForm W) (C : TreeCall) (R : TreeRooms W) (r : Refusal) → (fit_tree K C R).answer ≡ Err (FitError.Refused r)
    → ((fit_tree K C R).rooms ≡ R) × (checked (tree_tests K C R) ≡ Err r)

-- a slice is as long as it was, and x stands at each of its places, whatever a place beyond them is taken to hold
abbrev pub Everywhere : {A : Type 0} → A → List A → List A → Type 0
Everywhere {A} x before after = (length after ≡ length before) × ((k : ℕ) → k < length before → (beyond : A) → get_or after k beyond ≡ x)

pub record NodesZero (before after : Columns) : Type 0 where
  pub value : Everywhere nought before.value after.value
  pub feature : Everywhere 0 before.feature after.feature
  pub threshold : Everywhere nought before.threshold after.threshold
  pub score : Everywhere nought before.score after.score
  pub true_child : Everywhere 0 before.true_child after.true_child
  pub false_child : Everywhere 0 before.false_child after.false_child

pub record BehindZero (before after : Behind) : Type 0 where
  pub count : Everywhere 0 before.count after.count
  pub mass : Everywhere nought before.mass after.mass

pub record ReportsZero (before after : Reports) : Type 0 where
  pub nodes : Everywhere 0 before.nodes after.nodes
  pub depth : Everywhere 0 before.depth after.depth
  pub mass : Everywhere nought before.mass after.mass
  pub searches : Everywhere 0 before.searches after.searches
  pub words : Everywhere 0 before.words after.words
  pub thresholds : Everywhere 0 before.thresholds after.thresholds

-- of the waiting list each place: its six whole numbers and its three floats
pub record WorkZero (before after : Work WaitingRoom) : Type 0 where
  pub order : Everywhere 0 before.order after.order
  pub scratch : Everywhere 0 before.scratch after.scratch
  pub flags : Everywhere false before.flags after.flags
  pub wholes : Everywhere (0 ∷ 0 ∷ 0 ∷ 0 ∷ 0 ∷ 0 ∷ []) before.waiting.wholes after.waiting.wholes
  pub reals : Everywhere (nought ∷ nought ∷ nought ∷ []) before.waiting.reals after.waiting.reals

pub record TreeZero (before after : TreeRooms WaitingRoom) : Type 0 where
  pub nodes : NodesZero before.nodes after.nodes
  pub behind : BehindZero before.behind after.behind
  pub work : WorkZero before.work after.work

abbrev pub TreeBad : Type 0
TreeBad = (C : TreeCall) (R : TreeRooms WaitingRoom) (d : Place) → (fit_tree waiting_room C R).answer ≡ Err (FitError.BadDraw d) → TreeZero R (fit_tree waiting_room C R).rooms

abbrev pub ForestRefused : Type 1
ForestRefused =
    (W : Type 0) (K : WaitingForm W) (C : ForestCall) (R : ForestRooms W) (r : Refusal) → (fit_forest K C R).answer ≡ Err (FitError.Refused r)
    → ((fit_forest K C R).rooms ≡ R) × (checked (forest_tests K C R) ≡ Err r)

pub record ForestZero (before after : ForestRooms WaitingRoom) : Type 0 where
  pub nodes : NodesZero before.nodes after.nodes
  pub behind : BehindZero before.behind after.behind
  pub starts : Everywhere 0 before.starts after.starts
  pub reports : ReportsZero before.reports after.reports
  pub work : WorkZero before.work after.work

abbrev pub ForestBad : Type 0
ForestBad = (C : ForestCall) (R : ForestRooms WaitingRoom) (d : Place) → (fit_forest waiting_room C R).answer ≡ Err (FitError.BadDraw d) → ForestZero R (fit_forest waiting_room C R).rooms

-- not refused before growth
abbrev pub Unrefused : TreeAnswer → Type 0
Unrefused (Err (FitError.Refused r)) = ⊥
Unrefused (Err (FitError.BadDraw d)) = Unit {0}
Unrefused (Ok r) = Unit {0}

abbrev pub ForestUnrefused : ForestAnswer → Type 0
ForestUnrefused (Err (FitError.Refused r)) = ⊥
ForestUnrefused (Err (FitError.BadDraw d)) = Unit {0}
ForestUnrefused (Ok _) = Unit {0}

-- a call goes by these tests: it refuses by the first that fails, and only where one does
abbrev pub By : List Test → Reply → Type 0
By ts (Err n) = (first_failed ts ≡ n) × (1 ≤ n)
By ts (Ok _) = first_failed ts ≡ 0

abbrev pub ErrorBy : List Test → ErrorReply → Type 0
ErrorBy ts (Err n) = (first_failed ts ≡ n) × (1 ≤ n)
ErrorBy ts (Ok f) = first_failed ts ≡ 0

abbrev pub NodeBy : List Test → NodeReply → Type 0
NodeBy ts (Err n) = (first_failed ts ≡ n) × (1 ≤ n)
NodeBy ts (Ok None) = first_failed ts ≡ 0
NodeBy ts (Ok (Some m)) = first_failed ts ≡ 0

abbrev pub SizeBy : List Test → SizeReply → Type 0
SizeBy ts (Err n) = (first_failed ts ≡ n) × (1 ≤ n)
SizeBy ts (Ok n) = first_failed ts ≡ 0

pub record CheckRefused : Type 0 where
  pub listings : (S : Shape) (xs : List Float) (ls : List ℕ) → check_listings S xs ls ≡ checked (listing_tests S xs ls)
  pub tree_table : (features : ℕ) (c : Columns) → By (tree_table_tests features c) (check_tree features c)
  pub forest_table : (features : ℕ) (T : ForestTable) → By (forest_table_tests features T) (check_forest features T)
  pub node : (features : ℕ) (c : Columns) (k : ℕ) → NodeBy (tree_table_tests features c) (read_node features c k)
  pub error : (rows : ℕ) (ys ms : List Float) → ErrorBy (error_tests rows ys ms) (out_of_bag_error rows ys ms)
  pub size : (features : ℕ) (T : ForestTable) → SizeBy (forest_table_tests features T) (model_size features T)

-- and one that is lent `out` leaves it as it was where it refuses
abbrev pub Untouched : List Test → List Float → Outcome Reply (List Float) → Type 0
Untouched ts out o = By ts o.answer × ((n : ℕ) → o.answer ≡ Err n → o.rooms ≡ out)

pub record ReaderRefused : Type 0 where
  pub predictions : (S : Shape) (xs : List Float) (c : Columns) (out : List Float) → Untouched (predict_tests S xs c out) out (predict_tree S xs c out)
  pub means : (S : Shape) (xs : List Float) (T : ForestTable) (out : List Float) → Untouched (mean_tests S xs T out) out (forest_means S xs T out)
  pub out_of_bag : (S : Shape) (xs : List Float) (ks : List ℕ) (T : ForestTable) (out : List Float) → Untouched (out_tests S xs ks T out) out (out_of_bag_means S xs ks T out)
  pub tree_importances : (features : ℕ) (by : Scale) (c : Columns) (out : List Float) → Untouched (tree_importance_tests features c out) out (tree_importances features by c out)
  pub forest_importances : (features : ℕ) (T : ForestTable) (out : List Float) → Untouched (forest_importance_tests features T out) out (forest_importances features T out)
  pub model : (features : ℕ) (T : ForestTable) (out : List ℕ)
      → SizeBy (write_tests features T out) (write_model features T out).answer × ((n : ℕ) → (write_model features T out).answer ≡ Err n → (write_model features T out).rooms ≡ out)

-- ---- the order

-- the numbers of the tests of a column, and of all columns
place-numbers : (rows : ℕ) (value : ℕ → Float) (column lacking : ℕ) (before : List ℕ) (place : ℕ) (l : List ℕ)
    → numbers (tests_from rows value column lacking before place l) ≡ joined (λ k. 11 ∷ 12 ∷ 13 ∷ []) l
unfolding tests_from joined
place-numbers rows value column lacking before place [] = refl
place-numbers rows value column lacking before place (k ∷ l) = ap (λ ns. 11 ∷ 12 ∷ 13 ∷ ns) (place-numbers rows value column lacking (k ∷ before) (suc place) l)

order-numbers : (S : Shape) (xs : List Float) (ls : List ℕ) → numbers (order_tests S xs ls) ≡ place_numbers S ls
unfolding order_tests column_tests joined
order-numbers S xs ls = go (from 0 S.features)
  where
    go : (js : List ℕ) → numbers (joined (column_tests S xs ls) js) ≡ joined (λ j. joined (λ k. 11 ∷ 12 ∷ 13 ∷ []) (listing_at S.rows ls j)) js
    go [] = refl
    go (j ∷ js) =
        map-append _ (column_tests S xs ls j) _
        ∙ λ i. place-numbers S.rows (cell S.features xs j) j (lowest_lacking S.rows (listing_at S.rows ls j)) [] 0 (listing_at S.rows ls j) i ++ go js i

then-six : (S : Shape) (xs : List Float) (ls : List ℕ) (b : Bool) → numbers (order_tests S xs ls ++ test 6 b ∷ []) ≡ place_numbers S ls ++ 6 ∷ []
then-six S xs ls b = map-append _ (order_tests S xs ls) _ ∙ ap (λ ns. ns ++ 6 ∷ []) (order-numbers S xs ls)

pub order-of-checks : {W : Type 0} (K : WaitingForm W) → OrderOfChecks K
unfolding tree_tests forest_tests listing_tests predict_tests mean_tests out_tests error_tests tree_importance_tests forest_importance_tests tree_table_tests forest_table_tests write_tests
order-of-checks K =
    record {
      tree = λ C R. ap (λ ns. 1 ∷ 2 ∷ 3 ∷ 4 ∷ ns) (then-six C.shape _ _ _);
      forest = λ C R. ap (λ ns. 1 ∷ 2 ∷ 3 ∷ 4 ∷ ns) (then-six C.shape _ _ _);
      listings = λ S xs ls. ap (λ ns. 1 ∷ 2 ∷ ns) (order-numbers S xs ls);
      predictions = λ S xs c out. refl;
      means = λ S xs T out. refl;
      out_of_bag = λ S xs ks T out. refl;
      error = λ rows ys ms. refl;
      tree_importances = λ features c out. refl;
      forest_importances = λ features T out. refl;
      tree_table = λ features c. refl;
      forest_table = λ features T. refl;
      model = λ features T out. refl;
    }

-- ---- rooms filled with zero

all-filled : {A : Type 0} (x : A) (l : List A) → Everywhere x l (filled x l)
all-filled {A} x l = (length-map l (λ _. x), λ k h beyond. at l k h beyond)
  where
    at : (l : List A) (k : ℕ) → k < length l → (beyond : A) → get_or (filled x l) k beyond ≡ x
    at [] k h beyond = absurd (omega arith)
    at (y ∷ l) zero h beyond = refl
    at (y ∷ l) (suc k) h beyond = at l k (omega arith) beyond

nodes-zero : (c : Columns) → NodesZero c (zero_columns c)
nodes-zero c =
    record {
      value = all-filled nought c.value;
      feature = all-filled 0 c.feature;
      threshold = all-filled nought c.threshold;
      score = all-filled nought c.score;
      true_child = all-filled 0 c.true_child;
      false_child = all-filled 0 c.false_child;
    }

behind-zero : (b : Behind) → BehindZero b (zero_behind b)
behind-zero b = record { count = all-filled 0 b.count; mass = all-filled nought b.mass }

reports-zero : (c : Reports) → ReportsZero c (zero_reports c)
reports-zero c =
    record {
      nodes = all-filled 0 c.nodes;
      depth = all-filled 0 c.depth;
      mass = all-filled nought c.mass;
      searches = all-filled 0 c.searches;
      words = all-filled 0 c.words;
      thresholds = all-filled 0 c.thresholds;
    }

work-zero : (w : Work WaitingRoom) → WorkZero w (zero_work waiting_room w)
work-zero w =
    record {
      order = all-filled 0 w.order;
      scratch = all-filled 0 w.scratch;
      flags = all-filled false w.flags;
      wholes = all-filled (0 ∷ 0 ∷ 0 ∷ 0 ∷ 0 ∷ 0 ∷ []) w.waiting.wholes;
      reals = all-filled (nought ∷ nought ∷ nought ∷ []) w.waiting.reals;
    }

-- ---- one tree

pub tree-refused : TreeRefused
unfolding fit_tree tree_ends tree_done
tree-refused W K C R r h = go (checked (tree_tests K C R)) (grown_tree C) h
  where
    asked : TreeAnswer → Checked
    asked (Err (FitError.Refused r)) = Err r
    asked (Err (FitError.BadDraw d)) = Ok tt
    asked (Ok t) = Ok tt

    go : (k : Checked) (o : Out Tree) → (tree_ends K k o R).answer ≡ Err (FitError.Refused r) → ((tree_ends K k o R).rooms ≡ R) × (k ≡ Err r)
    go (Ok _) (bad s) h = absurd (subst Unrefused h tt)
    go (Ok _) (ok t) h = absurd (subst Unrefused h tt)
    go (Err q) o h = (refl, ap asked h)

pub tree-bad : TreeBad
unfolding fit_tree tree_ends tree_done
tree-bad C R d h = go (checked (tree_tests waiting_room C R)) (grown_tree C) h
  where
    go : (k : Checked) (o : Out Tree) → (tree_ends waiting_room k o R).answer ≡ Err (FitError.BadDraw d) → TreeZero R (tree_ends waiting_room k o R).rooms
    go (Ok _) (bad s) h = record { nodes = nodes-zero R.nodes; behind = behind-zero R.behind; work = work-zero R.work }
    go (Ok _) (ok t) h = let z : ◌≡◌ {A = ℕ} 0 1 = cc in absurd (omega arith)
    go (Err q) o h = let z : ◌≡◌ {A = ℕ} 0 1 = cc in absurd (omega arith)

-- ---- a forest

pub forest-refused : ForestRefused
unfolding fit_forest forest_ends forest_done
forest-refused W K C R r h = go (checked (forest_tests K C R)) (grown_forest C) h
  where
    asked : ForestAnswer → Checked
    asked (Err (FitError.Refused r)) = Err r
    asked (Err (FitError.BadDraw d)) = Ok tt
    asked (Ok _) = Ok tt

    go : (k : Checked) (f : Forest) → (forest_ends K k f R).answer ≡ Err (FitError.Refused r) → ((forest_ends K k f R).rooms ≡ R) × (k ≡ Err r)
    go (Ok _) (stopped d) h = absurd (subst ForestUnrefused h tt)
    go (Ok _) (grown_all ts) h = absurd (subst ForestUnrefused h tt)
    go (Err q) f h = (refl, ap asked h)

pub forest-bad : ForestBad
unfolding fit_forest forest_ends forest_done
forest-bad C R d h = go (checked (forest_tests waiting_room C R)) (grown_forest C) h
  where
    go : (k : Checked) (f : Forest) → (forest_ends waiting_room k f R).answer ≡ Err (FitError.BadDraw d) → ForestZero R (forest_ends waiting_room k f R).rooms
    go (Ok _) (stopped e) h =
        record {
          nodes = nodes-zero R.nodes;
          behind = behind-zero R.behind;
          starts = all-filled 0 R.starts;
          reports = reports-zero R.reports;
          work = work-zero R.work;
        }
    go (Ok _) (grown_all ts) h = let z : ◌≡◌ {A = ℕ} 0 1 = cc in absurd (omega arith)
    go (Err q) f h = let z : ◌≡◌ {A = ℕ} 0 1 = cc in absurd (omega arith)

-- ---- a reader, and a check

failed : (ts : List Test) (k : ℕ) → first_failed ts ≡ suc k → By ts (Err (suc k))
failed ts k q = (q, omega arith)

pub check-refused : CheckRefused
unfolding check_listings check_tree check_forest read_node node_read out_of_bag_error errs replies model_size sized
check-refused =
    record {
      listings = λ S xs ls. refl;
      tree_table = λ features c. plain (tree_table_tests features c) _ refl;
      forest_table = λ features T. plain (forest_table_tests features T) _ refl;
      node = λ features c k. node (tree_table_tests features c) _ refl c k;
      error = λ rows ys ms. error (error_tests rows ys ms) _ refl _;
      size = λ features T. size (forest_table_tests features T) _ refl _;
    }
  where
    plain : (ts : List Test) (k : ℕ) → first_failed ts ≡ k → By ts (replies k)
    plain ts zero q = q
    plain ts (suc k) q = failed ts k q

    error : (ts : List Test) (k : ℕ) → first_failed ts ≡ k → (f : Figure) → ErrorBy ts (errs k f)
    error ts zero q f = q
    error ts (suc k) q f = (q, omega arith)

    size : (ts : List Test) (k : ℕ) → first_failed ts ≡ k → (n : ℕ) → SizeBy ts (sized k n)
    size ts zero q n = q
    size ts (suc k) q n = (q, omega arith)

    node : (ts : List Test) (n : ℕ) → first_failed ts ≡ n → (c : Columns) (k : ℕ) → NodeBy ts (node_read n c k)
    node ts (suc n) q c k = (q, omega arith)
    node ts zero q c k = there (ltb k (shortest c))
      where
        there : (b : Bool) → NodeBy ts (cond b (Ok (Some (node_of (entry_at c k)))) (Ok None))
        there true = q
        there false = q

pub reader-refused : ReaderRefused
unfolding predict_tree forest_means out_of_bag_means tree_importances forest_importances reads write_model wrote
reader-refused =
    record {
      predictions = λ S xs c out. go (predict_tests S xs c out) _ refl _ out;
      means = λ S xs T out. go (mean_tests S xs T out) _ refl _ out;
      out_of_bag = λ S xs ks T out. go (out_tests S xs ks T out) _ refl _ out;
      tree_importances = λ features by c out. go (tree_importance_tests features c out) _ refl _ out;
      forest_importances = λ features T out. go (forest_importance_tests features T out) _ refl _ out;
      model = λ features T out. file (write_tests features T out) _ refl _ out;
    }
  where
    go : (ts : List Test) (k : ℕ) → first_failed ts ≡ k → (new old : List Float) → Untouched ts old (reads k new old)
    go ts zero q new old = (q, (λ n h. let z : ◌≡◌ {A = ℕ} 0 1 = cc in absurd (omega arith)))
    go ts (suc k) q new old = (failed ts k q, (λ n h. refl))

    file : (ts : List Test) (k : ℕ) → first_failed ts ≡ k → (new old : List ℕ)
        → SizeBy ts (wrote k new old).answer × ((n : ℕ) → (wrote k new old).answer ≡ Err n → (wrote k new old).rooms ≡ old)
    file ts zero q new old = (q, (λ n h. let z : ◌≡◌ {A = ℕ} 0 1 = cc in absurd (omega arith)))
    file ts (suc k) q new old = ((q, omega arith), (λ n h. refl))

-- ---- where a fit is not refused, no test fails

pub tree-passes : {W : Type 0} (K : WaitingForm W) (C : TreeCall) (R : TreeRooms W) → Unrefused (fit_tree K C R).answer → checked (tree_tests K C R) ≡ Ok tt
unfolding fit_tree tree_ends
tree-passes K C R h = go (checked (tree_tests K C R)) refl h
  where
    go : (k : Checked) → checked (tree_tests K C R) ≡ k → Unrefused (tree_ends K k (grown_tree C) R).answer → checked (tree_tests K C R) ≡ Ok tt
    go (Ok _) q h = q
    go (Err r) q h = absurd h

pub forest-passes : {W : Type 0} (K : WaitingForm W) (C : ForestCall) (R : ForestRooms W) → ForestUnrefused (fit_forest K C R).answer → checked (forest_tests K C R) ≡ Ok tt
unfolding fit_forest forest_ends
forest-passes K C R h = go (checked (forest_tests K C R)) refl h
  where
    go : (k : Checked) → checked (forest_tests K C R) ≡ k → ForestUnrefused (forest_ends K k (grown_forest C) R).answer → checked (forest_tests K C R) ≡ Ok tt
    go (Ok _) q h = q
    go (Err r) q h = absurd h
