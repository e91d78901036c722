-- One outcome: of each public call, any two outcomes that its definition allows are equal, on every input. What a call leaves is the value of one total function
-- of its inputs and lent rooms: its answer and, where it writes, the rooms after. So it is of each exported call, whose contract speaks of what its plain numbers
-- say: no two structs of numbers say the same, so these too are decided, with the rooms. Assumes nothing.
use Rattle.std.specs.Prelude.{ℕ, ◌≡◌, Bool, List, Float}
use Rattle.std.proofs.Common.{sym, ◌∙◌}
use Rattle.rules.specs.declared.Shape.{Shape}
use Rattle.rules.specs.declared.Scale.{Scale}
use Rattle.rules.specs.Results.{TreeAnswer, ForestAnswer, Reply, ErrorReply, NodeReply, SizeReply, ModelReply, Checked}
use Rattle.rules.specs.declared.TreeSettings.{TreeSettings}
use Rattle.rules.specs.declared.ForestSettings.{ForestSettings}
use Rattle.rules.specs.declared.TreeTold.{TreeTold}
use Rattle.rules.specs.declared.Refusal.{Refusal}
use Rattle.rules.specs.declared.ErrorTold.{ErrorTold}
use Rattle.rules.specs.declared.NodeTold.{NodeTold}
use Rattle.rules.specs.declared.SizeTold.{SizeTold}
use Rattle.rules.specs.declared.ModelTold.{ModelTold}
use Rattle.rules.specs.Lent.{Given, Columns, WaitingForm, TreeRooms, ForestRooms, Outcome, WaitingRoom, waiting_room}
use Rattle.rules.specs.Listing.{check_listings}
use Rattle.rules.specs.Fit.{TreeCall, tree_call, fit_tree}
use Rattle.rules.specs.Table.{check_tree, ForestTable, table_of, check_forest, read_node}
use Rattle.rules.specs.Reading.{predict_tree, forest_means, tree_importances, forest_importances}
use Rattle.rules.specs.Forest.{ForestCall, forest_call, fit_forest}
use Rattle.rules.specs.OutOfBag.{out_of_bag_means, out_of_bag_error}
use Rattle.rules.specs.Model.{model_size, write_model, TableRooms, read_model}
use Rattle.rules.specs.Answers.{tree_told, forest_told, check_told, reply_told, error_told, node_told, size_told, model_told, told}
use Rattle.rules.specs.Plain.{tree_settings_of, forest_settings_of, tried_from, scale_of, tree_numbers, error_numbers, node_numbers}

module _ {W : Type 0} (K : WaitingForm W) where
  -- every public call, with its inputs and the rooms lent to it
  pub data PublicCall : Type 0 where
    fits-tree : TreeCall → TreeRooms W → PublicCall
    fits-forest : ForestCall → ForestRooms W → PublicCall
    predicts : Shape → List Float → Columns → List Float → PublicCall
    means : Shape → List Float → ForestTable → List Float → PublicCall
    out-of-bag : Shape → List Float → List ℕ → ForestTable → List Float → PublicCall
    errs-by : ℕ → List Float → List Float → PublicCall
    tree-weighs : ℕ → Scale → Columns → List Float → PublicCall
    forest-weighs : ℕ → ForestTable → List Float → PublicCall
    checks-listings : Shape → List Float → List ℕ → PublicCall
    checks-tree : ℕ → Columns → PublicCall
    checks-forest : ℕ → ForestTable → PublicCall
    reads-node : ℕ → Columns → ℕ → PublicCall
    sizes-model : ℕ → ForestTable → PublicCall
    writes-model : ℕ → ForestTable → List ℕ → PublicCall
    reads-model : List ℕ → TableRooms → PublicCall

  -- what a call leaves, of which kind and which
  abbrev pub Left : PublicCall → Type 0
  Left (fits-tree C R) = Outcome TreeAnswer (TreeRooms W)
  Left (fits-forest C R) = Outcome ForestAnswer (ForestRooms W)
  Left (predicts S xs c out) = Outcome Reply (List Float)
  Left (means S xs T out) = Outcome Reply (List Float)
  Left (out-of-bag S xs counts T out) = Outcome Reply (List Float)
  Left (errs-by rows ys ms) = ErrorReply
  Left (tree-weighs features by c out) = Outcome Reply (List Float)
  Left (forest-weighs features T out) = Outcome Reply (List Float)
  Left (checks-listings S xs ls) = Checked
  Left (checks-tree features c) = Reply
  Left (checks-forest features T) = Reply
  Left (reads-node features c k) = NodeReply
  Left (sizes-model features T) = SizeReply
  Left (writes-model features T out) = Outcome SizeReply (List ℕ)
  Left (reads-model bs R) = Outcome ModelReply TableRooms

  abbrev pub leaves : (c : PublicCall) → Left c
  leaves (fits-tree C R) = fit_tree K C R
  leaves (fits-forest C R) = fit_forest K C R
  leaves (predicts S xs c out) = predict_tree S xs c out
  leaves (means S xs T out) = forest_means S xs T out
  leaves (out-of-bag S xs counts T out) = out_of_bag_means S xs counts T out
  leaves (errs-by rows ys ms) = out_of_bag_error rows ys ms
  leaves (tree-weighs features by c out) = tree_importances features by c out
  leaves (forest-weighs features T out) = forest_importances features T out
  leaves (checks-listings S xs ls) = check_listings S xs ls
  leaves (checks-tree features c) = check_tree features c
  leaves (checks-forest features T) = check_forest features T
  leaves (reads-node features c k) = read_node features c k
  leaves (sizes-model features T) = model_size features T
  leaves (writes-model features T out) = write_model features T out
  leaves (reads-model bs R) = read_model bs R

  -- a contract allows what is equal to the definition's value
  abbrev pub Allowed : (c : PublicCall) → Left c → Type 0
  Allowed c o = o ≡ leaves c

  pub one-outcome : (c : PublicCall) (x y : Left c) → Allowed c x → Allowed c y → x ≡ y
  one-outcome c x y h k = h ∙ sym k

-- ---- the exported calls, each by its own name: plain numbers in and out, a record of lists for slices that go together

pub data Exported : Type 0 where
  fit-tree : (rows features : ℕ) → TreeSettings → Given → List ℕ → List Float → TreeRooms WaitingRoom → Exported
  fit-forest : (rows features trees : ℕ) → ForestSettings → Given → List ℕ → List Float → List ℕ → List ℕ → ForestRooms WaitingRoom → Exported
  predict-tree : (rows features : ℕ) → List Float → Columns → List Float → Exported
  forest-means : (rows features trees : ℕ) → List Float → List ℕ → Columns → List Float → Exported
  out-of-bag-means : (rows features trees : ℕ) → List Float → List ℕ → List ℕ → Columns → List Float → Exported
  out-of-bag-error : (rows : ℕ) → List Float → List Float → Exported
  tree-importances : (features : ℕ) → Bool → Float → Columns → List Float → Exported
  forest-importances : (features trees : ℕ) → List ℕ → Columns → List Float → Exported
  check-listings : (rows features : ℕ) → List Float → List ℕ → Exported
  check-tree : (features : ℕ) → Columns → Exported
  check-forest : (features trees : ℕ) → List ℕ → Columns → Exported
  read-node : (features : ℕ) → Columns → ℕ → Exported
  model-size : (features trees : ℕ) → List ℕ → Columns → Exported
  write-model : (features trees : ℕ) → List ℕ → Columns → List ℕ → Exported
  read-model : List ℕ → TableRooms → Exported

-- what crosses back
abbrev pub Back : Exported → Type 0
Back (fit-tree rows features s given ws ts R) = Outcome TreeTold (TreeRooms WaitingRoom)
Back (fit-forest rows features trees s given ws ts wcs tcs R) = Outcome Refusal (ForestRooms WaitingRoom)
Back (predict-tree rows features xs c out) = Outcome ℕ (List Float)
Back (forest-means rows features trees xs starts c out) = Outcome ℕ (List Float)
Back (out-of-bag-means rows features trees xs counts starts c out) = Outcome ℕ (List Float)
Back (out-of-bag-error rows ys ms) = ErrorTold
Back (tree-importances features massed mass c out) = Outcome ℕ (List Float)
Back (forest-importances features trees starts c out) = Outcome ℕ (List Float)
Back (check-listings rows features xs ls) = Refusal
Back (check-tree features c) = ℕ
Back (check-forest features trees starts c) = ℕ
Back (read-node features c k) = NodeTold
Back (model-size features trees starts c) = SizeTold
Back (write-model features trees starts c out) = Outcome SizeTold (List ℕ)
Back (read-model bs R) = Outcome ModelTold TableRooms

abbrev shape_of : ℕ → ℕ → Shape
shape_of rows features = record { rows = rows; features = features }

-- what its contract says of it, written again: that the two are one is read, not proved
abbrev pub Promised : (c : Exported) → Back c → Type 0
Promised (fit-tree rows features s given ws ts R) b =
    told tree_numbers b ≡ told tree_told (fit_tree waiting_room (tree_call (shape_of rows features) (tree_settings_of s) s.tried given ws ts) R)
Promised (fit-forest rows features trees s given ws ts wcs tcs R) b =
    b ≡ told forest_told (fit_forest waiting_room (forest_call (shape_of rows features) trees (forest_settings_of s) (tried_from s.said s.tried) given ws ts wcs tcs) R)
Promised (predict-tree rows features xs c out) b = b ≡ told reply_told (predict_tree (shape_of rows features) xs c out)
Promised (forest-means rows features trees xs starts c out) b = b ≡ told reply_told (forest_means (shape_of rows features) xs (table_of trees starts c) out)
Promised (out-of-bag-means rows features trees xs counts starts c out) b =
    b ≡ told reply_told (out_of_bag_means (shape_of rows features) xs counts (table_of trees starts c) out)
Promised (out-of-bag-error rows ys ms) b = error_numbers b ≡ error_told (out_of_bag_error rows ys ms)
Promised (tree-importances features massed mass c out) b = b ≡ told reply_told (tree_importances features (scale_of massed mass) c out)
Promised (forest-importances features trees starts c out) b = b ≡ told reply_told (forest_importances features (table_of trees starts c) out)
Promised (check-listings rows features xs ls) b = b ≡ check_told (check_listings (shape_of rows features) xs ls)
Promised (check-tree features c) b = b ≡ reply_told (check_tree features c)
Promised (check-forest features trees starts c) b = b ≡ reply_told (check_forest features (table_of trees starts c))
Promised (read-node features c k) b = node_numbers b ≡ node_told (read_node features c k)
Promised (model-size features trees starts c) b = b ≡ size_told (model_size features (table_of trees starts c))
Promised (write-model features trees starts c out) b = b ≡ told size_told (write_model features (table_of trees starts c) out)
Promised (read-model bs R) b = b ≡ told model_told (read_model bs R)

-- ---- numbers that say the same are the same

pub tree-numbers : (a b : TreeTold) → tree_numbers a ≡ tree_numbers b → a ≡ b
tree-numbers a b h =
    λ i.
    record {
      number = (h i).refusal.number;
      part = (h i).refusal.part;
      place = (h i).refusal.place;
      row = (h i).refusal.row;
      nodes = (h i).report.nodes;
      depth = (h i).report.depth;
      mass = (h i).report.mass;
      searches = (h i).report.searches;
      words = (h i).report.words;
      thresholds = (h i).report.thresholds;
    }

pub error-numbers : (a b : ErrorTold) → error_numbers a ≡ error_numbers b → a ≡ b
error-numbers a b h = λ i. record { number = (h i).number; error = (h i).error; rows = (h i).rows }

pub node-numbers : (a b : NodeTold) → node_numbers a ≡ node_numbers b → a ≡ b
node-numbers a b h =
    λ i.
    record {
      number = (h i).number;
      there = (h i).there;
      value = (h i).entry.value;
      feature = (h i).entry.feature;
      threshold = (h i).entry.threshold;
      score = (h i).entry.score;
      truechild = (h i).entry.true_child;
      falsechild = (h i).entry.false_child;
    }

-- so are outcomes
told_same : {A B R : Type 0} (f : A → B) → ((a b : A) → f a ≡ f b → a ≡ b) → (x y : Outcome A R) → told f x ≡ told f y → x ≡ y
told_same f same x y h = λ i. record { answer = same x.answer y.answer (λ k. (h k).answer) i; rooms = (h i).rooms }

pub one-outcome-exported : (c : Exported) (x y : Back c) → Promised c x → Promised c y → x ≡ y
one-outcome-exported (fit-tree rows features s given ws ts R) x y h k = told_same tree_numbers tree-numbers x y (h ∙ sym k)
one-outcome-exported (fit-forest rows features trees s given ws ts wcs tcs R) x y h k = h ∙ sym k
one-outcome-exported (predict-tree rows features xs c out) x y h k = h ∙ sym k
one-outcome-exported (forest-means rows features trees xs starts c out) x y h k = h ∙ sym k
one-outcome-exported (out-of-bag-means rows features trees xs counts starts c out) x y h k = h ∙ sym k
one-outcome-exported (out-of-bag-error rows ys ms) x y h k = error-numbers x y (h ∙ sym k)
one-outcome-exported (tree-importances features massed mass c out) x y h k = h ∙ sym k
one-outcome-exported (forest-importances features trees starts c out) x y h k = h ∙ sym k
one-outcome-exported (check-listings rows features xs ls) x y h k = h ∙ sym k
one-outcome-exported (check-tree features c) x y h k = h ∙ sym k
one-outcome-exported (check-forest features trees starts c) x y h k = h ∙ sym k
one-outcome-exported (read-node features c k') x y h k = node-numbers x y (h ∙ sym k)
one-outcome-exported (model-size features trees starts c) x y h k = h ∙ sym k
one-outcome-exported (write-model features trees starts c out) x y h k = h ∙ sym k
one-outcome-exported (read-model bs R) x y h k = h ∙ sym k
