-- Each case of each answer as numbers; number 0 is no refusal.
use Rattle.std.specs.Prelude.{ℕ, Bool, true, false, Float, Ok, Err, Some, None}
use Rattle.rules.specs.declared.Report.{Report}
use Rattle.rules.specs.declared.Place.{Place}
use Rattle.rules.specs.declared.Refusal.{Refusal}
use Rattle.rules.specs.Results.{Checked, TreeAnswer, ForestAnswer, Reply, ErrorReply, NodeReply, SizeReply, ModelReply}
use Rattle.rules.specs.declared.SizeTold.{SizeTold}
use Rattle.rules.specs.declared.ModelTold.{ModelTold}
use Rattle.rules.specs.Words.{nought}
use Rattle.rules.specs.Lent.{Entry, Outcome, leaf_entry}
use Rattle.rules.specs.Checks.{numbered}
use Rattle.rules.specs.Fit.{entry_of}
use Rattle.rules.specs.declared.FitError.{FitError}

-- R15.1: what a bad draw tells: as a refusal, its tree and its search
abbrev pub bad_draw : Place → Refusal
bad_draw p = record { number = 7; part = p.tree; place = p.search; row = 0 }

-- R15.1: what the fit of a tree tells: zeros but for one of the two
pub record Told : Type 0 where
  pub refusal : Refusal
  pub report : Report

-- R15.1
abbrev pub no_report : Report
no_report = record { nodes = 0; depth = 0; mass = nought; searches = 0; words = 0; thresholds = 0 }

-- R15.2
abbrev pub tree_told : TreeAnswer → Told
tree_told (Err (FitError.Refused r)) = record { refusal = r; report = no_report }
tree_told (Err (FitError.BadDraw p)) = record { refusal = bad_draw p; report = no_report }
tree_told (Ok t) = record { refusal = numbered 0; report = t }

-- R15.2: a forest's reports stand in its report columns
abbrev pub forest_told : ForestAnswer → Refusal
forest_told (Err (FitError.Refused r)) = r
forest_told (Err (FitError.BadDraw p)) = bad_draw p
forest_told (Ok _) = numbered 0

-- R15.2
abbrev pub check_told : Checked → Refusal
check_told (Ok _) = numbered 0
check_told (Err r) = r

-- R15.3
abbrev pub reply_told : Reply → ℕ
reply_told (Err n) = n
reply_told (Ok _) = 0

-- R15.4
pub record ErrorTold : Type 0 where
  pub number : ℕ
  pub error : Float
  pub rows : ℕ

-- R15.4
abbrev pub error_told : ErrorReply → ErrorTold
error_told (Err n) = record { number = n; error = nought; rows = 0 }
error_told (Ok f) = record { number = 0; error = f.error; rows = f.rows }

-- R15.5: whether the node is there, and its six values
pub record NodeTold : Type 0 where
  pub number : ℕ
  pub there : Bool
  pub entry : Entry

-- R15.5
abbrev pub node_told : NodeReply → NodeTold
node_told (Err n) = record { number = n; there = false; entry = leaf_entry nought }
node_told (Ok None) = record { number = 0; there = false; entry = leaf_entry nought }
node_told (Ok (Some m)) = record { number = 0; there = true; entry = entry_of m.value m.kind }

-- R15.7
abbrev pub size_told : SizeReply → SizeTold
size_told (Err n) = record { number = n; bytes = 0 }
size_told (Ok n) = record { number = 0; bytes = n }

-- R15.8
abbrev pub model_told : ModelReply → ModelTold
model_told (Err m) = record { number = m.number; place = m.place; features = 0; trees = 0; nodes = 0 }
model_told (Ok s) = record { number = 0; place = 0; features = s.features; trees = s.trees; nodes = s.nodes }

-- R15.6: of a call that writes: its answer as it is told, and the rooms
abbrev pub told : {A B R : Type 0} → (A → B) → Outcome A R → Outcome B R
told f o = record { answer = f o.answer; rooms = o.rooms }
