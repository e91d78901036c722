-- Settings and answers in plain numbers, as they cross over to Rust and C.
use Rattle.std.specs.Prelude.{ℕ, Bool, cond, Float, Some, None, Option}
use Rattle.rules.specs.declared.Splitter.{Splitter}
use Rattle.rules.specs.declared.Height.{Height}
use Rattle.rules.specs.declared.Settings.{Settings}
use Rattle.rules.specs.declared.Scale.{Scale}
use Rattle.rules.specs.declared.TreeSettings.{TreeSettings}
use Rattle.rules.specs.declared.ForestSettings.{ForestSettings}
use Rattle.rules.specs.declared.TreeTold.{TreeTold}
use Rattle.rules.specs.declared.ErrorTold.{ErrorTold}
use Rattle.rules.specs.declared.NodeTold.{NodeTold}
use Rattle.rules.specs.Answers as Answers

-- ---- what is given

-- R16.1
abbrev pub depth_of : Bool → ℕ → Option ℕ
depth_of limited limit = cond limited (Some limit) None

-- R16.1
abbrev pub splitter_of : Bool → Splitter
splitter_of random = cond random Splitter.Random Splitter.Best

-- R16.1
abbrev pub height_of : Bool → Height
height_of lower = cond lower Height.Lower Height.Midpoint

-- R16.1
abbrev pub tried_from : Bool → ℕ → Option ℕ
tried_from said tried = cond said (Some tried) None

-- R16.1
unfoldable pub settings_of : Bool → ℕ → ℕ → ℕ → Bool → Bool → Settings
settings_of limited limit leaf split random lower =
    record { depth = depth_of limited limit; leaf = leaf; split = split; splitter = splitter_of random; height = height_of lower }

-- R16.1
abbrev pub tree_settings_of : TreeSettings → Settings
tree_settings_of s = settings_of s.limited s.limit s.leaf s.split s.random s.lower

-- R16.1
abbrev pub forest_settings_of : ForestSettings → Settings
forest_settings_of s = settings_of s.limited s.limit s.leaf s.split s.random s.lower

-- R16.1
abbrev pub scale_of : Bool → Float → Scale
scale_of massed mass = cond massed (Scale.ByMass mass) Scale.Normalised

-- ---- what is told

-- R16.2
abbrev pub tree_numbers : TreeTold → Answers.Told
tree_numbers t =
    record {
      refusal = record { number = t.number; part = t.part; place = t.place; row = t.row };
      report = record { nodes = t.nodes; depth = t.depth; mass = t.mass; searches = t.searches; words = t.words; thresholds = t.thresholds };
    }

-- R16.2
abbrev pub error_numbers : ErrorTold → Answers.ErrorTold
error_numbers t = record { number = t.number; error = t.error; rows = t.rows }

-- R16.2
abbrev pub node_numbers : NodeTold → Answers.NodeTold
node_numbers t =
    record {
      number = t.number;
      there = t.there;
      entry = record { value = t.value; feature = t.feature; threshold = t.threshold; score = t.score; true_child = t.truechild; false_child = t.falsechild };
    }
