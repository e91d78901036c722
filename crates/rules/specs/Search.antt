-- The search of a node for its cut, under both splitters.
-- Rows become elements before growth (Fit): from there on nothing looks at a row number.
use Rattle.std.specs.Prelude.{ℕ, ◌+◌, ◌-◌, min, Bool, true, false, not, cond, List, [], ◌∷◌, get_or, take, ltb, Float, Some, None}
use Rattle.std.specs.Float.{nan}
use Rattle.std.specs.Float.Ieee.{lt, le, eq}
use Rattle.rules.specs.declared.Totals.{Totals}
use Rattle.rules.specs.declared.Params.{Params}
use Rattle.rules.specs.declared.Splitter.{Splitter}
use Rattle.rules.specs.declared.Splitter.TheVariants.{Best, Random}
use Rattle.rules.specs.declared.Cut.{Cut}
use Rattle.rules.specs.Results.{Held}
use Rattle.rules.specs.declared.Sweep.{Sweep}
use Rattle.rules.specs.Words.{keep, total}
use Rattle.rules.specs.Totals.{empty, take_in, less, proxy}
use Rattle.rules.specs.Threshold.{threshold_between}
use Rattle.rules.specs.Draws.{Out, ok, bind, Source}

-- ---- nodes and their columns

-- R8.1: a row, with all that growth learns of it; its number only tells which one it is
pub record Element : Type 0 where
  pub row : ℕ
  pub count : ℕ
  pub mass : Float
  pub target : Float
  pub values : List Float

-- R8.1
abbrev pub Column : Type 0
Column = List Element

-- R8.1: an element's value of feature j
unfoldable pub at : ℕ → Element → Float
at j e = get_or e.values j nan

-- R8.2
unfoldable pub totals_of : Totals → Column → Totals
totals_of t [] = t
totals_of t (e ∷ es) = totals_of (take_in t e.target e.mass) es

-- R8.2: a node's count is the sum of its rows' counts
abbrev pub tally : Column → ℕ
tally es = total (λ (e : Element). e.count) es

-- R8.3: what a search is asked: the node's columns, one a feature, its totals and its count
pub record NodeRows : Type 0 where
  pub columns : List Column
  pub totals : Totals
  pub count : ℕ

-- ---- the two sides of a cut

-- R8.4
unfoldable pub goes_true : Cut → Element → Bool
goes_true c e = le (at c.feature e) c.threshold

-- R8.5: a side is told by what it makes of that answer
abbrev pub on_true : Bool → Bool
on_true b = b

-- R8.5
abbrev pub on_false : Bool → Bool
on_false b = not b

-- R8.5
abbrev pub side_of : (Bool → Bool) → Cut → Column → Column
side_of b c es = keep (λ e. b (goes_true c e)) es

-- R8.5
abbrev pub true_side : Cut → Column → Column
true_side c es = side_of on_true c es

-- R8.5
abbrev pub false_side : Cut → Column → Column
false_side c es = side_of on_false c es

-- ---- candidates

-- R8.6: c with proxy q, against what is held: a NaN held is never given up
unfoldable pub better : Held → Cut → Float → Held
better None c q = Some (c, q)
better (Some (b, p)) c q = cond (lt p q) (Some (c, q)) (Some (b, p))

-- R8.7: a cut whose true side has totals t and count k: both sides must have the least leaf
unfoldable pub judge : Params → NodeRows → Held → Totals → ℕ → Cut → Held
judge P node h t k c =
    cond (ltb k P.leaf) h (cond (ltb (node.count - k) P.leaf) h (better h c (proxy t (less node.totals t))))

-- ---- the best splitter: a sweep along feature j's column

-- R8.8: x comes next: a candidate stands where it differs from the one before
unfoldable pub candidate_at : Bool → Params → NodeRows → ℕ → Float → Sweep → Held
candidate_at false P node j x w = w.best
candidate_at true P node j x w =
    judge P node w.best w.before w.count (record { feature = j; threshold = threshold_between P.height w.last x })

-- R8.9: a run of equals keeps its first value
unfoldable pub step : Params → NodeRows → ℕ → Sweep → Element → Sweep
step P node j w e =
    record {
      before = take_in w.before e.target e.mass;
      count = w.count + e.count;
      last = cond (eq (at j e) w.last) w.last (at j e);
      best = candidate_at (not (eq (at j e) w.last)) P node j (at j e) w;
    }

-- R8.10
unfoldable pub sweep : Params → NodeRows → ℕ → Sweep → Column → Sweep
sweep P node j w [] = w
sweep P node j w (e ∷ es) = sweep P node j (step P node j w e) es

-- R8.10
unfoldable pub best_in : Params → NodeRows → ℕ → Held → Column → Held
best_in P node j h [] = h
best_in P node j h (e ∷ es) = (sweep P node j (record { before = empty; count = 0; last = at j e; best = h }) (e ∷ es)).best

-- ---- the random splitter: one threshold, judged by the side that it makes

-- R8.11: the last element, which has the highest value
unfoldable pub final : Element → Column → Element
final e [] = e
final e (f ∷ fs) = final f fs

-- R8.12
unfoldable pub drawn : Params → NodeRows → ℕ → Held → Column → Float → Held
drawn P node j h es t =
    let c : Cut = record { feature = j; threshold = t } in
    judge P node h (totals_of empty (true_side c es)) (tally (true_side c es)) c

-- R8.13: the candidate held, and what is left to draw from
pub record Tries (S : Type 0) : Type 0 where
  pub best : Held
  pub left : S

module _ {S : Type 0} (src : Source S) where
  -- R8.13: a threshold is drawn only between two values that differ
  unfoldable pub draw_in : Bool → Params → NodeRows → ℕ → Tries S → Element → Column → Out (Tries S)
  draw_in false P node j r e es = ok r
  draw_in true P node j r e es =
      bind (src.threshold r.left (at j e) (at j (final e es)))
      (λ t. ok (record { best = drawn P node j r.best (e ∷ es) t.0; left = t.1 }))

  -- R8.13
  unfoldable pub random_in : Params → NodeRows → ℕ → Tries S → Column → Out (Tries S)
  random_in P node j r [] = ok r
  random_in P node j r (e ∷ es) = draw_in (lt (at j e) (at j (final e es))) P node j r e es

  -- ---- a search tries the first features of its order

  -- R8.14
  unfoldable pub try_one : Splitter → Params → NodeRows → ℕ → Tries S → Out (Tries S)
  try_one Best P node j r = ok (record { best = best_in P node j r.best (get_or node.columns j []); left = r.left })
  try_one Random P node j r = random_in P node j r (get_or node.columns j [])

  -- R8.14
  unfoldable pub try_all : Params → NodeRows → List ℕ → Tries S → Out (Tries S)
  try_all P node [] r = ok r
  try_all P node (j ∷ js) r = bind (try_one P.splitter P node j r) (λ r'. try_all P node js r')

-- R8.15
pub data Found : Type 0 where
  no_cut : Found
  cut_found : Cut → Found

-- R8.15
abbrev pub found : Held → Found
found None = no_cut
found (Some (c, q)) = cut_found c

-- R8.15
unfoldable pub search : {S : Type 0} → Source S → Params → S → NodeRows → Out (Found × S)
search src P s node =
    bind (src.shuffle s) (λ o.
    bind (try_all src P node (take (min P.tried P.features) o.0) (record { best = None; left = o.1 })) (λ r.
    ok (found r.best, src.done r.left)))
