-- The flat tables that the code is lent, and the elements that their rows stand for. Assumes nothing.
use Rattle.std.specs.Prelude.{ℕ, zero, suc, ◌+◌, ◌-◌, ◌*◌, ◌<◌, ◌≤◌, ◌≡◌, refl, ◌⊎◌, Bool, true, false, not, ◌||◌, cond, List, [], map, length, get_or, drop, ltb, Float, Some, None, Result, Ok, Err}
use Rattle.std.specs.Float.{nan}
use Rattle.std.specs.Float.Ieee.{binary64, fits, le, eq}
use Rattle.std.proofs.Math.Dec.{T}
use Rattle.rules.specs.declared.Params.{Params}
use Rattle.rules.specs.declared.Height.{Height}
use Rattle.rules.specs.declared.Cut.{Cut}
use Rattle.rules.specs.declared.Input.{Input}
use Rattle.rules.specs.Results.{Held}
use Rattle.rules.specs.declared.Sweep.{Sweep}
use Rattle.rules.specs.Search.{Element, Column, NodeRows, at, candidate_at, step, tally, true_side, Tries, drawn, search, Found, found}
use Rattle.rules.specs.Totals.{take_in}
use Rattle.rules.specs.Threshold.{threshold_between}
use Rattle.rules.specs.Draws.{Out, bad, ok, bind, Tapes, next_threshold, tape}
use Rattle.rules.specs.Lent.{cell}
use Rattle.rules.specs.Fit.{element_in}
use Rattle.lemmas.specs.Lists.{Every}
use Rattle.lemmas.specs.Values.{Value}
use Rattle.lemmas.specs.Heights.{Rising}
use Rattle.lemmas.specs.Work.{part, columns_at}
use Rattle.criterion.specs.declared.Side.{Side}
use Rattle.criterion.specs.Sides.{side_on, joined}
use Rattle.candidates.specs.declared.Spot.{Spot}
use Rattle.candidates.specs.declared.Candidate.{Candidate}
use Rattle.candidates.specs.Held.{bare, held_of}
use Rattle.search.specs.declared.column.Cell.{Cell}
use Rattle.search.specs.declared.best.Run.{Run}
use Rattle.search.specs.declared.random.TrueSide.{TrueSide}
use Rattle.search.specs.declared.Drawn.{Drawn}
use Rattle.search.specs.declared.BadDraw.{BadDraw}

-- values lie row after row; no weights at all is an empty list
pub record Tables : Type 0 where
  pub values : List Float
  pub targets : List Float
  pub weights : List Float
  pub counts : List ℕ

-- from slices
abbrev pub tables_of : List Float → List Float → List Float → List ℕ → Tables
tables_of values targets weights counts = record { values = values; targets = targets; weights = weights; counts = counts }

-- of what a fit is lent
abbrev pub tables_in : Input → Tables
tables_in d = tables_of d.values.now d.targets.now d.weights.now d.counts.now

-- what trying a feature leaves: the best so far, and how many thresholds were taken from the tape
abbrev pub Attempt : Type 0
Attempt = Result (Candidate × ℕ) BadDraw

-- a search's answer: the candidate held, if any, and how far the tapes are used after it
abbrev pub Search : Type 0
Search = Result (Candidate × Drawn) BadDraw

-- the tables are as long as rows and features say; weights are none or one a row
pub record Shaped (rows features : ℕ) (t : Tables) : Type 0 where
  pub wide : length t.values ≡ rows * features
  pub targets : length t.targets ≡ rows
  pub counted : length t.counts ≡ rows
  pub weighed : 0 < length t.weights → length t.weights ≡ rows

-- row i as growth sees it
abbrev pub element_of : ℕ → Tables → ℕ → Element
element_of f t i = element_in f t.values t.targets t.weights t.counts i

-- what a sweep along feature j learns of a row
unfoldable pub cell_of : ℕ → Element → Cell
cell_of j e = record { count = e.count; mass = e.mass; target = e.target; value = at j e }

-- each number of l is below n
abbrev pub Below : ℕ → List ℕ → Type 0
Below n l = (k : ℕ) → k < length l → get_or l k 0 < n

-- each entry has 64 bits
abbrev pub Floats : List Float → Type 0
Floats l = (k : ℕ) → T (fits binary64 (get_or l k nan))

-- a turn of the sweep, over what it learns of a row
unfoldable pub step_in : Params → Side → ℕ → Sweep → Cell → Sweep
step_in P a j w e =
    record {
      before = take_in w.before e.target e.mass;
      count = w.count + e.count;
      last = cond (eq e.value w.last) w.last e.value;
      best = candidate_at (not (eq e.value w.last)) P (bare a) j e.value w;
    }

pub step-cell : (P : Params) (a : Side) (j : ℕ) (w : Sweep) (e : Element) → step_in P a j w (cell_of j e) ≡ step P (bare a) j w e
unfolding step_in step cell_of
step-cell P a j w e = refl

-- either side of a cut would be below the least leaf
unfoldable pub too_few : Params → Side → ℕ → Bool
too_few P a k = ltb k P.leaf || ltb (a.count - k) P.leaf

-- a cut of feature j between two values
abbrev pub cut_between : Height → ℕ → Float → Float → Cut
cut_between g j low high = record { feature = j; threshold = threshold_between g low high }

-- the sweep that a run stands for, by the cuts at each place
abbrev pub sweep_of : (ℕ → Cut) → Run → Sweep
sweep_of c r = record { before = r.before; count = r.count; last = r.last; best = held_of c r.spot }

-- the value of the run of equals that ends before place i of a column whose rows have the values v
unfoldable pub run_at : (ℕ → Float) → List ℕ → ℕ → Float
run_at v l zero = v (get_or l 0 0)
run_at v l (suc i) = cond (eq (v (get_or l i 0)) (run_at v l i)) (run_at v l i) (v (get_or l i 0))

-- the cuts by their places: an earlier one, then those before each row of the column
unfoldable pub cuts_in : Height → ℕ → List Float → ℕ → List ℕ → Cut → ℕ → Cut
cuts_in g f x j l b zero = b
cuts_in g f x j l b (suc i) = cut_between g j (run_at (cell f x j) l i) (cell f x j (get_or l i 0))

-- after one turn: what is held stays, or a run of equals ended and it is at the place now
abbrev pub Stepped : Run → Cell → ℕ → Run → Type 0
Stepped w e n r = (r.spot ≡ w.spot) ⊎ ((r.spot.held ≡ true) × (r.spot.place ≡ n) × (eq e.value w.last ≡ false))

-- after a column whose rows have the values v: what is held stays, or it is at a place before which a run of equals ended
abbrev pub Stood : (ℕ → Float) → List ℕ → Spot → Spot → Type 0
Stood v l s r = (r ≡ s) ⊎ ((i : ℕ) × (r.held ≡ true) × (r.place ≡ i + 1) × (i < length l) × (eq (v (get_or l i 0)) (run_at v l i) ≡ false))

-- the true side of threshold t, with one row more where that is on it
unfoldable pub side_step : Float → TrueSide → Cell → TrueSide
side_step t s e = cond (le e.value t) (record { side = joined s.side e.target e.mass e.count; rows = s.rows + 1 }) s

-- the true side of a column
abbrev pub true_on : Cut → Column → TrueSide
true_on c es = record { side = side_on (true_side c es); rows = length (true_side c es) }

-- values that a fit accepts, and that never fall
abbrev pub Sorted : ℕ → Column → Type 0
Sorted j es = Every (λ x. Value (at j x)) es × Rising j es

-- ---- the rows of a candidate

-- after feature j was tried along a column: what was held before, or a cut of that feature, with the number of rows that go true
abbrev pub TriedOn : ℕ → Column → Candidate → Candidate → Type 0
TriedOn j es h r =
    (r ≡ h) ⊎ ((t : Float) × (q : Float) × (r ≡ record { held = Some ((record { feature = j; threshold = t }), q); rows = length (true_side (record { feature = j; threshold = t }) es) }))

-- the same where no bad draw was met
abbrev pub TriedBy : ℕ → Column → Candidate → Attempt → Type 0
TriedBy j es h (Err e) = Unit {0}
TriedBy j es h (Ok (r, m)) = TriedOn j es h r

-- of a cut that is held in a node of f features, n rows go true
abbrev pub RowsFor : ℕ → NodeRows → Held → ℕ → Type 0
RowsFor f node None n = Unit {0}
RowsFor f node (Some (c, q)) n = (c.feature < f) × (n ≡ length (true_side c (get_or node.columns c.feature [])))

-- of what a candidate holds, its number of rows go true
abbrev pub RowsOf : ℕ → NodeRows → Candidate → Type 0
RowsOf f node h = RowsFor f node h.held h.rows

-- the same of what trying a feature leaves
abbrev pub RowsTried : ℕ → NodeRows → Attempt → Type 0
RowsTried f node (Err e) = Unit {0}
RowsTried f node (Ok (h, m)) = RowsOf f node h

-- ---- what is left of the tapes
abbrev pub left : List ℕ → List Float → ℕ → ℕ → Tapes
left W M s m = record { words = W; thresholds = drop m M; searches = s }

-- what trying a feature answers, as the definition has it
abbrev pub meant_tries : List ℕ → List Float → ℕ → Attempt → Out (Tries Tapes)
meant_tries W M s (Err e) = bad s
meant_tries W M s (Ok (h, m)) = ok (record { best = h.held; left = left W M s m })

-- a threshold is taken and judged
unfoldable pub draw_at : Params → NodeRows → ℕ → Held → Column → Tapes → Float → Float → Out (Tries Tapes)
draw_at P node j h es d lo hi = bind (next_threshold d.thresholds lo hi d) (λ m. ok (record { best = drawn P node j h es m.0; left = m.1 }))

-- ---- a node in the work columns
abbrev pub node_rows_at : ℕ → ℕ → ℕ → ℕ → Tables → List ℕ → Side → NodeRows
node_rows_at rows features a e t order q = record { columns = columns_at (element_of features t) rows features a e order; totals = q.totals; count = q.count }

-- what the search of a node asks
pub record NodeAsks (rows features a e : ℕ) (t : Tables) (order : List ℕ) (count : ℕ) : Type 0 where
  pub shape : Shaped rows features t
  pub long : length order ≡ features * rows
  pub ordered : a ≤ e
  pub high : e ≤ rows
  pub below : (k : ℕ) → k < features → Below rows (part rows k a e order)
  pub room : (k : ℕ) → k < features → count ≡ tally (map (element_of features t) (part rows k a e order))
  pub sorted : (k : ℕ) → k < features → Sorted k (map (element_of features t) (part rows k a e order))

-- ---- the tapes from where they are used to
abbrev pub draws_at : List ℕ → List Float → Drawn → Tapes
draws_at W M d = record { words = drop d.words W; thresholds = drop d.thresholds M; searches = d.searches }

-- no more words are used than there are, and no fewer than searches were made
abbrev pub Fair : List ℕ → Drawn → Type 0
Fair W d = (d.words ≤ length W) × (d.searches ≤ d.words)

-- the answer of a search that began with d as the definition has it
abbrev pub meant : List ℕ → List Float → Drawn → Search → Out (Found × Tapes)
meant W M d (Err e) = bad d.searches
meant W M d (Ok (h, e)) = ok (found h.held, draws_at W M e)

-- the same after a search that met no bad draw
abbrev pub FairAfter : List ℕ → Search → Type 0
FairAfter W (Err e) = Unit {0}
FairAfter W (Ok (h, d)) = Fair W d

-- of what a search found in a node, its number of rows go true
abbrev pub RowsAfter : ℕ → NodeRows → Search → Type 0
RowsAfter f node (Err e) = Unit {0}
RowsAfter f node (Ok (h, d)) = RowsOf f node h

-- what a search from d on answers: the definition's, and fairly
pub record Searched (P : Params) (W : List ℕ) (M : List Float) (node : NodeRows) (d : Drawn) (r : Search) : Type 0 where
  pub same : meant W M d r ≡ search (tape P.features) P (draws_at W M d) node
  pub fair : FairAfter W r
  pub rows : RowsAfter P.features node r
