-- The rooms of a growth, and what they stand for: the waiting list is read off the two lists of arrays and the work columns; a node column is the nodes' field, then what it held.
-- Definitions only. Assumes nothing.
use Rattle.std.specs.Prelude.{ℕ, zero, suc, ◌+◌, ◌*◌, ◌<◌, ◌≤◌, ◌≡◌, List, [], ◌∷◌, ◌++◌, map, length, Float, Some, None, Result, Ok, Err}
use Rattle.rules.specs.declared.Params.{Params}
use Rattle.rules.specs.declared.Cut.{Cut}
use Rattle.rules.specs.declared.Input.{Input}
use Rattle.rules.specs.declared.Shape.{Shape}
use Rattle.rules.specs.Results.{Held}
use Rattle.rules.specs.Words.{keep}
use Rattle.rules.specs.Search.{NodeRows, tally, search, found}
use Rattle.rules.specs.Growth.{Waiting, joins, searchable, search_if}
use Rattle.rules.specs.Draws.{Out, bad, ok, bind, Tapes, tape}
use Rattle.rules.specs.Totals.{score}
use Rattle.lemmas.specs.Lists.{Every}
use Rattle.lemmas.specs.Cuts.{Ripe}
use Rattle.lemmas.specs.Work.{part}
use Rattle.work_columns.specs.declared.Sides.{Sides}
use Rattle.work_columns.specs.Split.{goes}
use Rattle.criterion.specs.declared.Side.{Side}
use Rattle.candidates.specs.declared.Candidate.{Candidate}
use Rattle.search.specs.declared.Drawn.{Drawn}
use Rattle.search.specs.Flat.{Search, Tables, tables_of, Shaped, NodeAsks, element_of, node_rows_at, draws_at, Fair, meant, FairAfter}
use Rattle.node_entries.specs.declared.WaitingNode.{WaitingNode}
use Rattle.node_entries.specs.Entries.{NodeRoom, waiting_at, wrote_split}
use Rattle.node_growth.specs.declared.Stand.{Stand}
use Rattle.node_growth.specs.declared.BadSearch.{BadSearch}
use Rattle.node_growth.specs.declared.Stretch.{Stretch}

-- what a waiting node's rows are read off
pub record Ground : Type 0 where
  pub rows : ℕ
  pub features : ℕ
  pub tables : Tables
  pub order : List ℕ

-- from slices
abbrev pub ground_of : ℕ → ℕ → List Float → List Float → List Float → List ℕ → List ℕ → Ground
ground_of rows features values targets weights counts order =
    record { rows = rows; features = features; tables = tables_of values targets weights counts; order = order }

-- from what is lent
abbrev pub ground_in : Shape → Input → List ℕ → Ground
ground_in shape d order = ground_of shape.rows shape.features d.values.now d.targets.now d.weights.now d.counts.now order

-- the rows of the first n places of every column
abbrev pub BelowTo : Ground → ℕ → Type 0
BelowTo g n = (k : ℕ) → k < g.features → Every (λ r. r < g.rows) (part g.rows k 0 n g.order)

-- the rows of a waiting node in its split column, and their count
abbrev pub split_rows : Ground → WaitingNode → List ℕ
split_rows g e = part g.rows e.feature e.start e.end g.order

-- the sum of the counts of these rows
abbrev pub count_of : Ground → List ℕ → ℕ
count_of g l = tally (map (element_of g.features g.tables) l)

-- a waiting node's totals and count
abbrev pub asked_of : Ground → WaitingNode → Side
asked_of g e = record { totals = record { sum = e.sum; mass = e.mass }; count = count_of g (split_rows g e) }

-- its cut
abbrev pub cut_of : WaitingNode → Cut
cut_of e = record { feature = e.feature; threshold = e.cut }

-- a stretch of the columns as a node's rows
abbrev pub node_rows : Ground → ℕ → ℕ → Side → NodeRows
node_rows g a e q = node_rows_at g.rows g.features a e g.tables g.order q

-- a waiting node as the rules have it
abbrev pub waiting_of : Ground → WaitingNode → Waiting
waiting_of g e = record { number = e.node; level = e.level; node = node_rows g e.start e.end (asked_of g e); cut = cut_of e }

-- the waiting list, its top first
abbrev pub waiting_list : Ground → List (List ℕ) → List (List Float) → ℕ → List Waiting
waiting_list g wholes reals zero = []
waiting_list g wholes reals (suc m) = waiting_of g (waiting_at wholes reals m) ∷ waiting_list g wholes reals m

-- as many of these rows go true, by the cut c
abbrev pub truly : Ground → Cut → List ℕ → ℕ
truly g c l = length (keep (goes (element_of g.features g.tables) c) l)

-- what a waiting node's entry says of its split column: how many rows go true. And their count is one that the code can add up
pub record Sized (g : Ground) (e : WaitingNode) : Type 0 where
  pub rows : e.rows ≡ truly g (cut_of e) (split_rows g e)
  pub small : count_of g (split_rows g e) < 4294967296

-- the stretches lie one after another, the top one last, and entry m starts at m or later
abbrev pub Laid : Ground → List (List ℕ) → List (List Float) → ℕ → ℕ → Type 0
Laid g wholes reals high zero = Unit {0}
Laid g wholes reals high (suc m) =
    (m ≤ (waiting_at wholes reals m).start) × ((waiting_at wholes reals m).start ≤ (waiting_at wholes reals m).end) × ((waiting_at wholes reals m).end ≤ high)
    × Laid g wholes reals (waiting_at wholes reals m).start m × Sized g (waiting_at wholes reals m)

-- ---- a split

-- by the sides that its split pass gave
abbrev pub wrote_sides : WaitingNode → Sides → ℕ → NodeRoom → NodeRoom
wrote_sides w h n c = wrote_split w h.trueside h.falseside (score h.trueside.totals h.falseside.totals h.all.mass) n c

-- ---- what a child's search leaves

-- how searches end: how it stands, or the bad draw
abbrev pub Step : Type 0
Step = Result Stand BadSearch

-- as the definition answers
abbrev pub meant_step : Ground → List ℕ → List Float → List (List ℕ) → List (List Float) → Step → Out (List Waiting × Tapes)
meant_step g W M wholes reals (Err b) = bad b.search
meant_step g W M wholes reals (Ok s) = ok (waiting_list g wholes reals s.waiting, draws_at W M s.drawn)

-- where it goes on, the stretches lie one after another
abbrev pub LaidStep : Ground → List (List ℕ) → List (List Float) → ℕ → Step → Type 0
LaidStep g wholes reals high (Err b) = Unit {0}
LaidStep g wholes reals high (Ok s) = Laid g wholes reals high s.waiting

-- where it goes on, at most n wait
abbrev pub MostStep : ℕ → Step → Type 0
MostStep n (Err b) = Unit {0}
MostStep n (Ok s) = s.waiting ≤ n

-- where it goes on, the tapes are used within their length
abbrev pub FairStep : List ℕ → Step → Type 0
FairStep W (Err b) = Unit {0}
FairStep W (Ok s) = Fair W s.drawn

-- the cut that was found, with its rows: they are no more than e
abbrev pub RowsUnder : ℕ → Held → ℕ → Type 0
RowsUnder e None n = Unit {0}
RowsUnder e (Some (c, p)) n = n ≤ e

-- in the column of the cut, they are those that go true, and all have the node's count
abbrev pub HeldIn : Ground → ℕ → ℕ → Side → Held → ℕ → Type 0
HeldIn g a e q None n = Unit {0}
HeldIn g a e q (Some (c, p)) n = (q.count ≡ count_of g (part g.rows c.feature a e g.order)) × (n ≡ truly g c (part g.rows c.feature a e g.order))

-- of what a search answered: its rows are no more than e
abbrev pub RowsTo : ℕ → Search → Type 0
RowsTo e (Err b) = Unit {0}
RowsTo e (Ok (h, d)) = RowsUnder e h.held h.rows

-- and they are those that go true
abbrev pub FoundIn : Ground → ℕ → ℕ → Side → Search → Type 0
FoundIn g a e q (Err b) = Unit {0}
FoundIn g a e q (Ok (h, d)) = HeldIn g a e q h.held h.rows

-- what the search of c held is at the top of the list, or nothing was held
pub record HeldDone (wholes : List (List ℕ)) (reals : List (List Float)) (wholes' : List (List ℕ)) (reals' : List (List Float)) (n : ℕ) (c : Stretch) (h : Candidate) (d : Drawn)
    (s : Stand) : Type 0 where
  pub same : (g : Ground) → HeldIn g c.from c.to c.side h.held h.rows
      → joins c.node c.level (node_rows g c.from c.to c.side) (found h.held) ++ waiting_list g wholes reals n ≡ waiting_list g wholes' reals' s.waiting
  pub laid : (g : Ground) (low : ℕ) → HeldIn g c.from c.to c.side h.held h.rows → Laid g wholes reals low n → n ≤ c.from → low ≤ c.from → c.from ≤ c.to → Laid g wholes' reals' c.to s.waiting
  pub most : s.waiting ≤ n + 1
  pub drawn : s.drawn ≡ d

-- the same of what it answered, a bad draw too, where d is how far the tapes were used before it
pub record PushDone (wholes : List (List ℕ)) (reals : List (List Float)) (wholes' : List (List ℕ)) (reals' : List (List Float)) (n : ℕ) (c : Stretch) (d : Drawn) (r : Search)
    (s : Step) : Type 0 where
  pub same : (g : Ground) (W : List ℕ) (M : List Float) → FoundIn g c.from c.to c.side r
      → bind (meant W M d r) (λ o. ok (joins c.node c.level (node_rows g c.from c.to c.side) o.0 ++ waiting_list g wholes reals n, o.1)) ≡ meant_step g W M wholes' reals' s
  pub laid : (g : Ground) (low : ℕ) → FoundIn g c.from c.to c.side r → Laid g wholes reals low n → n ≤ c.from → low ≤ c.from → c.from ≤ c.to → LaidStep g wholes' reals' c.to s
  pub most : MostStep (n + 1) s
  pub fair : (W : List ℕ) → FairAfter W r → FairStep W s

-- what the search of a child asks
pub record ChildAsks (g : Ground) (P : Params) (W : List ℕ) (c : Stretch) (s : Stand) (room_wholes room_reals : ℕ) : Type 0 where
  pub node : NodeAsks g.rows g.features c.from c.to g.tables g.order c.side.count
  pub same : g.features ≡ P.features
  pub few : g.features ≤ 1024
  pub some : 0 < g.features
  pub fair : Fair W s.drawn
  pub wholes : s.waiting < room_wholes
  pub reals : s.waiting < room_reals

-- what it leaves
pub record ChildDone (g : Ground) (P : Params) (W : List ℕ) (M : List Float) (wholes : List (List ℕ)) (reals : List (List Float)) (wholes' : List (List ℕ)) (reals' : List (List Float))
    (c : Stretch) (s : Stand) (r : Step) : Type 0 where
  pub same : bind (search_if P (search (tape P.features) P) (searchable P c.level (node_rows g c.from c.to c.side)) c.node c.level (node_rows g c.from c.to c.side) (draws_at W M s.drawn))
      (λ o. ok (o.0 ++ waiting_list g wholes reals s.waiting, o.1))
      ≡ meant_step g W M wholes' reals' r
  pub laid : (low : ℕ) → Laid g wholes reals low s.waiting → s.waiting ≤ c.from → low ≤ c.from → c.from ≤ c.to → LaidStep g wholes' reals' c.to r
  pub most : MostStep (s.waiting + 1) r
  pub fair : FairStep W r

-- ---- the children of a node that was taken off the waiting list, whose rest is s

-- its rows lie past those of all that wait, and its children's numbers are n and the next
pub record Taken (g : Ground) (P : Params) (W : List ℕ) (scratch flags : ℕ) (wholes : List (List ℕ)) (reals : List (List Float)) (w : WaitingNode) (n : ℕ) (s : Stand) : Type 0 where
  pub shape : Shaped g.rows g.features g.tables
  pub small : g.rows < 4294967296
  pub same : g.features ≡ P.features
  pub few : g.features ≤ 1024
  pub some : 0 < g.features
  pub long : length g.order ≡ g.features * g.rows
  pub ordered : w.start ≤ w.end
  pub high : w.end ≤ g.rows
  pub below : BelowTo g w.end
  pub scratch-room : g.rows ≤ scratch
  pub flag-room : g.rows ≤ flags
  pub whole_room : g.rows ≤ length wholes
  pub real-room : g.rows ≤ length reals
  pub place : s.waiting ≤ w.start
  pub laid : Laid g wholes reals w.start s.waiting
  pub sized : Sized g w
  pub ripe : Ripe P (waiting_of g w)
  pub level : w.level + 1 < 4294967296
  pub number : n + 2 < 4294967296
  pub fair : Fair W s.drawn
