-- Two nodes that lie side by side and are still to be searched: a split node's children, or the root, whose second side is empty. What their searches come to,
-- one after the other, and the loop over them. Assumes nothing.
use Prim.Native.Nat.{ℕ, zero, suc, ◌+◌, ◌-◌, ◌<◌, ◌≤◌}
use Rattle.std.proofs.Math.Nat.{le_refl}
use native.Mathlib.Omega.{arith}
use Rattle.std.proofs.Common.{add-one, ◌∙◌}
use Rattle.std.specs.Prelude.{◌≡◌, Bool, true, false, cond, ◌||◌, length, ltb, Float, Ok, Err}
use Rattle.std.proofs.Math.Path.{sym, ap, subst}
use mathlib.Core.List.{List, ◌++◌}
use Rattle.rules.specs.declared.Params.{Params}
use Rattle.rules.specs.Search.{NodeRows, search}
use Rattle.rules.specs.Growth.{Waiting, searchable, search_if}
use Rattle.rules.specs.Draws.{Out, ok, bind, Tapes, tape}
use Rattle.lemmas.specs.Outs.{bind-through}
use Rattle.lemmas.specs.Work.{part}
use Rattle.candidates.specs.Held.{bare}
use Rattle.work_columns.specs.declared.Sides.{Sides}
use Rattle.sweeps.specs.Swept.{flagged, parted}
use Rattle.work_columns.specs.Columns.{parted_columns, ColumnsAsk}
use Rattle.criterion.specs.declared.Side.{Side}
use Rattle.search.specs.Flat.{NodeAsks, draws_at, Fair}
use Rattle.node_entries.specs.declared.WaitingNode.{WaitingNode}
use Rattle.node_growth.specs.declared.Pair.{Pair}
use Rattle.node_growth.specs.declared.Stretch.{Stretch}
use Rattle.node_growth.specs.declared.Stand.{Stand}
use Rattle.node_growth.specs.declared.BadSearch.{BadSearch}
use Rattle.node_growth.specs.Rooms.{Ground, Step, node_rows, waiting_list, Laid, meant_step, LaidStep, MostStep, FairStep, ChildDone}

-- ---- one of the two

-- where its rows begin and end, and what it has
abbrev pub from_at : Pair → ℕ → ℕ
from_at q zero = q.from
from_at q (suc k) = q.mid

abbrev pub to_at : Pair → ℕ → ℕ
to_at q zero = q.mid
to_at q (suc k) = q.to

abbrev pub side_at : Pair → ℕ → Side
side_at q zero = q.first
side_at q (suc k) = q.second

-- side k of the two
abbrev pub stretch_at : Pair → ℕ → Stretch
stretch_at q k = record { node = q.node + k; level = q.level; from = from_at q k; to = to_at q k; side = side_at q k }

-- its rows, as a node's
abbrev pub rows_at : Ground → Pair → ℕ → NodeRows
rows_at g q k = node_rows g (stretch_at q k).from (stretch_at q k).to (stretch_at q k).side

-- where the first k of them end
abbrev pub edge : Pair → ℕ → ℕ
edge q zero = q.from
edge q (suc k) = to_at q k

-- ---- their searches

-- m of them, from side k on: what each search finds joins those that wait
abbrev pub sought_from : Ground → Params → Pair → ℕ → ℕ → List Waiting → Tapes → Out (List Waiting × Tapes)
sought_from g P q zero k ws d = ok (ws, d)
sought_from g P q (suc m) k ws d =
    bind (search_if P (search (tape P.features) P) (searchable P q.level (rows_at g q k)) (q.node + k) q.level (rows_at g q k) d)
    (λ o. sought_from g P q m (k + 1) (o.0 ++ ws) o.1)

-- all that are left, onto those that wait in the rooms
abbrev pub sought : Ground → Params → List ℕ → List Float → List (List ℕ) → List (List Float) → Pair → Stand → Out (List Waiting × Tapes)
sought g P W M wholes reals q s = sought_from g P q q.sides 0 (waiting_list g wholes reals s.waiting) (draws_at W M s.drawn)

-- what the search of side k asks
pub record SideAsks (g : Ground) (room_wholes room_reals : ℕ) (q : Pair) (s : Stand) (k : ℕ) : Type 0 where
  pub node : NodeAsks g.rows g.features (stretch_at q k).from (stretch_at q k).to g.tables g.order (stretch_at q k).side.count
  pub place : s.waiting + k ≤ (stretch_at q k).from
  pub wholes : s.waiting + k < room_wholes
  pub reals : s.waiting + k < room_reals

-- what the searches of a pair ask
pub record PairAsks (g : Ground) (P : Params) (W : List ℕ) (wholes : List (List ℕ)) (reals : List (List Float)) (q : Pair) (s : Stand) : Type 0 where
  pub same : g.features ≡ P.features
  pub few : g.features ≤ 1024
  pub some : 0 < g.features
  pub fair : Fair W s.drawn
  pub two : q.sides ≤ 2
  pub small : q.node + q.sides < 4294967296
  pub each : (k : ℕ) → k < q.sides → SideAsks g (length wholes) (length reals) q s k
  pub laid : Laid g wholes reals q.from s.waiting

-- what they leave
pub record PairDone (g : Ground) (P : Params) (W : List ℕ) (M : List Float) (wholes : List (List ℕ)) (reals : List (List Float)) (wholes' : List (List ℕ)) (reals' : List (List Float))
    (q : Pair) (s : Stand) (r : Step) : Type 0 where
  pub same : sought g P W M wholes reals q s ≡ meant_step g W M wholes' reals' r
  pub laid : LaidStep g wholes' reals' (edge q q.sides) r
  pub fair : FairStep W r

-- ---- the loop over them: what is left to search of what now waits is what was to be searched

pub record Searching (g : Ground) (P : Params) (W : List ℕ) (M : List Float) (wholes₀ : List (List ℕ)) (reals₀ : List (List Float)) (q : Pair) (s : Stand)
    (wholes : List (List ℕ)) (reals : List (List Float)) (t : Stand) (k : ℕ) : Type 0 where
  pub within : k ≤ q.sides
  pub same : sought_from g P q (q.sides - k) k (waiting_list g wholes reals t.waiting) (draws_at W M t.drawn) ≡ sought g P W M wholes₀ reals₀ q s
  pub laid : Laid g wholes reals (edge q k) t.waiting
  pub most : t.waiting ≤ s.waiting + k
  pub fair : Fair W t.drawn

module _ (g : Ground) (P : Params) (W : List ℕ) (M : List Float) (wholes₀ : List (List ℕ)) (reals₀ : List (List Float)) (q : Pair) (s : Stand) (h : PairAsks g P W wholes₀ reals₀ q s) where
  module _ (wholes : List (List ℕ)) (reals : List (List Float)) (t : Stand) (k : ℕ) (i : Searching g P W M wholes₀ reals₀ q s wholes reals t k) where
    module _ (m : k < q.sides) where
      module _ {c : Stretch} (e : c ≡ stretch_at q k) (wholes' : List (List ℕ)) (reals' : List (List Float)) (r : Step)
          (d : ChildDone g P W M wholes reals wholes' reals' c t r) where
        d' : ChildDone g P W M wholes reals wholes' reals' (stretch_at q k) t r
        d' = subst (λ z. ChildDone g P W M wholes reals wholes' reals' z t r) e d

        next : List Waiting × Tapes → Out (List Waiting × Tapes)
        next o = sought_from g P q (q.sides - (k + 1)) (k + 1) o.0 o.1

        stepped : sought g P W M wholes₀ reals₀ q s ≡ bind (meant_step g W M wholes' reals' r) next
        unfolding next
        stepped =
            sym i.same
            ∙ ap (λ n. sought_from g P q n k (waiting_list g wholes reals t.waiting) (draws_at W M t.drawn)) (one_more q.sides k m)
            ∙ sym (bind-through (search_if P (search (tape P.features) P) (searchable P q.level (rows_at g q k)) (q.node + k) q.level (rows_at g q k)
            (draws_at W M t.drawn)) join next)
            ∙ ap (λ z. bind z next) d'.same
          where
            join : List Waiting × Tapes → List Waiting × Tapes
            join o = (o.0 ++ waiting_list g wholes reals t.waiting, o.1)

            one_more : (n k : ℕ) → k < n → n - k ≡ suc (n - (k + 1))
            one_more n k h = omega arith

        pub searching-stop : (z : BadSearch) → r ≡ Err z → PairDone g P W M wholes₀ reals₀ wholes' reals' q s (Err z)
        unfolding bind
        searching-stop z er = record { same = stepped ∙ ap (λ z. bind (meant_step g W M wholes' reals' z) next) er; laid = tt; fair = tt }

        pub searching-on : (u : Stand) → r ≡ Ok u → Searching g P W M wholes₀ reals₀ q s wholes' reals' u (k + 1)
        unfolding bind next
        searching-on u er =
            record {
              within = omega (arith, m);
              same = sym (stepped ∙ ap (λ z. bind (meant_step g W M wholes' reals' z) next) er);
              laid = subst (λ n. Laid g wholes' reals' (edge q n) u.waiting) (sym (add-one k))
                  (subst (LaidStep g wholes' reals' (stretch_at q k).to) er
                  (d'.laid (edge q k) i.laid (omega (arith, i.most, (h.each k m).place)) (reached k (omega (arith, m, h.two))) (h.each k m).node.ordered));
              most = let n : u.waiting ≤ t.waiting + 1 = subst (MostStep (t.waiting + 1)) er d'.most in omega (arith, n, i.most);
              fair = subst (FairStep W) er d'.fair;
            }
          where
            reached : (k : ℕ) → k < 2 → edge q k ≤ (stretch_at q k).from
            reached zero h = le_refl q.from
            reached (suc zero) h = le_refl q.mid
            reached (suc (suc k)) h = absurd (over k h)
              where
                over : (k : ℕ) → suc (suc k) < 2 → ⊥
                over k h = omega arith

-- ---- the root, and a split node's children

-- how many sides of the root are left to search
unfoldable pub root_sides : ℕ → ℕ
root_sides n = cond (ltb 0 n) 1 0

-- with so many sides to search
abbrev pub root_with : ℕ → Side → ℕ → Pair
root_with kept root sides = record { node = 0; level = 1; from = 0; mid = kept; to = kept; first = root; second = root; sides = sides }

-- with as many as are left
abbrev pub root_pair : ℕ → Side → Pair
root_pair kept root = root_with kept root (root_sides root.count)

-- both children, if either is searched
unfoldable pub child_sides : Params → ℕ → Side → Side → ℕ
child_sides P level a b = cond (searchable P level (bare a) || searchable P level (bare b)) 2 0

pub child-both : (P : Params) (level : ℕ) (a b : Side) → (searchable P level (bare a) || searchable P level (bare b)) ≡ true → 2 ≡ child_sides P level a b
unfolding child_sides
child-both P level a b h = ap (λ z. cond z 2 0) (sym h)

pub child-neither : (P : Params) (level : ℕ) (a b : Side) → (searchable P level (bare a) || searchable P level (bare b)) ≡ false → 0 ≡ child_sides P level a b
unfolding child_sides
child-neither P level a b h = ap (λ z. cond z 2 0) (sym h)

-- a split node's children, with so many sides to search
abbrev pub children_with : WaitingNode → ℕ → Sides → ℕ → Pair
children_with w n h sides =
    record { node = n; level = w.level + 1; from = w.start; mid = w.start + h.rows; to = w.end; first = h.trueside; second = h.falseside; sides = sides }

-- with as many as are left
abbrev pub children_of : Params → WaitingNode → ℕ → Sides → Pair
children_of P w n h = children_with w n h (child_sides P (w.level + 1) h.trueside h.falseside)

-- what the searches of both children come to, the true one first
abbrev pub sought_two : Params → ℕ → ℕ → NodeRows → NodeRows → List Waiting → Tapes → Out (List Waiting × Tapes)
sought_two P n level t f ws d =
    bind (search_if P (search (tape P.features) P) (searchable P level t) n level t d)
    (λ a. bind (search_if P (search (tape P.features) P) (searchable P level f) (n + 1) level f a.1) (λ b. ok (b.0 ++ (a.0 ++ ws), b.1)))

-- the split column is parted by the flags as it is
pub record PartAsks (rows features : ℕ) (order : List ℕ) (scratch : ℕ) (flags : List Bool) (w : WaitingNode) (h : Sides) : Type 0 where
  pub columns : ColumnsAsk rows features w.start w.end order scratch (length flags)
  pub split : parted (flagged flags) (part rows w.feature w.start w.end order) ≡ part rows w.feature w.start w.end order
  pub level : w.level + 1 < 4294967296
  pub mid : w.start + h.rows < 4294967296

-- the children, and the columns parted where a child is searched
pub record PartDone (rows features : ℕ) (order order' : List ℕ) (flags : List Bool) (P : Params) (w : WaitingNode) (n : ℕ) (h : Sides) (q : Pair) : Type 0 where
  pub pair : q ≡ children_of P w n h
  pub searched : (q.sides ≡ 0 → ⊥) → order' ≡ parted_columns rows w.start w.end (flagged flags) features order
  pub skipped : q.sides ≡ 0 → order' ≡ order
