-- The children of a node that was taken off the waiting list. Where neither is searched, the rest of the list stands over the columns as they are;
-- else the columns are parted by the flags, and each side's rows lie together. Assumes nothing.
use Rattle.std.specs.Prelude.{ℕ, zero, suc, ◌+◌, ◌<◌, ◌≤◌, ◌≡◌, refl, Bool, true, false, not, ◌||◌, List, [], ◌++◌, map, length, get_or, Float}
use Rattle.std.proofs.Common.{le_refl, add-zero, ◌∙◌, subst, inl, true≢false}
use native.Mathlib.Omega.{arith}
use Rattle.std.proofs.Math.Path.{sym, ap}
use Rattle.rules.specs.declared.Params.{Params}
use Rattle.rules.specs.declared.Cut.{Cut}
use Rattle.rules.specs.Words.{keep, total}
use Rattle.rules.specs.Search.{Element, tally, search, on_true, on_false, goes_true, true_side, false_side, side_of}
use Rattle.rules.specs.Growth.{Waiting, child, searchable, search_if}
use Rattle.rules.specs.Draws.{bind, ok, tape}
use Rattle.lemmas.specs.Lists.{keep-map, total-sides}
use Rattle.lemmas.specs.Cuts.{Good, side-good}
use Rattle.lemmas.specs.Work.{part}
use Rattle.candidates.specs.Held.{bare}
use Rattle.work_columns.specs.declared.Sides.{Sides}
use Rattle.sweeps.specs.Swept.{flagged}
use Rattle.work_columns.specs.Columns.{parted_columns}
use Rattle.work_columns.specs.Cleft.{cleft-parted}
use Rattle.work_columns.specs.Split.{goes, SplitAsks, SplitDone}
use Rattle.work_columns.specs.Stretches.{part-every}
use Rattle.work_columns.specs.Halves.{marked-parted, split-long, columns-ask, split-beside, split-every, true-part, false-part}
use Rattle.criterion.specs.Sides.{side_on}
use Rattle.search.specs.Flat.{element_of, draws_at}
use Rattle.node_entries.specs.declared.WaitingNode.{WaitingNode}
use Rattle.node_growth.specs.declared.Pair.{Pair}
use Rattle.node_growth.specs.declared.Stand.{Stand}
use Rattle.node_growth.specs.Rooms.{Ground, cut_of, asked_of, node_rows, waiting_of, waiting_list, BelowTo, Taken}
use Rattle.node_growth.specs.Pairs.{sought, edge, SideAsks, PairAsks, child-both, child-neither, children_with, sought_two, PartAsks, PartDone}
use Rattle.node_growth.specs.InColumns.{with_order, column-at, child-rows, below-still, laid-still, good-alike, good-cleft, good-asks, part-short, ones-map, rows_of}

-- both sides together have the node's count
pub sides-count : {rows a e : ℕ} {el : ℕ → Element} {c : Cut} {order : List ℕ} {fl : List Bool} {h : Sides} → SplitDone rows a e el c order fl h
    → h.trueside.count + h.falseside.count ≡ tally (map el (part rows c.feature a e order))
sides-count {rows} {a} {e} {el} {c} {order} d =
    ap (λ (z : Sides). z.trueside.count + z.falseside.count) d.sides ∙ total-sides (λ x. x.count) (goes_true c) (map el (part rows c.feature a e order))

-- ---- a split node's children

-- what is left to search, in the columns as they are now, is what the definition searches of the node's children
pub record SidesDone (g g' : Ground) (P : Params) (W : List ℕ) (M : List Float) (wholes : List (List ℕ)) (reals : List (List Float)) (w : WaitingNode) (n : ℕ) (s : Stand) (r : Pair) : Type 0 where
  pub same : sought g' P W M wholes reals r s
      ≡ sought_two P n (w.level + 1) (child on_true (waiting_of g w)) (child on_false (waiting_of g w)) (waiting_list g wholes reals s.waiting) (draws_at W M s.drawn)
  pub asks : PairAsks g' P W wholes reals r s
  pub long : length g'.order ≡ length g.order
  pub below : (m : ℕ) → w.end ≤ m → m ≤ g.rows → BelowTo g m → BelowTo g' m
  pub high : edge r r.sides ≤ w.end

neither : (a b : Bool) → (a || b) ≡ false → (a ≡ false) × (b ≡ false)
neither true b h = absurd (true≢false h)
neither false b h = (refl, h)

module _ (g : Ground) (P : Params) (W : List ℕ) (sc : ℕ) (flags : List Bool) (wholes : List (List ℕ)) (reals : List (List Float)) (w : WaitingNode) (n : ℕ) (s : Stand)
    (q : Taken g P W sc (length flags) wholes reals w n s) where
  abbrev el : ℕ → Element
  el = element_of g.features g.tables

  abbrev top : Waiting
  top = waiting_of g w

  abbrev rows-of-split : List ℕ
  rows-of-split = part g.rows w.feature w.start w.end g.order

  known : w.feature < g.features
  known = subst (λ k. w.feature < k) (sym q.same) q.ripe.fine.known

  pub mine : map el rows-of-split ≡ get_or top.node.columns w.feature []
  mine = column-at g w.start w.end w.feature known

  pub taken-room : (s.waiting < length wholes) × (s.waiting < length reals)
  taken-room = (omega (arith, some-rows, q.place, q.high, q.whole_room), omega (arith, some-rows, q.place, q.high, q.real-room))
    where
      some-rows : w.start < w.end
      some-rows = rows_of g.rows g.order w.start w.end w.feature el (goes_true (cut_of w)) (subst (λ z. 0 < total (λ x. 1) (true_side (cut_of w) z)) (sym mine) q.ripe.fine.some_true)

  pub taken-splits : SplitAsks g.rows g.features w.start w.end g.tables.values g.tables.targets g.tables.weights g.tables.counts (cut_of w)
      g.order w.rows (length flags)
  taken-splits =
      record {
        shaped = record { tables = record { counted = q.shape.counted; weighed = q.shape.weighed }; wide = q.shape.wide; targeted = q.shape.targets };
        known = known;
        long = omega (arith, q.long);
        ordered = q.ordered;
        high = q.high;
        flag_room = q.flag-room;
        below = λ k h. part-every (λ r. r < g.rows) g.rows k 0 w.end w.start w.end g.order (omega arith) (le_refl w.end) q.ordered (q.below k h);
        alike = λ k h. good-alike g P q.same w.start w.end (asked_of g w) q.ripe.good w.feature k known h;
        count = q.sized.small;
        cleft = good-cleft g P q.same w.start w.end (asked_of g w) q.ripe.good (cut_of w) known w.rows q.sized.rows;
      }

  module _ (h : Sides) (d : SplitDone g.rows w.start w.end el (cut_of w) g.order flags h) where
    -- what the partition asks, and the numbers of the children
    pub part-asks : PartAsks g.rows g.features g.order sc flags w h
    part-asks =
        record {
          columns =
              columns-ask g.rows g.features w.start w.end g.tables.values g.tables.targets g.tables.weights g.tables.counts (cut_of w)
              g.order w.rows sc (length flags) taken-splits q.scratch-room;
          split =
              marked-parted (goes el (cut_of w)) flags rows-of-split rows-of-split (λ f. refl) d.marks
              ∙ cleft-parted (goes el (cut_of w)) rows-of-split w.rows taken-splits.cleft;
          level = q.level;
          mid = omega (arith, d.within, q.ordered, q.high, q.small);
        }

    true-side : h.trueside ≡ side_on (true_side (cut_of w) (map el rows-of-split))
    true-side = ap (λ (z : Sides). z.trueside) d.sides

    false-side : h.falseside ≡ side_on (false_side (cut_of w) (map el rows-of-split))
    false-side = ap (λ (z : Sides). z.falseside) d.sides

    -- the children's totals and counts
    pub true-child : h.trueside ≡ record { totals = (child on_true top).totals; count = (child on_true top).count }
    unfolding child
    true-child = true-side ∙ ap (λ z. side_on (true_side (cut_of w) z)) mine

    pub false-child : h.falseside ≡ record { totals = (child on_false top).totals; count = (child on_false top).count }
    unfolding child
    false-child = false-side ∙ ap (λ z. side_on (false_side (cut_of w) z)) mine

    -- the sides lie within the node
    sides-fit : w.start + h.rows ≤ w.end
    sides-fit = omega (arith, d.within, q.ordered)

    -- parted by the flags
    module _ (order' : List ℕ) (e : order' ≡ parted_columns g.rows w.start w.end (flagged flags) g.features g.order) where
      abbrev g' : Ground
      g' = with_order g order'

      abbrev mid : ℕ
      mid = w.start + h.rows

      long : length order' ≡ length g.order
      long =
          split-long g.rows g.features w.start w.end g.tables.values g.tables.targets g.tables.weights g.tables.counts (cut_of w)
          g.order order' flags h w.rows taken-splits d e

      below : (j : ℕ) → w.end ≤ j → j ≤ g.rows → BelowTo g j → BelowTo g' j
      below j u v b k l =
          split-every g.rows g.features w.start w.end g.tables.values g.tables.targets g.tables.weights g.tables.counts (cut_of w)
          g.order order' flags h w.rows taken-splits d e
          (λ r. r < g.rows) k j l u v (b k l)

      part-true : (k : ℕ) → k < g.features → part g.rows k w.start mid order' ≡ keep (λ r. goes_true (cut_of w) (el r)) (part g.rows k w.start w.end g.order)
      part-true =
          true-part g.rows g.features w.start w.end g.tables.values g.tables.targets g.tables.weights g.tables.counts (cut_of w)
          g.order order' flags h w.rows taken-splits d e

      part-false : (k : ℕ) → k < g.features → part g.rows k mid w.end order' ≡ keep (λ r. not (goes_true (cut_of w) (el r))) (part g.rows k w.start w.end g.order)
      part-false =
          false-part g.rows g.features w.start w.end g.tables.values g.tables.targets g.tables.weights g.tables.counts (cut_of w)
          g.order order' flags h w.rows taken-splits d e

      true-rows : node_rows g' w.start mid h.trueside ≡ child on_true top
      true-rows = child-rows g w order' on_true w.start mid h.trueside known part-true true-side

      false-rows : node_rows g' mid w.end h.falseside ≡ child on_false top
      false-rows = child-rows g w order' on_false mid w.end h.falseside known part-false false-side

      -- a side that has rows takes up places
      filled : (b : Bool → Bool) (a z : ℕ) → part g.rows w.feature a z order' ≡ keep (λ r. b (goes_true (cut_of w) (el r))) rows-of-split
          → 0 < total (λ x. 1) (side_of b (cut_of w) (get_or top.node.columns w.feature [])) → a < z
      filled b a z p u =
          omega (arith, part-short g.rows order' a z w.feature, subst (λ i. 0 < i) (ones-map el (part g.rows w.feature a z order')) (subst (λ l. 0 < total (λ x. 1) l) (sym elements) u))
        where
          elements : map el (part g.rows w.feature a z order') ≡ side_of b (cut_of w) (get_or top.node.columns w.feature [])
          elements = ap (map el) p ∙ sym (keep-map (λ x. b (goes_true (cut_of w) x)) el rows-of-split) ∙ ap (side_of b (cut_of w)) mine

      starts : w.start < mid
      starts = filled on_true w.start mid (part-true w.feature known) q.ripe.fine.some_true

      ends : mid < w.end
      ends = filled on_false mid w.end (part-false w.feature known) q.ripe.fine.some_false

      rows-after : BelowTo g' w.end
      rows-after = below w.end (le_refl w.end) q.high q.below

      true-asks : SideAsks g' (length wholes) (length reals) (children_with w n h 2) s 0
      true-asks =
          record {
            node =
                good-asks g' P q.same w.start mid h.trueside (subst (Good P) (sym true-rows) (side-good P on_true top q.ripe)) q.shape
                (long ∙ q.long) w.end sides-fit rows-after (omega (arith, starts)) (omega (arith, ends, q.high));
            place = omega (arith, q.place);
            wholes = omega (arith, q.place, starts, ends, q.high, q.whole_room);
            reals = omega (arith, q.place, starts, ends, q.high, q.real-room);
          }

      false-asks : SideAsks g' (length wholes) (length reals) (children_with w n h 2) s 1
      false-asks =
          record {
            node =
                good-asks g' P q.same mid w.end h.falseside (subst (Good P) (sym false-rows) (side-good P on_false top q.ripe)) q.shape
                (long ∙ q.long) w.end (le_refl w.end) rows-after (omega (arith, ends)) q.high;
            place = omega (arith, q.place, starts);
            wholes = omega (arith, q.place, starts, ends, q.high, q.whole_room);
            reals = omega (arith, q.place, starts, ends, q.high, q.real-room);
          }

      each : (k : ℕ) → k < 2 → SideAsks g' (length wholes) (length reals) (children_with w n h 2) s k
      each zero u = true-asks
      each (suc zero) u = false-asks
      each (suc (suc k)) u = absurd (over k u)
        where
          over : (k : ℕ) → suc (suc k) < 2 → ⊥
          over k u = omega arith

      beside : (k b f : ℕ) → b ≤ f → f ≤ w.start → part g.rows k b f order' ≡ part g.rows k b f g.order
      beside k b f o u =
          split-beside g.rows g.features w.start w.end g.tables.values g.tables.targets g.tables.weights g.tables.counts
          (cut_of w) g.order order' flags h w.rows taken-splits d e
          k b f (inl u) o (omega (arith, u, q.ordered, q.high))

      under : waiting_list g' wholes reals s.waiting ≡ waiting_list g wholes reals s.waiting
      under = below-still g order' w.start beside wholes reals w.start s.waiting (le_refl w.start) q.laid

      both-sought : (M : List Float) → SidesDone g g' P W M wholes reals w n s (children_with w n h 2)
      both-sought M =
          record {
            same = λ i.
                bind (search_if P (search (tape P.features) P) (searchable P (w.level + 1) (true-rows i)) (add-zero n i) (w.level + 1) (true-rows i) (draws_at W M s.drawn))
                (λ a. bind (search_if P (search (tape P.features) P) (searchable P (w.level + 1) (false-rows i)) (n + 1) (w.level + 1) (false-rows i) a.1)
                (λ b. ok (b.0 ++ (a.0 ++ under i), b.1)));
            asks = record {
              same = q.same;
              few = q.few;
              some = q.some;
              fair = q.fair;
              two = le_refl 2;
              small = q.number;
              each = each;
              laid = laid-still g order' w.start beside wholes reals w.start s.waiting (le_refl w.start) q.laid;
            };
            long = long;
            below = below;
            high = le_refl w.end;
          }

    none-sought : (M : List Float) → (searchable P (w.level + 1) (bare h.trueside) || searchable P (w.level + 1) (bare h.falseside)) ≡ false
        → SidesDone g g P W M wholes reals w n s (children_with w n h 0)
    unfolding searchable search_if bind
    none-sought M e =
        record {
          same = sym (λ i.
              bind (search_if P (search (tape P.features) P) (first i) n (w.level + 1) (child on_true top) (draws_at W M s.drawn))
              (λ a. bind (search_if P (search (tape P.features) P) (second i) (n + 1) (w.level + 1) (child on_false top) a.1)
              (λ b. ok (b.0 ++ (a.0 ++ waiting_list g wholes reals s.waiting), b.1))));
          asks = record {
            same = q.same;
            few = q.few;
            some = q.some;
            fair = q.fair;
            two = omega arith;
            small = omega (arith, q.number);
            each = λ k u. absurd (under k u);
            laid = q.laid;
          };
          long = refl;
          below = λ m u v b. b;
          high = q.ordered;
        }
      where
        under : (k : ℕ) → k < 0 → ⊥
        under k u = omega arith

        first : searchable P (w.level + 1) (child on_true top) ≡ false
        first = sym (ap (λ z. searchable P (w.level + 1) (bare z)) true-child) ∙ (neither (searchable P (w.level + 1) (bare h.trueside)) (searchable P (w.level + 1) (bare h.falseside)) e).0

        second : searchable P (w.level + 1) (child on_false top) ≡ false
        second = sym (ap (λ z. searchable P (w.level + 1) (bare z)) false-child) ∙ (neither (searchable P (w.level + 1) (bare h.trueside)) (searchable P (w.level + 1) (bare h.falseside)) e).1

    -- by what the code did
    pub sides-sought : (M : List Float) (order' : List ℕ) (r : Pair) → PartDone g.rows g.features g.order order' flags P w n h r
        → SidesDone g (with_order g order') P W M wholes reals w n s r
    sides-sought M order' r p = go (searchable P (w.level + 1) (bare h.trueside) || searchable P (w.level + 1) (bare h.falseside)) refl
      where
        go : (b : Bool) → (searchable P (w.level + 1) (bare h.trueside) || searchable P (w.level + 1) (bare h.falseside)) ≡ b
            → SidesDone g (with_order g order') P W M wholes reals w n s r
        go true e = subst (SidesDone g (with_order g order') P W M wholes reals w n s) (sym is) (both-sought order' (p.searched (λ z. some (sym (ap (λ (x : Pair). x.sides) is) ∙ z))) M)
          where
            is : r ≡ children_with w n h 2
            is = p.pair ∙ ap (children_with w n h) (sym (child-both P (w.level + 1) h.trueside h.falseside e))

            some : ◌≡◌ {A = ℕ} 2 0 → ⊥
            some z = omega arith
        go false e =
            subst (SidesDone g (with_order g order') P W M wholes reals w n s) (sym is)
            (subst (λ o. SidesDone g (with_order g o) P W M wholes reals w n s (children_with w n h 0)) (sym (p.skipped (ap (λ (x : Pair). x.sides) is))) (none-sought M e))
          where
            is : r ≡ children_with w n h 0
            is = p.pair ∙ ap (children_with w n h) (sym (child-neither P (w.level + 1) h.trueside h.falseside e))
