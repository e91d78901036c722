-- A split put together: with the searches of its children, one step of the definition's waiting list. Assumes nothing.
use Prim.Native.Nat.{ℕ, suc, ◌+◌, ◌-◌, ◌<◌, ◌≤◌, max}
use Rattle.std.proofs.Common.{add-one, ◌∙◌, append_assoc}
use Rattle.std.specs.Prelude.{◌≡◌, Bool, List, [], ◌∷◌, ◌++◌, get_or, set, Float}
use Rattle.std.proofs.Math.Path.{refl, sym, ap, subst}
use Rattle.std.proofs.Math.ListN.{length}
use Rattle.std.specs.Float.Ieee.{nan}
use Rattle.rules.specs.declared.Params.{Params}
use Rattle.rules.specs.Search.{search, on_true, on_false, totals_of}
use Rattle.rules.specs.Growth.{Waiting, TreeNode, State, searchable, search_if, child, leaf_of, split_of, splitting, with_children, expand}
use Rattle.rules.specs.Draws.{Out, bad, ok, bind, Tapes, tape}
use Rattle.rules.specs.Totals.{value_of, empty, score}
use Rattle.rules.specs.Fit.{entry_of}
use Rattle.work_columns.specs.declared.Sides.{Sides}
use Rattle.work_columns.specs.Split.{SplitAsks, SplitDone}
use Rattle.criterion.specs.declared.Side.{Side}
use Rattle.search.specs.Flat.{element_of, draws_at}
use Rattle.node_entries.specs.declared.WaitingNode.{WaitingNode}
use Rattle.node_entries.specs.Entries.{NodeRoom, LongRoom, waiting_at, put_entry, put_node, wrote_split}
use Rattle.node_entries.specs.Nodes.{entry_for, RoomIn, column_of, three}
use Rattle.node_growth.specs.declared.Pair.{Pair}
use Rattle.node_growth.specs.declared.Stand.{Stand}
use Rattle.node_growth.specs.Rooms.{Ground, cut_of, waiting_of, waiting_list, wrote_sides, Taken}
use Rattle.node_growth.specs.Pairs.{sought, sought_two, PartAsks, PartDone}
use Rattle.node_growth.specs.InColumns.{with_order}
use Rattle.node_growth.specs.Sides.{SidesDone, sides-count, mine, taken-room, taken-splits, part-asks, true-child, false-child, sides-sought}
use Rattle.tree_growth.specs.declared.At.{At}
use Rattle.tree_growth.specs.Places.{state_at, onto, into, TurnAsks, TurnDone}

-- ---- answers put together

two-end : {D S : Type 0} (m : Out (List Waiting × D)) (mk : D → S) (xs ws : List Waiting)
    → bind (bind m (λ f. ok (f.0 ++ xs, mk f.1))) (onto ws) ≡ bind (bind m (λ f. ok (f.0 ++ (xs ++ ws), f.1))) (into mk)
unfolding bind
two-end (bad n) mk xs ws = refl
two-end (ok f) mk xs ws = ap (λ z. ok (z, mk f.1)) (append_assoc f.0 xs ws)

two : {D S : Type 0} (m : Out (List Waiting × D)) (k : D → Out (List Waiting × D)) (mk : D → S) (ws : List Waiting)
    → bind (bind m (λ t. bind (k t.1) (λ f. ok (f.0 ++ t.0, mk f.1)))) (onto ws) ≡ bind (bind m (λ t. bind (k t.1) (λ f. ok (f.0 ++ (t.0 ++ ws), f.1)))) (into mk)
unfolding bind
two (bad n) k mk ws = refl
two (ok t) k mk ws = two-end (k t.1) mk t.0 ws

-- of flags that the split left
module _ (g : Ground) (P : Params) (W : List ℕ) (sc : ℕ) (flags : List Bool) (c : NodeRoom) (wholes : List (List ℕ)) (reals : List (List Float)) (at : At)
    (q : TurnAsks g P W sc (length flags) c wholes reals at) where
  abbrev m : ℕ
  m = at.stand.waiting - 1

  abbrev e : WaitingNode
  e = waiting_at wholes reals m

  abbrev w : Waiting
  w = waiting_of g e

  abbrev rest : Stand
  rest = record { waiting = m; drawn = at.stand.drawn }

  module _ (h : Sides) (d : SplitDone g.rows e.start e.end (element_of g.features g.tables) (cut_of e) g.order flags h) (c' : NodeRoom) (wr : c' ≡ wrote_sides e h at.nodes c) where
    true-is : h.trueside ≡ record { totals = (child on_true w).totals; count = (child on_true w).count }
    true-is = true-child g P W sc flags wholes reals e at.nodes rest q.taken h d

    false-is : h.falseside ≡ record { totals = (child on_false w).totals; count = (child on_false w).count }
    false-is = false-child g P W sc flags wholes reals e at.nodes rest q.taken h d

    turn-nodes : (old : NodeRoom) (ns : List TreeNode) → length ns ≡ at.nodes → LongRoom (at.nodes + 2) old → RoomIn old ns c → RoomIn old (with_children w ns) c'
    unfolding wrote_split put_node put_entry with_children split_of splitting leaf_of entry_of
    turn-nodes old ns en lo i =
        record {
          nodes = record {
            value =
                ap (λ (z : NodeRoom). z.nodes.value) wr
                ∙ col (λ z. z.nodes.value) (λ n. (entry_for n).value) i.nodes.value lo.nodes.value nan refl
                (ap (λ (z : Side). value_of z.totals) true-is) (ap (λ (z : Side). value_of z.totals) false-is);
            feature = ap (λ (z : NodeRoom). z.nodes.feature) wr ∙ col (λ z. z.nodes.feature) (λ n. (entry_for n).feature) i.nodes.feature lo.nodes.feature 0 refl refl refl;
            threshold = ap (λ (z : NodeRoom). z.nodes.threshold) wr ∙ col (λ z. z.nodes.threshold) (λ n. (entry_for n).threshold) i.nodes.threshold lo.nodes.threshold nan refl refl refl;
            score = ap (λ (z : NodeRoom). z.nodes.score) wr ∙ col (λ z. z.nodes.score) (λ n. (entry_for n).score) i.nodes.score lo.nodes.score nan scored refl refl;
            truechild =
                ap (λ (z : NodeRoom). z.nodes.true_child) wr
                ∙ col (λ z. z.nodes.true_child) (λ n. (entry_for n).true_child) i.nodes.truechild lo.nodes.truechild 0 (sym en) refl refl;
            falsechild =
                ap (λ (z : NodeRoom). z.nodes.false_child) wr
                ∙ col (λ z. z.nodes.false_child) (λ n. (entry_for n).false_child) i.nodes.falsechild lo.nodes.falsechild 0 (add-one at.nodes ∙ ap suc (sym en)) refl refl;
          };
          count =
              ap (λ (z : NodeRoom). z.behind.count) wr
              ∙ col (λ z. z.behind.count) (λ n. n.count) i.count lo.count 0 (sides-count d) (ap (λ (z : Side). z.count) true-is) (ap (λ (z : Side). z.count) false-is);
          mass =
              ap (λ (z : NodeRoom). z.behind.mass) wr
              ∙ col (λ z. z.behind.mass) (λ n. n.totals.mass) i.mass lo.mass nan refl
              (ap (λ (z : Side). z.totals.mass) true-is) (ap (λ (z : Side). z.totals.mass) false-is);
        }
      where
        inside : e.node < length ns
        inside = subst (λ n. e.node < n) (sym en) q.number

        all-totals : h.all ≡ totals_of empty (get_or w.node.columns e.feature [])
        all-totals = ap (λ (z : Sides). z.all) d.sides ∙ ap (totals_of empty) (mine g P W sc flags wholes reals e at.nodes rest q.taken)

        scored : score h.trueside.totals h.falseside.totals h.all.mass ≡ (entry_for (split_of w (length ns))).score
        scored = λ i. score (true-is i).totals (false-is i).totals (all-totals i).mass

        col : {A : Type 0} (get : NodeRoom → List A) (f : TreeNode → A) {x y z : A} → get c ≡ column_of f ns (get old) → at.nodes + 2 ≤ length (get old) → A
            → x ≡ f (split_of w (length ns)) → y ≡ f (leaf_of (child on_true w)) → z ≡ f (leaf_of (child on_false w))
            → set (set (set (get c) e.node x) at.nodes y) (at.nodes + 1) z ≡ column_of f
            (set ns e.node (split_of w (length ns)) ++ (leaf_of (child on_true w) ∷ leaf_of (child on_false w) ∷ [])) (get old)
        col get f {x} {y} {z} ec hl dflt ex ey ez =
            ap (λ u. set (set (set u e.node x) at.nodes y) (at.nodes + 1) z) ec
            ∙ ap (λ n. set (set (set (column_of f ns (get old)) e.node x) n y) (n + 1) z) (sym en)
            ∙ three f ns (get old) dflt e.node (split_of w (length ns)) (leaf_of (child on_true w)) (leaf_of (child on_false w)) ex ey ez inside (subst (λ n. n + 2 ≤ length (get old)) (sym en) hl)

    module _ (g' : Ground) (M : List Float) (r : Pair) (b : SidesDone g g' P W M wholes reals e at.nodes rest r) (deep : ℕ) (ed : deep ≡ max at.depth (e.level + 1)) where
      abbrev at' : At
      at' = record { nodes = at.nodes + 2; depth = deep; stand = rest }

      abbrev made : List TreeNode → ℕ → Tapes → State Tapes
      made ns depth d' = record { nodes = with_children w ns; depth = depth; left = d' }

      stepped : (ns : List TreeNode) → length ns ≡ at.nodes
          → bind (expand P (search (tape P.features) P) w (state_at W M ns at)) (onto (waiting_list g wholes reals m)) ≡ bind (sought g' P W M wholes reals r at'.stand) (into (made ns deep))
      unfolding expand
      stepped ns en =
          two (search_if P (search (tape P.features) P) (searchable P (suc e.level) (child on_true w)) (length ns) (suc e.level) (child on_true w) (draws_at W M at.stand.drawn))
          (λ d'. search_if P (search (tape P.features) P) (searchable P (suc e.level) (child on_false w)) (suc (length ns)) (suc e.level) (child on_false w) d')
          (made ns (max at.depth (suc e.level))) (waiting_list g wholes reals m)
          ∙ (λ i. bind (bind (search_if P (search (tape P.features) P) (searchable P (level i) (child on_true w)) (length ns) (level i) (child on_true w) (draws_at W M at.stand.drawn))
          (λ a. bind (search_if P (search (tape P.features) P) (searchable P (level i) (child on_false w)) (sym (add-one (length ns)) i) (level i) (child on_false w) a.1)
          (λ z. ok (z.0 ++ (a.0 ++ waiting_list g wholes reals m), z.1)))) (into (made ns (max at.depth (level i)))))
          ∙ (λ i. bind (sought_two P (en i) (e.level + 1) (child on_true w) (child on_false w) (waiting_list g wholes reals m) (draws_at W M at.stand.drawn)) (into (made ns (sym ed i))))
          ∙ ap (λ z. bind z (into (made ns deep))) (sym b.same)
        where
          level : suc e.level ≡ e.level + 1
          level = sym (add-one e.level)

      turn-done : TurnDone g g' P W M c c' wholes reals at r at'
      turn-done = record { same = stepped; nodes = turn-nodes; asks = b.asks; long = b.long; below = b.below; high = b.high; more = refl }

-- ---- the same by what the code read: the top is z, and the flags are as long as they were

module _ (g : Ground) (P : Params) (W : List ℕ) (sc : ℕ) (flags : List Bool) (c : NodeRoom) (wholes : List (List ℕ)) (reals : List (List Float)) (at : At)
    (q : TurnAsks g P W sc (length flags) c wholes reals at) where
  abbrev top_waiting : WaitingNode
  top_waiting = waiting_at wholes reals (at.stand.waiting - 1)

  abbrev left : Stand
  left = record { waiting = at.stand.waiting - 1; drawn = at.stand.drawn }

  pub top-room : (at.stand.waiting - 1 < length wholes) × (at.stand.waiting - 1 < length reals)
  top-room = taken-room g P W sc flags wholes reals top_waiting at.nodes left q.taken

  pub code-taken : {z : WaitingNode} → z ≡ top_waiting → Taken g P W sc (length flags) wholes reals z at.nodes left
  code-taken ez = subst (λ z. Taken g P W sc (length flags) wholes reals z at.nodes left) (sym ez) q.taken

  pub code-split : {z : WaitingNode} → z ≡ top_waiting
      → SplitAsks g.rows g.features z.start z.end g.tables.values g.tables.targets g.tables.weights g.tables.counts (cut_of z) g.order z.rows (length flags)
      × (LongRoom (at.nodes + 2) c × (z.node < at.nodes) × (at.nodes + 2 < 4294967296))
  code-split {z} ez =
      (taken-splits g P W sc flags wholes reals z at.nodes left (code-taken ez), (q.node-room, subst (λ (z : WaitingNode). z.node < at.nodes) (sym ez) q.number, q.taken.number))

  module _ (flags' : List Bool) (lf : length flags' ≡ length flags) where
    abbrev DoneAt : Sides → WaitingNode → Type 0
    DoneAt h z = SplitDone g.rows z.start z.end (element_of g.features g.tables) (cut_of z) g.order flags' h

    q' : TurnAsks g P W sc (length flags') c wholes reals at
    q' = subst (λ n. TurnAsks g P W sc n c wholes reals at) (sym lf) q

    taken' : {z : WaitingNode} → z ≡ top_waiting → Taken g P W sc (length flags') wholes reals z at.nodes left
    taken' {z} ez = subst (λ n. Taken g P W sc n wholes reals z at.nodes left) (sym lf) (code-taken ez)

    pub code-parts : {z : WaitingNode} → z ≡ top_waiting → (h : Sides) → DoneAt h z → PartAsks g.rows g.features g.order sc flags' z h
    code-parts {z} ez h d = part-asks g P W sc flags' wholes reals z at.nodes left (taken' ez) h d

    pub code-done : {z : WaitingNode} → z ≡ top_waiting → (h : Sides) → DoneAt h z → (c' : NodeRoom) → c' ≡ wrote_sides z h at.nodes c
        → (M : List Float) (order' : List ℕ) (r : Pair) → PartDone g.rows g.features g.order order' flags' P z at.nodes h r → (deep : ℕ) → deep ≡ max at.depth r.level
        → TurnDone g (with_order g order') P W M c c' wholes reals at r (record { nodes = at.nodes + 2; depth = deep; stand = left })
    code-done {z} ez h d c' wr M order' r p deep ed =
        subst (λ (z : WaitingNode). DoneAt h z → c' ≡ wrote_sides z h at.nodes c → SidesDone g (with_order g order') P W M wholes reals z at.nodes left r → deep ≡ max at.depth (z.level + 1)
        → TurnDone g (with_order g order') P W M c c' wholes reals at r (record { nodes = at.nodes + 2; depth = deep; stand = left })) (sym ez)
        (λ d wr b ed. turn-done g P W sc flags' c wholes reals at q' h d c' wr (with_order g order') M r b deep ed)
        d wr (sides-sought g P W sc flags' wholes reals z at.nodes left (taken' ez) h d M order' r p) (ed ∙ ap (λ (x : Pair). max at.depth x.level) p.pair)
