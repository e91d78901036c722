-- The growth from the root on: what it asks, what it leaves, and how it starts. Assumes nothing.
use Rattle.std.specs.Prelude.{ℕ, ◌+◌, ◌-◌, ◌*◌, ◌<◌, ◌≤◌, ◌≡◌, Bool, ◌&&◌, length, ltb, Float, Ok, Err}
use Rattle.std.proofs.Math.Nat.{le_refl}
use native.Mathlib.Omega.{arith}
use Rattle.std.proofs.Math.Path.{refl, ap}
use Rattle.std.proofs.Common.{sym, ◌∙◌, subst}
use Rattle.std.proofs.Math.Bool.{true, false, cond}
use mathlib.Core.List.{List, [], ◌∷◌, ◌++◌, append-nil}
use Rattle.std.specs.Float.{nan}
use Rattle.rules.specs.declared.Params.{Params}
use Rattle.rules.specs.Fit.{entry_of}
use Rattle.rules.specs.Search.{NodeRows, search}
use Rattle.rules.specs.Growth.{Waiting, TreeNode, State, leaf_of, searchable, search_if, grow_all, from_root}
use Rattle.rules.specs.Draws.{Out, bad, ok, bind, Tapes, tape}
use Rattle.lemmas.specs.Outs.{Then, then-after, then-both}
use Rattle.lemmas.specs.Lists.{every-imp}
use Rattle.lemmas.specs.WaitingOrder.{root-level}
use Rattle.lemmas.specs.Room.{load, rows_of, search_if-load}
use Rattle.lemmas.specs.Cuts.{search-fine, tape-fair, Good}
use Rattle.criterion.specs.declared.Side.{Side}
use Rattle.search.specs.declared.Drawn.{Drawn}
use Rattle.search.specs.Flat.{Shaped, draws_at, Fair}
use Rattle.node_entries.specs.Entries.{NodeRoom, LongRoom, put_entry, put_node, put_leaf}
use Rattle.node_entries.specs.Nodes.{entry_for, add-node, RoomIn, write_nodes, room-written}
use Rattle.node_entries.specs.Writes.{room-less}
use Rattle.node_growth.specs.declared.Pair.{Pair}
use Rattle.node_growth.specs.Rooms.{Ground, node_rows, BelowTo}
use Rattle.node_growth.specs.Pairs.{sought_from, sought, edge, SideAsks, root_sides, root_with, root_pair}
use Rattle.node_growth.specs.InColumns.{good-asks}
use Rattle.node_growth.specs.Numbers.{search_if-number}
use Rattle.tree_growth.specs.declared.At.{At}
use Rattle.tree_growth.specs.Places.{Grown}
use Rattle.tree_growth.specs.Halves.{Sound, GrowAsks, GrownTo, grown_from, GrowDone}

-- tapes of which nothing is used
abbrev pub unused : Drawn
unused = record { words = 0; thresholds = 0; searches = 0 }

-- the root alone, and nothing waits
abbrev pub outset : At
outset = record { nodes = 1; depth = 0; stand = record { waiting = 0; drawn = unused } }

-- the root's rows, at the front of every column
abbrev pub root_rows : Ground → ℕ → Side → NodeRows
root_rows g kept q = node_rows g 0 kept q

-- what a tree asks
pub record TreeAsks (g : Ground) (P : Params) (top kept : ℕ) (q : Side) (wholes reals : ℕ) : Type 0 where
  pub shape : Shaped g.rows g.features g.tables
  pub small : g.rows < 4294967296
  pub rows : 0 < g.rows
  pub same : g.features ≡ P.features
  pub few : g.features ≤ 1024
  pub some : 0 < g.features
  pub long : length g.order ≡ g.features * g.rows
  pub below : BelowTo g kept
  pub whole_room : g.rows ≤ wholes
  pub real-room : g.rows ≤ reals
  pub deep : P.limit ≤ 65535
  pub high : kept ≤ g.rows
  pub good : Good P (root_rows g kept q)
  pub enough : 1 + 2 * (rows_of (root_rows g kept q) - 1) ≤ top
  pub node-small : top < 4294967296

-- a tree as the definition has it, its nodes written at the front of the columns: past them the columns keep what they held
pub record Grew (W : List ℕ) (M : List Float) (c c' : NodeRoom) (o : Out (State Tapes)) (at : At) : Type 0 where
  pub nodes : List TreeNode
  pub same : o ≡ ok (record { nodes = nodes; depth = at.depth; left = draws_at W M at.stand.drawn })
  pub count : length nodes ≡ at.nodes
  pub written : c' ≡ write_nodes nodes c
  pub fair : Fair W at.stand.drawn

-- what a growth answers, and leaves in the node columns
abbrev pub Answers : List ℕ → List Float → NodeRoom → NodeRoom → Out (State Tapes) → Grown → Type 0
Answers W M c c' o (Err b) = o ≡ bad b.search
Answers W M c c' o (Ok at) = Grew W M c c' o at

-- the same of the growth from a root
pub record TreeDone (g : Ground) (P : Params) (W : List ℕ) (M : List Float) (c c' : NodeRoom) (kept : ℕ) (q : Side) (r : Grown) : Type 0 where
  pub grown : Answers W M c c' (from_root P (search (tape P.features) P) (root_rows g kept q) (record { words = W; thresholds = M; searches = 0 })) r

grown-answers : (W : List ℕ) (M : List Float) (c c' : NodeRoom) (o : Out (State Tapes)) (t : Grown) → GrownTo W M c c' o t → Answers W M c c' o t
grown-answers W M c c' o (Err b) h = h
grown-answers W M c c' o (Ok at) h = record { nodes = h.0; same = h.1; count = h.2; written = room-written c c' h.0 h.3; fair = h.4 }

-- ---- the root is searched as the definition searches it

nothing-more : {D : Type 0} (m : Out (List Waiting × D)) → bind m (λ o. ok (o.0 ++ [], o.1)) ≡ m
unfolding bind
nothing-more (bad n) = refl
nothing-more (ok o) = ap (λ z. ok (z, o.1)) (append-nil o.0)

module _ (g : Ground) (P : Params) (W : List ℕ) (M : List Float) (wholes : List (List ℕ)) (reals : List (List Float)) (kept : ℕ) (q : Side) where
  abbrev root_search : Out (List Waiting × Tapes)
  root_search = search_if P (search (tape P.features) P) (ltb 0 q.count && searchable P 1 (root_rows g kept q)) 0 1 (root_rows g kept q) (draws_at W M unused)

  root-sought : sought g P W M wholes reals (root_pair kept q) outset.stand ≡ root_search
  unfolding root_sides search_if
  root-sought = go (ltb 0 q.count)
    where
      go : (b : Bool) → sought_from g P (root_with kept q (cond b 1 0)) (cond b 1 0) 0 [] (draws_at W M unused)
          ≡ search_if P (search (tape P.features) P) (b && searchable P 1 (root_rows g kept q)) 0 1 (root_rows g kept q) (draws_at W M unused)
      go true = nothing-more (search_if P (search (tape P.features) P) (searchable P 1 (root_rows g kept q)) 0 1 (root_rows g kept q) (draws_at W M unused))
      go false = refl

  from-root : from_root P (search (tape P.features) P) (root_rows g kept q) (draws_at W M unused) ≡ grown_from g P W M wholes reals (root_pair kept q) (leaf_of (root_rows g kept q) ∷ []) outset
  unfolding from_root
  from-root =
      ap (λ m. bind m (λ o. grow_all P (search (tape P.features) P) o.0 (record { nodes = leaf_of (root_rows g kept q) ∷ []; depth = 0; left = o.1 }))) (sym root-sought)

  root-few : root_sides q.count ≤ 1
  unfolding root_sides
  root-few = go (ltb 0 q.count)
    where
      go : (b : Bool) → cond b 1 0 ≤ 1
      go true = le_refl 1
      go false = omega arith

  root-edge : edge (root_pair kept q) (root_sides q.count) ≤ kept
  unfolding root_sides
  root-edge = go (ltb 0 q.count)
    where
      go : (b : Bool) → edge (root_with kept q (cond b 1 0)) (cond b 1 0) ≤ kept
      go true = le_refl kept
      go false = omega arith

-- ---- the start handed to the loop

root-nodes : (c c' : NodeRoom) (node : NodeRows) → LongRoom 1 c → c' ≡ put_leaf 0 (record { totals = node.totals; count = node.count }) c → RoomIn c (leaf_of node ∷ []) c'
unfolding put_node put_entry leaf_of entry_of
root-nodes c c' node l e =
    record {
      nodes = record {
        value = ap (λ (z : NodeRoom). z.nodes.value) e ∙ add-node (λ n. (entry_for n).value) [] c.nodes.value nan (leaf_of node) l.nodes.value;
        feature = ap (λ (z : NodeRoom). z.nodes.feature) e ∙ add-node (λ n. (entry_for n).feature) [] c.nodes.feature 0 (leaf_of node) l.nodes.feature;
        threshold = ap (λ (z : NodeRoom). z.nodes.threshold) e ∙ add-node (λ n. (entry_for n).threshold) [] c.nodes.threshold nan (leaf_of node) l.nodes.threshold;
        score = ap (λ (z : NodeRoom). z.nodes.score) e ∙ add-node (λ n. (entry_for n).score) [] c.nodes.score nan (leaf_of node) l.nodes.score;
        truechild = ap (λ (z : NodeRoom). z.nodes.true_child) e ∙ add-node (λ n. (entry_for n).true_child) [] c.nodes.true_child 0 (leaf_of node) l.nodes.truechild;
        falsechild = ap (λ (z : NodeRoom). z.nodes.false_child) e ∙ add-node (λ n. (entry_for n).false_child) [] c.nodes.false_child 0 (leaf_of node) l.nodes.falsechild;
      };
      count = ap (λ (z : NodeRoom). z.behind.count) e ∙ add-node (λ n. n.count) [] c.behind.count 0 (leaf_of node) l.count;
      mass = ap (λ (z : NodeRoom). z.behind.mass) e ∙ add-node (λ n. n.totals.mass) [] c.behind.mass nan (leaf_of node) l.mass;
    }

module _ (g : Ground) (P : Params) (W : List ℕ) (M : List Float) (top kept : ℕ) (q : Side) (wholes : List (List ℕ)) (reals : List (List Float))
    (h : TreeAsks g P top kept q (length wholes) (length reals)) where
  root-asks : (k : ℕ) → k < root_sides q.count → SideAsks g (length wholes) (length reals) (root_pair kept q) outset.stand k
  root-asks k u =
      subst (SideAsks g (length wholes) (length reals) (root_pair kept q) outset.stand) (sym (first k (root_sides q.count) u (root-few g P W M wholes reals kept q)))
      (record {
        node = good-asks g P h.same 0 kept q h.good h.shape h.long kept (le_refl kept) h.below (omega arith) h.high;
        place = le_refl 0;
        wholes = omega (arith, h.rows, h.whole_room);
        reals = omega (arith, h.rows, h.real-room);
      })
    where
      first : (k n : ℕ) → k < n → n ≤ 1 → k ≡ 0
      first k n u f = omega arith

  root-sound : Then (sought g P W M wholes reals (root_pair kept q) outset.stand) (λ o. Sound P top 1 o.0)
  root-sound =
      subst (λ m. Then m (λ o. Sound P top 1 o.0)) (sym (root-sought g P W M wholes reals kept q))
      (then-after (root_search g P W M wholes reals kept q) _ _
      (then-both (root_search g P W M wholes reals kept q) _ _
      (search_if-load P (search (tape P.features) P) (search-fine P (tape P.features) (tape-fair P)) (ltb 0 q.count && searchable P 1 (root_rows g kept q)) 0 1
      (root_rows g kept q) (draws_at W M unused) h.good)
      (then-both (root_search g P W M wholes reals kept q) _ _
      (root-level P (search (tape P.features) P) (root_rows g kept q) (draws_at W M unused))
      (search_if-number P (search (tape P.features) P) (ltb 0 q.count && searchable P 1 (root_rows g kept q)) 0 1 1 (root_rows g kept q) (draws_at W M unused) (omega arith))))
      (λ o x. record {
        ripe = x.0.0;
        levels = every-imp _ _ (λ v y. y.1) o.0 x.1.0;
        numbers = x.1.1;
        loaded = room (load o.0) (rows_of (root_rows g kept q)) x.0.1 h.enough;
      }))
    where
      room : (l n : ℕ) → l ≤ n - 1 → 1 + 2 * (n - 1) ≤ top → 1 + 2 * l ≤ top
      room l n a b = omega arith

  pub tree-asks : {sc fl : ℕ} (c : NodeRoom) → g.rows ≤ sc → g.rows ≤ fl → LongRoom top c → {r : Pair} → r ≡ root_pair kept q → GrowAsks g P W M top sc fl c wholes reals r outset
  tree-asks {sc} {fl} c hs hf hc e =
      subst (λ r. GrowAsks g P W M top sc fl c wholes reals r outset) (sym e)
      (record {
        housed = record {
          shape = h.shape;
          small = h.small;
          same = h.same;
          few = h.few;
          some = h.some;
          long = h.long;
          kept = kept;
          kept_high = h.high;
          below = h.below;
          scratch-room = hs;
          flag-room = hf;
          whole_room = h.whole_room;
          real-room = h.real-room;
          deep = h.deep;
          node-room = hc;
          node-small = h.node-small;
        };
        asks = record {
          same = h.same;
          few = h.few;
          some = h.some;
          fair = (omega arith, le_refl 0);
          two = omega (arith, root-few g P W M wholes reals kept q);
          small = omega (arith, root-few g P W M wholes reals kept q);
          each = root-asks;
          laid = tt;
        };
        high = root-edge g P W M wholes reals kept q;
        sound = root-sound;
      })

  pub tree-goes : (c c₁ c' : NodeRoom) → LongRoom top c → c₁ ≡ put_leaf 0 q c → {r : Pair} → r ≡ root_pair kept q → (t : Grown)
      → GrowDone g P W M top c₁ c' wholes reals r outset t → TreeDone g P W M c c' kept q t
  tree-goes c c₁ c' lc ec e t gd =
      record {
        grown = grown-answers W M c c' _ t (subst (λ o. GrownTo W M c c' o t) (ap (λ r. grown_from g P W M wholes reals r (leaf_of (root_rows g kept q) ∷ []) outset) e ∙ sym (from-root g P W M
            wholes reals kept q))
            (gd c (leaf_of (root_rows g kept q) ∷ []) refl lc (root-nodes c c₁ (root_rows g kept q) (room-less 1 top c (one top (rows_of (root_rows g kept q) - 1) h.enough) lc) ec)));
      }
    where
      one : (top n : ℕ) → 1 + 2 * n ≤ top → 1 ≤ top
      one top n a = omega arith
