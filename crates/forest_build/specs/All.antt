-- Tree after tree: what the loop asks, what it leaves, and its turns. Assumes nothing.
use Rattle.std.specs.Prelude.{ℕ, suc, ◌+◌, ◌*◌, ◌<◌, ◌≤◌, min, ◌≡◌, refl, List, ◌∷◌, map, get_or, set, take, drop, Result, Ok, Err}
use Rattle.std.proofs.Common.{zero-add, arith, sym, ◌∙◌, length-drop}
use Rattle.std.proofs.Math.Path.{ap, subst}
use Rattle.std.proofs.Math.ListN.{length, length-set}
use Rattle.std.proofs.lemmas.List.{length-map}
use Rattle.rules.specs.declared.Place.{Place}
use Rattle.rules.specs.declared.Report.{Report}
use Rattle.rules.specs.Words.{from, total}
use Rattle.rules.specs.Lent.{shortest_of_eight}
use Rattle.rules.specs.Checks.{room_for}
use Rattle.rules.specs.Fit.{Tree, fit}
use Rattle.rules.specs.Forest.{stopped, grown_all, grow_trees, starts_from}
use Rattle.lemmas.specs.Lists.{length_from, get_d-from}
use Rattle.lemmas.specs.Passed.{PartAt}
use Rattle.lemmas.specs.Outs.{Then, then-of}
use Rattle.node_entries.specs.Entries.{NodeRoom, node_lengths, LongRoom}
use Rattle.tree_growth.specs.Places.{WorkLengths}
use Rattle.tree_build.specs.Plant.{PlantDone, long-room}
use Rattle.forest_build.specs.declared.GrownTree.{GrownTree}
use Rattle.forest_build.specs.Told.{report_of, end_of, Told}
use Rattle.forest_build.specs.Lot.{Lot, lot_tree, lot_trees, PlantIn}
use Rattle.forest_build.specs.Columns.{drop_all, columns-long}
use Rattle.forest_build.specs.Standing.{write_trees, trees-written, Standing, standing-first, standing-end, standing-stop, standing-next, room-here}
use Rattle.forest_build.specs.Next.{NextAsks, NextDone}

-- each tree may be grown wherever there is room for it, and there is room for all
pub record AllAsks (trees : ℕ) (L : Lot) (c : NodeRoom) (w : WorkLengths) : Type 0 where
  pub fine : (t : ℕ) → t < trees → (k : NodeRoom) → room_for (lot_tree L t) ≤ shortest_of_eight k.nodes k.behind → PlantIn L.features (lot_tree L t) L.inputs k w
  pub small : (t : ℕ) → t < trees → t * L.rows + L.rows < 4294967296
  pub counted : (t : ℕ) → t < trees → t * L.rows + L.rows ≤ length L.counts
  pub word : (t : ℕ) → t < trees → PartAt L.word_starts (length L.words) t
  pub threshold : (t : ℕ) → t < trees → PartAt L.threshold_starts (length L.thresholds) t
  pub nodes : (t : ℕ) → t < trees → Then (fit (lot_tree L t) L.inputs) (λ (x : Tree). length x.nodes ≤ room_for (lot_tree L t))
  pub reported : (t : ℕ) → t < trees → Then (fit (lot_tree L t) L.inputs) (λ (x : Tree). x.report.nodes ≡ length x.nodes)
  pub few : trees ≤ 1024
  pub room : total room_for (lot_trees trees L) ≤ shortest_of_eight c.nodes c.behind
  pub low : total room_for (lot_trees trees L) < 4294967296

-- all trees as the definition has them: their nodes at the front of the columns, their reports and starts told
pub record AllGrown (n : ℕ) (L : Lot) (c c' : NodeRoom) (gs : List GrownTree) : Type 0 where
  pub trees : List Tree
  pub same : grow_trees 0 (lot_trees n L) L.inputs ≡ grown_all trees
  pub nodes : c' ≡ write_trees trees c
  pub reports : map report_of (take n gs) ≡ map (λ (x : Tree). x.report) trees
  pub starts : 0 ∷ map end_of (take n gs) ≡ starts_from 0 trees

-- all trees, or where the definition meets the bad draw
abbrev pub AllDone : ℕ → Lot → NodeRoom → NodeRoom → Told → Type 0
AllDone n L c c' (Err d) = grow_trees 0 (lot_trees n L) L.inputs ≡ stopped d
AllDone n L c c' (Ok gs) = AllGrown n L c c' gs

-- ---- the room that is left

over : (m a b : ℕ) → m ≤ a → m ≤ b → m ≤ min a b
over m a b h k = omega arith

room-long : (m : ℕ) (c : NodeRoom) → LongRoom m c → m ≤ shortest_of_eight c.nodes c.behind
room-long m c h =
    let l = h.nodes in
    over m _ _ (over m _ _ l.value (over m _ _ l.feature (over m _ _ l.threshold (over m _ _ l.score (over m _ _ l.truechild l.falsechild)))))
    (over m _ _ h.count h.mass)

-- the room from place `at` on
left-room : (at n : ℕ) (c₀ c : NodeRoom) → node_lengths c ≡ node_lengths c₀ → at + n ≤ shortest_of_eight c₀.nodes c₀.behind
    → LongRoom at c × (n ≤ shortest_of_eight (drop_all at c).nodes (drop_all at c).behind)
left-room at n c₀ c l h =
    let e = long-room (at + n) c₀ h in
    (columns-long (λ A k. k) (at + n) at (λ A. near) c₀ c l e, room-long n (drop_all at c) (columns-long (λ A. drop at) (at + n) n (λ A. far) c₀ c l e))
  where
    near : {A : Type 0} (k₀ k : List A) → length k ≡ length k₀ → at + n ≤ length k₀ → at ≤ length k
    near k₀ k e h = omega arith

    far : {A : Type 0} (k₀ k : List A) → length k ≡ length k₀ → at + n ≤ length k₀ → n ≤ length (drop at k)
    far k₀ k e h = omega (arith, length-drop at k)

-- ---- the loop

-- t trees are grown, and the rest may be
pub record Going (trees : ℕ) (L : Lot) (c₀ : NodeRoom) (w₀ : WorkLengths) (t at : ℕ) (c : NodeRoom) (w : WorkLengths) (gs : List GrownTree) : Type 0 where
  pub asks : AllAsks trees L c₀ w₀
  pub within : t ≤ trees
  pub standing : Standing (lot_trees trees L) L.inputs c₀ t at c gs
  pub long : length gs ≡ 1024
  pub nodes : node_lengths c ≡ node_lengths c₀
  pub work : w ≡ w₀

frames-long : (n : ℕ) (L : Lot) → length (lot_trees n L) ≡ n
frames-long n L = length-map (from 0 n) (lot_tree L) ∙ length_from 0 n

frame_at : (n : ℕ) (L : Lot) (t : ℕ) → t < n → get_or (lot_trees n L) t (lot_tree L t) ≡ lot_tree L t
frame_at n L t h = get_d-from (lot_tree L) 0 n t (lot_tree L t) h ∙ ap (lot_tree L) (zero-add t)

pub going-first : (n : ℕ) (L : Lot) (c : NodeRoom) (w : WorkLengths) (gs : List GrownTree) → AllAsks n L c w → length gs ≡ 1024 → Going n L c w 0 0 c w gs
going-first n L c w gs h l =
    record {
      asks = h;
      within = omega arith;
      standing = standing-first (lot_trees n L) L.inputs c gs;
      long = l;
      nodes = refl;
      work = refl;
    }

module _ (n : ℕ) (L : Lot) (c₀ : NodeRoom) (w₀ : WorkLengths) (t at : ℕ) (c : NodeRoom) (w : WorkLengths) (gs : List GrownTree) (g : Going n L c₀ w₀ t at c w gs) where
  pub going_end : n ≤ t → AllDone n L c₀ c (Ok gs)
  going_end h =
      let st = g.standing in
      let all = same t n g.within h in
      record {
        trees = st.trees;
        same = standing-end (lot_trees n L) L.inputs c₀ t at c gs st (subst (λ k. k ≤ t) (sym (frames-long n L)) h);
        nodes = st.nodes ∙ trees-written st.trees c₀;
        reports = subst (λ k. map report_of (take k gs) ≡ map (λ (x : Tree). x.report) st.trees) all st.reports;
        starts = subst (λ k. 0 ∷ map end_of (take k gs) ≡ starts_from 0 st.trees) all st.starts;
      }
    where
      same : (a b : ℕ) → a ≤ b → b ≤ a → a ≡ b
      same a b x y = omega arith

  module _ (h : t < n) where
    inside : t < length (lot_trees n L)
    inside = subst (λ k. t < k) (sym (frames-long n L)) h

    here : at + room_for (lot_tree L t) + total room_for (drop (suc t) (lot_trees n L)) ≤ total room_for (lot_trees n L)
    here = room-here (lot_trees n L) L.inputs c₀ t at c gs g.standing inside (lot_tree L t) (frame_at n L t h)

    room : LongRoom at c × (room_for (lot_tree L t) ≤ shortest_of_eight (drop_all at c).nodes (drop_all at c).behind)
    room =
        left-room at (room_for (lot_tree L t)) c₀ c g.nodes
        (less at (room_for (lot_tree L t)) (total room_for (drop (suc t) (lot_trees n L))) (total room_for (lot_trees n L)) (shortest_of_eight c₀.nodes c₀.behind) here g.asks.room)
      where
        less : (a b c d e : ℕ) → a + b + c ≤ d → d ≤ e → a + b ≤ e
        less a b c d e h k = omega arith

    pub going-may : NextAsks L t at c w
    going-may =
        record {
          plant = subst (PlantIn L.features (lot_tree L t) L.inputs (drop_all at c)) (sym g.work) (g.asks.fine t h (drop_all at c) room.1);
          long = room.0;
          small = g.asks.small t h;
          counted = g.asks.counted t h;
          word = g.asks.word t h;
          threshold = g.asks.threshold t h;
        }

    module _ (c' : NodeRoom) (r : Result Report Place) (d : NextDone L t at c c' r) where
      pub going-stop : (p : Place) → r ≡ Err p → AllDone n L c₀ c' (Err p)
      going-stop p e =
          let (et, f) = subst (NextDone L t at c c') e d in
          standing-stop (lot_trees n L) L.inputs c₀ t at c gs g.standing inside (lot_tree L t) (frame_at n L t h) p.search f.done.done
          ∙ ap (λ m. stopped (record { tree = m; search = p.search })) (sym et)

      module _ (report : Report) (e : r ≡ Ok report) where
        grew : PlantDone (lot_tree L t) L.inputs (drop_all at c) (drop_all at c') (Ok report)
        grew = (subst (NextDone L t at c c') e d).done

        tree : Tree
        tree = grew.done.tree

        tree-low : length tree.nodes ≤ room_for (lot_tree L t)
        unfolding tree
        tree-low =
            then-of (λ (x : Tree). length x.nodes ≤ room_for (lot_tree L t)) (fit (lot_tree L t) L.inputs) grew.done.tree grew.done.same (g.asks.nodes t h)

        nodes-told : report.nodes ≡ length tree.nodes
        unfolding tree
        nodes-told =
            ap (λ (x : Report). x.nodes) (sym grew.done.report)
            ∙ then-of (λ (x : Tree). x.report.nodes ≡ length x.nodes) (fit (lot_tree L t) L.inputs) grew.done.tree grew.done.same (g.asks.reported t h)

        -- where the tree ends fits 32 bits
        pub end_fits : at + report.nodes < 4294967296
        end_fits =
            fits at report.nodes (length tree.nodes) (room_for (lot_tree L t)) (total room_for (drop (suc t) (lot_trees n L))) (total room_for (lot_trees n L))
            nodes-told tree-low here g.asks.low
          where
            fits : (a n m r x d : ℕ) → n ≡ m → m ≤ r → a + r + x ≤ d → d < 4294967296 → a + n < 4294967296
            fits a n m r x d e h k l = omega arith

        pub going_on : (at' : ℕ) → at' ≡ at + report.nodes → node_lengths c' ≡ node_lengths c → (w' : WorkLengths) → w' ≡ w
            → Going n L c₀ w₀ (t + 1) at' c' w' (set gs t (record { report = report; end = at' }))
        unfolding tree
        going_on at' ea l w' ew =
            record {
              asks = g.asks;
              within = omega arith;
              standing =
                  subst (λ x. Standing (lot_trees n L) L.inputs c₀ (t + 1) at' c' (set gs t (record { report = x; end = at' }))) grew.done.report
                  (standing-next (lot_trees n L) L.inputs c₀ t at c gs g.standing inside (lot_tree L t) (frame_at n L t h) tree grew.done.same tree-low
                  at' (ea ∙ ap (λ m. at + m) nodes-told) c' (subst (NextDone L t at c c') e d).kept grew.done.written (omega (arith, g.long, g.asks.few)));
              long = length-set gs t (record { report = report; end = at' }) ∙ g.long;
              nodes = l ∙ g.nodes;
              work = ew ∙ g.work;
            }
