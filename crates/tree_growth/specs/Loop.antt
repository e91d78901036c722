-- The growth loop: its invariant, and its turns by what the code did. Assumes nothing.
use Rattle.std.specs.Prelude.{ℕ, ◌+◌, ◌-◌, ◌<◌, max, ◌≡◌, Bool, List, length, Float, Ok, Err}
use Rattle.std.proofs.Common.{arith, ◌∙◌}
use Rattle.std.proofs.Math.Path.{sym, ap, subst}
use Rattle.rules.specs.declared.Params.{Params}
use Rattle.rules.specs.Search.{search}
use Rattle.rules.specs.Growth.{TreeNode, with_children, grow_all, runs}
use Rattle.rules.specs.Draws.{tape}
use Rattle.work_columns.specs.declared.Sides.{Sides}
use Rattle.work_columns.specs.Split.{SplitAsks, SplitDone}
use Rattle.search.specs.Flat.{element_of}
use Rattle.node_entries.specs.declared.WaitingNode.{WaitingNode}
use Rattle.node_entries.specs.Entries.{NodeRoom, LongRoom, waiting_at}
use Rattle.node_entries.specs.Nodes.{RoomIn}
use Rattle.node_entries.specs.Writes.{room-less, as-long, split-lengths}
use Rattle.node_growth.specs.declared.Pair.{Pair}
use Rattle.node_growth.specs.declared.Stand.{Stand}
use Rattle.node_growth.specs.declared.BadSearch.{BadSearch}
use Rattle.node_growth.specs.Rooms.{Ground, Step, cut_of, waiting_list, wrote_sides, FairStep}
use Rattle.node_growth.specs.Pairs.{PairDone, PartAsks, PartDone}
use Rattle.node_growth.specs.InColumns.{with_order}
use Rattle.tree_growth.specs.declared.At.{At}
use Rattle.tree_growth.specs.Places.{state_at, searched_to, TurnAsks, TurnDone}
use Rattle.tree_growth.specs.Turns.{top-room, code-split, code-parts, code-done}
use Rattle.tree_growth.specs.Halves.{GrowAsks, Waits, grown_from, GrowDone, searched-stop, searched-on, searched-waits, w, two-left, turn-may, popped, more-nodes, next-asks}

-- where the loop stands: some nodes stand in the columns, and the rest of the growth is the whole's
abbrev pub Stands : Ground → Params → List ℕ → List Float → ℕ → NodeRoom → List (List ℕ) → List (List Float) → Pair → At
    → Ground → NodeRoom → List (List ℕ) → List (List Float) → Pair → At → Type 0
Stands g₀ P W M top c₀ wholes₀ reals₀ q₀ at₀ g c wholes reals q at =
    (old : NodeRoom) (ns₀ : List TreeNode) → length ns₀ ≡ at₀.nodes → LongRoom top old → RoomIn old ns₀ c₀
    → (ns : List TreeNode) × (length ns ≡ at.nodes) × RoomIn old ns c × (grown_from g P W M wholes reals q ns at ≡ grown_from g₀ P W M wholes₀ reals₀ q₀ ns₀ at₀)

-- ---- the loop's invariant: it may go on, and it stands within the growth

pub record Growing (g₀ : Ground) (P : Params) (W : List ℕ) (M : List Float) (top : ℕ) (c₀ : NodeRoom) (wholes₀ : List (List ℕ)) (reals₀ : List (List Float)) (q₀ : Pair) (at₀ : At)
    (g : Ground) (sc fl : ℕ) (c : NodeRoom) (wholes : List (List ℕ)) (reals : List (List Float)) (q : Pair) (at : At) : Type 0 where
  pub asks : GrowAsks g P W M top sc fl c wholes reals q at
  pub stands : Stands g₀ P W M top c₀ wholes₀ reals₀ q₀ at₀ g c wholes reals q at

module _ {g₀ : Ground} {P : Params} {W : List ℕ} {M : List Float} {top : ℕ} {c₀ : NodeRoom} {wholes₀ : List (List ℕ)} {reals₀ : List (List Float)} {q₀ : Pair} {at₀ : At}
    {g : Ground} {sc : ℕ} (flags : List Bool) {c : NodeRoom} {wholes : List (List ℕ)} {reals : List (List Float)} {q : Pair} {at : At}
    (i : Growing g₀ P W M top c₀ wholes₀ reals₀ q₀ at₀ g sc (length flags) c wholes reals q at)
    {wholes' : List (List ℕ)} {reals' : List (List Float)} {r : Step} (d : PairDone g P W M wholes reals wholes' reals' q at.stand r) where
  pub growing-stop : (b : BadSearch) → r ≡ Err b → GrowDone g₀ P W M top c₀ c wholes₀ reals₀ q₀ at₀ (Err b)
  growing-stop b e old ns₀ e₀ lo n =
      let s = i.stands old ns₀ e₀ lo n in
      sym s.3 ∙ searched-stop g P W M top sc (length flags) c wholes reals q at i.asks wholes' reals' r d b e s.0

  module _ {s : Stand} (e : r ≡ Ok s) where
    pub growing-end : s.waiting ≡ 0 → GrowDone g₀ P W M top c₀ c wholes₀ reals₀ q₀ at₀ (Ok (searched_to at s))
    unfolding grow_all runs
    growing-end none old ns₀ e₀ lo n =
        let t = i.stands old ns₀ e₀ lo n in (
          t.0,
          sym t.3 ∙ searched-on g P W M top sc (length flags) c wholes reals q at i.asks wholes' reals' r d s e t.0
              ∙ ap (λ n. grow_all P (search (tape P.features) P) (waiting_list g wholes' reals' n) (state_at W M t.0 (searched_to at s))) none,
          t.1,
          t.2,
          subst (FairStep W) e d.fair,
        )

    module _ (lw : length wholes' ≡ length wholes) (lr : length reals' ≡ length reals) (hw : 0 < s.waiting) where
      waits : Waits g P W top sc (length flags) c wholes' reals' (searched_to at s)
      waits = searched-waits g P W M top sc (length flags) c wholes reals q at i.asks wholes' reals' r d s e lw lr

      may : TurnAsks g P W sc (length flags) c wholes' reals' (searched_to at s)
      may = turn-may g P W top sc (length flags) c wholes' reals' (searched_to at s) waits hw

      pub number_small : at.nodes + 2 < 4294967296
      number_small = may.taken.number

      pub growing-less : top - (at.nodes + 2) < top - at.nodes
      growing-less = omega (arith, two-left g P W top sc (length flags) c wholes' reals' (searched_to at s) waits hw)

      pub growing-top : (s.waiting - 1 < length wholes') × (s.waiting - 1 < length reals')
      growing-top = top-room g P W sc flags c wholes' reals' (searched_to at s) may

      -- the top as the code read it, and the flags as the split left them
      module _ {z : WaitingNode} (ez : z ≡ waiting_at wholes' reals' (s.waiting - 1)) where
        pub growing-split : SplitAsks g.rows g.features z.start z.end g.tables.values g.tables.targets g.tables.weights g.tables.counts (cut_of z) g.order
            z.rows (length flags) × (LongRoom (at.nodes + 2) c × (z.node < at.nodes) × (at.nodes + 2 < 4294967296))
        growing-split = code-split g P W sc flags c wholes' reals' (searched_to at s) may ez

        module _ (flags' : List Bool) (lf : length flags' ≡ length flags) {h : Sides}
            (sd : SplitDone g.rows z.start z.end (element_of g.features g.tables) (cut_of z) g.order flags' h) where
          pub growing-parts : PartAsks g.rows g.features g.order sc flags' z h
          growing-parts = code-parts g P W sc flags c wholes' reals' (searched_to at s) may flags' lf ez h sd

          module _ {c' : NodeRoom} (wr : c' ≡ wrote_sides z h at.nodes c) {order' : List ℕ} {q' : Pair} (pd : PartDone g.rows g.features g.order order' flags' P z at.nodes h q')
              {deep : ℕ} (ed : deep ≡ max at.depth q'.level) where
            abbrev at' : At
            at' = record { nodes = at.nodes + 2; depth = deep; stand = record { waiting = s.waiting - 1; drawn = s.drawn } }

            t : TurnDone g (with_order g order') P W M c c' wholes' reals' (searched_to at s) q' at'
            t = code-done g P W sc flags c wholes' reals' (searched_to at s) may flags' lf ez h sd c' wr M order' q' pd deep ed

            pub growing-on : {sc' : ℕ} → sc' ≡ sc → Growing g₀ P W M top c₀ wholes₀ reals₀ q₀ at₀ (with_order g order') sc' (length flags') c' wholes' reals' q' at'
            growing-on es =
                record {
                  asks = next-asks g P W top sc (length flags) c wholes' reals' (searched_to at s) waits hw M order' c' q' at' t es lf
                      (as-long top c c' (split-lengths z h.trueside h.falseside _ at.nodes c wr) i.asks.housed.node-room);
                  stands = λ old ns₀ e₀ lo j.
                      let u = i.stands old ns₀ e₀ lo j in (
                        with_children (w g P W top sc (length flags) c wholes' reals' (searched_to at s) waits hw) u.0,
                        more-nodes g P W top sc (length flags) c wholes' reals' (searched_to at s) waits hw M order' c' q' at' t u.0 u.1,
                        t.nodes old u.0 u.1 (room-less (at.nodes + 2) top old (two-left g P W top sc (length flags) c wholes' reals' (searched_to at s) waits hw) lo) u.2,
                        sym (popped g P W top sc (length flags) c wholes' reals' (searched_to at s) waits hw M order' c' q' at' t u.0 u.1)
                            ∙ sym (searched-on g P W M top sc (length flags) c wholes reals q at i.asks wholes' reals' r d s e u.0) ∙ u.3,
                      );
                }
