-- The two halves of a turn: the pair that is left is searched, and the last to join is split. Before a turn, what is known is of those that will wait once the pair is
-- searched; between its halves, of those that wait. Assumes nothing.
use Rattle.std.specs.Prelude.{ℕ, suc, ◌+◌, ◌-◌, ◌*◌, ◌<◌, ◌≤◌, ◌≡◌, List, ◌∷◌, ◌++◌, length, replicate, Float, Ok, Err}
use Rattle.std.proofs.Common.{le_refl, le_trans, sym, ◌∙◌, subst}
use native.Mathlib.Omega.{arith}
use Rattle.std.proofs.Math.Path.{ap}
use Rattle.std.proofs.lemmas.List.{length-replicate}
use Rattle.rules.specs.declared.Params.{Params}
use Rattle.rules.specs.Words.{total}
use Rattle.rules.specs.declared.Kind.TheVariants.{Leaf}
use Rattle.rules.specs.Search.{search}
use Rattle.rules.specs.Growth.{Waiting, TreeNode, State, with_children, expand, grow_all}
use Rattle.rules.specs.Draws.{Out, bad, ok, bind, Tapes, tape}
use Rattle.rules.specs.Totals.{empty}
use Rattle.lemmas.specs.Outs.{bind-through, then-bind, Then, then-after, then-both}
use Rattle.lemmas.specs.Lists.{Every, every_append, every-imp}
use Rattle.lemmas.specs.WaitingOrder.{expand-level, pop, children-length}
use Rattle.lemmas.specs.Room.{load, rows_of, halves, expand-bounded}
use Rattle.lemmas.specs.Cuts.{search-fine, tape-fair, Ripe}
use Rattle.work_columns.specs.Stretches.{part-every}
use Rattle.search.specs.Flat.{Shaped, Fair}
use Rattle.node_entries.specs.Entries.{NodeRoom, LongRoom, waiting_at}
use Rattle.node_entries.specs.Nodes.{RoomIn}
use Rattle.node_entries.specs.Writes.{room-less}
use Rattle.node_growth.specs.declared.Pair.{Pair}
use Rattle.node_growth.specs.declared.Stand.{Stand}
use Rattle.node_growth.specs.declared.BadSearch.{BadSearch}
use Rattle.node_growth.specs.Rooms.{Ground, Step, waiting_of, waiting_list, Laid, BelowTo, meant_step, LaidStep, FairStep}
use Rattle.node_growth.specs.Steps.{laid_more}
use Rattle.node_growth.specs.Pairs.{sought, edge, PairAsks, PairDone}
use Rattle.node_growth.specs.InColumns.{with_order}
use Rattle.node_growth.specs.Numbers.{expand-number}
use Rattle.tree_growth.specs.declared.At.{At}
use Rattle.tree_growth.specs.Places.{Grown, state_at, searched_to, onto, into, TurnAsks, TurnDone}

-- what holds of the rooms throughout
pub record Housed (g : Ground) (P : Params) (top scratch flags : ℕ) (c : NodeRoom) (wholes reals : ℕ) : Type 0 where
  pub shape : Shaped g.rows g.features g.tables
  pub small : g.rows < 4294967296
  pub same : g.features ≡ P.features
  pub few : g.features ≤ 1024
  pub some : 0 < g.features
  pub long : length g.order ≡ g.features * g.rows
  pub kept : ℕ
  pub kept_high : kept ≤ g.rows
  pub below : BelowTo g kept
  pub scratch-room : g.rows ≤ scratch
  pub flag-room : g.rows ≤ flags
  pub whole_room : g.rows ≤ wholes
  pub real-room : g.rows ≤ reals
  pub deep : P.limit ≤ 65535
  pub node-room : LongRoom top c
  pub node-small : top < 4294967296

-- what holds of those that wait, where there are n nodes and may be `top`
pub record Sound (P : Params) (top n : ℕ) (ws : List Waiting) : Type 0 where
  pub ripe : Every (Ripe P) ws
  pub levels : Every (λ v. v.level < P.limit) ws
  pub numbers : Every (λ v. v.number < n) ws
  pub loaded : n + 2 * load ws ≤ top

-- before a turn: what will wait once the pair is searched
pub record GrowAsks (g : Ground) (P : Params) (W : List ℕ) (M : List Float) (top scratch flags : ℕ) (c : NodeRoom) (wholes : List (List ℕ)) (reals : List (List Float))
    (q : Pair) (at : At) : Type 0 where
  pub housed : Housed g P top scratch flags c (length wholes) (length reals)
  pub asks : PairAsks g P W wholes reals q at.stand
  pub high : edge q q.sides ≤ housed.kept
  pub sound : Then (sought g P W M wholes reals q at.stand) (λ o. Sound P top at.nodes o.0)

-- after its searches
pub record Waits (g : Ground) (P : Params) (W : List ℕ) (top scratch flags : ℕ) (c : NodeRoom) (wholes : List (List ℕ)) (reals : List (List Float)) (at : At) : Type 0 where
  pub housed : Housed g P top scratch flags c (length wholes) (length reals)
  pub laid : Laid g wholes reals housed.kept at.stand.waiting
  pub sound : Sound P top at.nodes (waiting_list g wholes reals at.stand.waiting)
  pub fair : Fair W at.stand.drawn

-- the growth as the definition has it, and what the code answers and leaves in the node columns
abbrev pub GrownTo : List ℕ → List Float → NodeRoom → NodeRoom → Out (State Tapes) → Grown → Type 0
GrownTo W M old c' o (Err b) = o ≡ bad b.search
GrownTo W M old c' o (Ok at) = (ns : List TreeNode) × (o ≡ ok (state_at W M ns at)) × (length ns ≡ at.nodes) × RoomIn old ns c' × Fair W at.stand.drawn

-- the pair is searched, and all that waits then is split
abbrev pub grown_from : Ground → Params → List ℕ → List Float → List (List ℕ) → List (List Float) → Pair → List TreeNode → At → Out (State Tapes)
grown_from g P W M wholes reals q ns at =
    bind (sought g P W M wholes reals q at.stand) (λ o. grow_all P (search (tape P.features) P) o.0 (record { nodes = ns; depth = at.depth; left = o.1 }))

-- of any nodes that the columns held: the growth as the definition has it
abbrev pub GrowDone : Ground → Params → List ℕ → List Float → ℕ → NodeRoom → NodeRoom → List (List ℕ) → List (List Float) → Pair → At → Grown → Type 0
GrowDone g P W M top c c' wholes reals q at r =
    (old : NodeRoom) (ns : List TreeNode) → length ns ≡ at.nodes → LongRoom top old → RoomIn old ns c → GrownTo W M old c' (grown_from g P W M wholes reals q ns at) r

-- ---- the searches of a turn

module _ (g : Ground) (P : Params) (W : List ℕ) (M : List Float) (top sc fl : ℕ) (c : NodeRoom) (wholes : List (List ℕ)) (reals : List (List Float)) (q : Pair) (at : At)
    (h : GrowAsks g P W M top sc fl c wholes reals q at) (wholes' : List (List ℕ)) (reals' : List (List Float)) (r : Step) (d : PairDone g P W M wholes reals wholes' reals' q at.stand r) where
  pub searched-stop : (b : BadSearch) → r ≡ Err b → (ns : List TreeNode) → grown_from g P W M wholes reals q ns at ≡ bad b.search
  unfolding bind
  searched-stop b e ns =
      ap (λ z. bind z (λ o. grow_all P (search (tape P.features) P) o.0 (record { nodes = ns; depth = at.depth; left = o.1 }))) (d.same ∙ ap (meant_step g W M wholes' reals') e)

  module _ (s : Stand) (e : r ≡ Ok s) where
    pub searched-on : (ns : List TreeNode) → grown_from g P W M wholes reals q ns at
        ≡ grow_all P (search (tape P.features) P) (waiting_list g wholes' reals' s.waiting) (state_at W M ns (searched_to at s))
    unfolding bind
    searched-on ns =
        ap (λ z. bind z (λ o. grow_all P (search (tape P.features) P) o.0 (record { nodes = ns; depth = at.depth; left = o.1 }))) (d.same ∙ ap (meant_step g W M wholes' reals') e)

    pub searched-waits : length wholes' ≡ length wholes → length reals' ≡ length reals → Waits g P W top sc fl c wholes' reals' (searched_to at s)
    searched-waits lw lr =
        record {
          housed = subst (λ n. Housed g P top sc fl c n (length reals')) (sym lw) (subst (λ n. Housed g P top sc fl c (length wholes) n) (sym lr) h.housed);
          laid = laid_more g wholes' reals' s.waiting (edge q q.sides) h.housed.kept h.high (subst (LaidStep g wholes' reals' (edge q q.sides)) e d.laid);
          sound = subst (λ o. Then o (λ z. Sound P top at.nodes z.0)) (d.same ∙ ap (meant_step g W M wholes' reals') e) h.sound;
          fair = subst (FairStep W) e d.fair;
        }

-- ---- its split

less_one : (n : ℕ) → 0 < n → n ≡ suc (n - 1)
less_one n h = omega arith

then-into : {D S : Type 0} (m : Out (List Waiting × D)) (mk : D → S) (Q : List Waiting → S → Type 0) → Then (bind m (into mk)) (λ z. Q z.0 z.1) → Then m (λ o. Q o.0 (mk o.1))
unfolding bind
then-into (bad n) mk Q t = tt
then-into (ok o) mk Q t = t

module _ (g : Ground) (P : Params) (W : List ℕ) (top sc fl : ℕ) (c : NodeRoom) (wholes : List (List ℕ)) (reals : List (List Float)) (at : At)
    (h : Waits g P W top sc fl c wholes reals at) (hw : 0 < at.stand.waiting) where
  abbrev pub w : Waiting
  w = waiting_of g (waiting_at wholes reals (at.stand.waiting - 1))

  abbrev ws : List Waiting
  ws = waiting_list g wholes reals (at.stand.waiting - 1)

  list-is : waiting_list g wholes reals at.stand.waiting ≡ w ∷ ws
  list-is = ap (waiting_list g wholes reals) (less_one at.stand.waiting hw)

  sound' : Sound P top at.nodes (w ∷ ws)
  sound' = subst (Sound P top at.nodes) list-is h.sound

  some' : 0 < P.features
  some' = subst (λ n. 0 < n) h.housed.same h.housed.some

  pub two-left : at.nodes + 2 ≤ top
  unfolding total
  two-left = let h = halves P w sound'.ripe.0 some' in room at.nodes (rows_of w.node) (load ws) _ _ h.0 h.1 h.2 sound'.loaded
    where
      room : (n r l a b : ℕ) → 1 ≤ a → 1 ≤ b → a + b ≡ r → n + 2 * ((r - 1) + l) ≤ top → n + 2 ≤ top
      room n r l a b h₁ h₂ h₃ h₄ = omega arith

  top-laid : Laid g wholes reals h.housed.kept (suc (at.stand.waiting - 1))
  top-laid = subst (Laid g wholes reals h.housed.kept) (less_one at.stand.waiting hw) h.laid

  top_below : BelowTo g (waiting_at wholes reals (at.stand.waiting - 1)).end
  top_below k l =
      part-every (λ r. r < g.rows) g.rows k 0 h.housed.kept 0 (waiting_at wholes reals (at.stand.waiting - 1)).end g.order (le_refl 0) top-laid.2 (omega arith) (h.housed.below k l)

  pub turn-may : TurnAsks g P W sc fl c wholes reals at
  turn-may =
      record {
        taken = record {
          shape = h.housed.shape;
          small = h.housed.small;
          same = h.housed.same;
          few = h.housed.few;
          some = h.housed.some;
          long = h.housed.long;
          ordered = top-laid.1;
          high = le_trans top-laid.2 h.housed.kept_high;
          below = top_below;
          scratch-room = h.housed.scratch-room;
          flag-room = h.housed.flag-room;
          whole_room = h.housed.whole_room;
          real-room = h.housed.real-room;
          place = top-laid.0;
          laid = top-laid.3;
          sized = top-laid.4;
          ripe = sound'.ripe.0;
          level = omega (arith, sound'.levels.0, h.housed.deep);
          number = omega (arith, two-left, h.housed.node-small);
          fair = h.fair;
        };
        number = sound'.numbers.0;
        node-room = room-less (at.nodes + 2) top c two-left h.housed.node-room;
      }

  module _ (M : List Float) (order' : List ℕ) (c' : NodeRoom) (q : Pair) (at' : At) (d : TurnDone g (with_order g order') P W M c c' wholes reals at q at') where
    abbrev g' : Ground
    g' = with_order g order'

    pub popped : (ns : List TreeNode) → length ns ≡ at.nodes
        → grow_all P (search (tape P.features) P) (waiting_list g wholes reals at.stand.waiting) (state_at W M ns at) ≡ grown_from g' P W M wholes reals q (with_children w ns) at'
    popped ns en =
        ap (λ l. grow_all P (search (tape P.features) P) l (state_at W M ns at)) list-is
        ∙ pop P (search (tape P.features) P) w ws (state_at W M ns at) sound'.levels.0
        ∙ sym (bind-through (expand P (search (tape P.features) P) w (state_at W M ns at)) put go)
        ∙ ap (λ o. bind o go) (d.same ns en)
        ∙ bind-through (sought g' P W M wholes reals q at'.stand) made go
      where
        put : List Waiting × State Tapes → List Waiting × State Tapes
        put o = (o.0 ++ ws, o.1)

        made : List Waiting × Tapes → List Waiting × State Tapes
        made o = (o.0, record { nodes = with_children w ns; depth = at'.depth; left = o.1 })

        go : List Waiting × State Tapes → Out (State Tapes)
        go z = grow_all P (search (tape P.features) P) z.0 z.1

    pub more-nodes : (ns : List TreeNode) → length ns ≡ at.nodes → length (with_children w ns) ≡ at'.nodes
    more-nodes ns en = children-length w ns ∙ ap (λ n. n + 2) en ∙ sym d.more

    -- any nodes, to speak of those that will wait
    abbrev some-nodes : List TreeNode
    some-nodes = replicate at.nodes (record { totals = empty; count = 0; kind = Leaf })

    enough : length some-nodes ≡ at.nodes
    enough = length-replicate at.nodes (record { totals = empty; count = 0; kind = Leaf })

    abbrev after : Out (List Waiting × State Tapes)
    after = expand P (search (tape P.features) P) w (state_at W M some-nodes at)

    -- what holds after the definition's step holds once the pair is searched
    stepped : (Q : List Waiting → ℕ → Type 0) → Then after (λ r. Q (r.0 ++ ws) (length r.1.nodes)) → Then (sought g' P W M wholes reals q at'.stand) (λ o. Q o.0 at'.nodes)
    stepped Q t =
        then-after (sought g' P W M wholes reals q at'.stand) _ _
        (then-into (sought g' P W M wholes reals q at'.stand) _ (λ l s. Q l (length s.nodes))
        (subst (λ o. Then o (λ z. Q z.0 (length z.1.nodes))) (d.same some-nodes enough) (then-bind after (onto ws) (λ z. Q z.0 (length z.1.nodes)) t)))
        (λ o x. subst (Q o.0) (more-nodes some-nodes enough) x)

    next-sound : Then (sought g' P W M wholes reals q at'.stand) (λ o. Sound P top at'.nodes o.0)
    next-sound =
        then-after (sought g' P W M wholes reals q at'.stand) _ _ (then-both (sought g' P W M wholes reals q at'.stand) _ _ bounded (then-both (sought g' P W M wholes reals q
        at'.stand) _ _ levelled numbered))
        (λ o x. record {
          ripe = x.0.0;
          levels = x.1.0;
          numbers = subst (λ n. Every (λ v. v.number < n) o.0) (sym d.more) x.1.1;
          loaded = x.0.1;
        })
      where
        bounded : Then (sought g' P W M wholes reals q at'.stand) (λ o. Every (Ripe P) o.0 × (at'.nodes + 2 * load o.0 ≤ top))
        bounded = stepped (λ l n. Every (Ripe P) l × (n + 2 * load l ≤ top))
            (expand-bounded P (search (tape P.features) P) (search-fine P (tape P.features) (tape-fair P)) some' top w ws (state_at W M some-nodes at)
            sound'.levels.0 (sound'.ripe, subst (λ n. n + 2 * load (w ∷ ws) ≤ top) (sym enough) sound'.loaded))

        levelled : Then (sought g' P W M wholes reals q at'.stand) (λ o. Every (λ v. v.level < P.limit) o.0)
        levelled = stepped (λ l n. Every (λ v. v.level < P.limit) l)
            (then-after after _ _ (expand-level P (search (tape P.features) P) w (state_at W M some-nodes at))
            (λ r h. every_append (λ v. v.level < P.limit) r.0 ws (every-imp _ _ (λ v x. x.1) r.0 h) sound'.levels.1))

        numbered : Then (sought g' P W M wholes reals q at'.stand) (λ o. Every (λ v. v.number < at.nodes + 2) o.0)
        numbered = stepped (λ l n. Every (λ v. v.number < at.nodes + 2) l)
            (then-after after _ _ (expand-number P (search (tape P.features) P) w (state_at W M some-nodes at))
            (λ r h. every_append (λ v. v.number < at.nodes + 2) r.0 ws (every-imp _ _ (λ v x. subst (λ n. v.number < n + 2) enough x) r.0 h) (every-imp _
            _ (λ v x. more v.number at.nodes x) ws sound'.numbers.1)))
          where
            more : (a n : ℕ) → a < n → a < n + 2
            more a n h = omega arith

    pub next-asks : {sc' fl' : ℕ} → sc' ≡ sc → fl' ≡ fl → LongRoom top c' → GrowAsks g' P W M top sc' fl' c' wholes reals q at'
    next-asks es ef lc =
        record {
          housed = record {
            shape = h.housed.shape;
            small = h.housed.small;
            same = h.housed.same;
            few = h.housed.few;
            some = h.housed.some;
            long = d.long ∙ h.housed.long;
            kept = h.housed.kept;
            kept_high = h.housed.kept_high;
            below = d.below h.housed.kept top-laid.2 h.housed.kept_high h.housed.below;
            scratch-room = subst (λ n. g.rows ≤ n) (sym es) h.housed.scratch-room;
            flag-room = subst (λ n. g.rows ≤ n) (sym ef) h.housed.flag-room;
            whole_room = h.housed.whole_room;
            real-room = h.housed.real-room;
            deep = h.housed.deep;
            node-room = lc;
            node-small = h.housed.node-small;
          };
          asks = d.asks;
          high = le_trans d.high top-laid.2;
          sound = next-sound;
        }
