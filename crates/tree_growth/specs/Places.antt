-- Where a growth is within a turn: what a split asks, and what it leaves; and how long the work room is, which all of it keeps.
use Rattle.std.specs.Prelude.{ℕ, ◌+◌, ◌-◌, ◌<◌, ◌≤◌, ◌≡◌, List, ◌++◌, length, Float, Result}
use Rattle.rules.specs.declared.Params.{Params}
use Rattle.rules.specs.declared.WorkRoom.{WorkRoom}
use Rattle.rules.specs.Search.{search}
use Rattle.rules.specs.Growth.{Waiting, TreeNode, State, with_children, expand}
use Rattle.rules.specs.Draws.{Out, ok, bind, Tapes, tape}
use Rattle.search.specs.Flat.{draws_at}
use Rattle.node_entries.specs.Entries.{NodeRoom, LongRoom, waiting_at}
use Rattle.node_entries.specs.Nodes.{RoomIn}
use Rattle.node_growth.specs.declared.BadSearch.{BadSearch}
use Rattle.node_growth.specs.declared.Pair.{Pair}
use Rattle.node_growth.specs.declared.Stand.{Stand}
use Rattle.node_growth.specs.Rooms.{Ground, BelowTo, waiting_of, waiting_list, Taken}
use Rattle.node_growth.specs.Pairs.{sought, edge, PairAsks}
use Rattle.tree_growth.specs.declared.At.{At}

-- how long each part of the work room is
pub record WorkLengths : Type 0 where
  pub order : ℕ
  pub scratch : ℕ
  pub flags : ℕ
  pub wholes : ℕ
  pub reals : ℕ

-- of this room
abbrev pub work_lengths : WorkRoom → WorkLengths
work_lengths w =
    record {
      order = length w.order.now;
      scratch = length w.scratch.now;
      flags = length w.flags.now;
      wholes = length w.wholes.now;
      reals = length w.reals.now;
    }

-- how a growth ends: the tree as it stands, or the bad draw
abbrev pub Grown : Type 0
Grown = Result At BadSearch

-- the definition's state, of these nodes
abbrev pub state_at : List ℕ → List Float → List TreeNode → At → State Tapes
state_at W M ns at = record { nodes = ns; depth = at.depth; left = draws_at W M at.stand.drawn }

-- after the searches of a turn
abbrev pub searched_to : At → Stand → At
searched_to at s = record { nodes = at.nodes; depth = at.depth; stand = s }

-- ---- answers put together

-- what joins, onto those that wait
abbrev pub onto : {D : Type 0} → List Waiting → List Waiting × D → Out (List Waiting × D)
onto ws o = ok (o.0 ++ ws, o.1)

-- the tapes into a state
abbrev pub into : {D S : Type 0} → (D → S) → List Waiting × D → Out (List Waiting × S)
into mk o = ok (o.0, mk o.1)

-- ---- the split of the last to join

-- what the split asks
pub record TurnAsks (g : Ground) (P : Params) (W : List ℕ) (scratch flags : ℕ) (c : NodeRoom) (wholes : List (List ℕ)) (reals : List (List Float)) (at : At) : Type 0 where
  pub taken : Taken g P W scratch flags wholes reals (waiting_at wholes reals (at.stand.waiting - 1)) at.nodes (record { waiting = at.stand.waiting - 1; drawn = at.stand.drawn })
  pub number : (waiting_at wholes reals (at.stand.waiting - 1)).node < at.nodes
  pub node-room : LongRoom (at.nodes + 2) c

-- of any nodes that the columns hold: its children stand in the columns, and once they are searched, that is one step of the definition's waiting list
pub record TurnDone (g g' : Ground) (P : Params) (W : List ℕ) (M : List Float) (c c' : NodeRoom) (wholes : List (List ℕ)) (reals : List (List Float)) (at : At) (q : Pair) (at' : At) : Type 0 where
  pub same : (ns : List TreeNode) → length ns ≡ at.nodes
      → bind (expand P (search (tape P.features) P) (waiting_of g (waiting_at wholes reals (at.stand.waiting - 1))) (state_at W M ns at)) (onto (waiting_list g wholes reals (at.stand.waiting - 1)))
      ≡ bind (sought g' P W M wholes reals q at'.stand)
      (into (λ d. record { nodes = with_children (waiting_of g (waiting_at wholes reals (at.stand.waiting - 1))) ns; depth = at'.depth; left = d }))
  pub nodes : (old : NodeRoom) (ns : List TreeNode) → length ns ≡ at.nodes → LongRoom (at.nodes + 2) old → RoomIn old ns c
      → RoomIn old (with_children (waiting_of g (waiting_at wholes reals (at.stand.waiting - 1))) ns) c'
  pub asks : PairAsks g' P W wholes reals q at'.stand
  pub long : length g'.order ≡ length g.order
  pub below : (n : ℕ) → (waiting_at wholes reals (at.stand.waiting - 1)).end ≤ n → n ≤ g.rows → BelowTo g n → BelowTo g' n
  pub high : edge q q.sides ≤ (waiting_at wholes reals (at.stand.waiting - 1)).end
  pub more : at'.nodes ≡ at.nodes + 2
