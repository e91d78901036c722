-- Grown trees, and the rooms as they are left. Assumes nothing.
use Rattle.std.specs.Prelude.{ℕ, Bool, Float, ◌≤◌, ◌≡◌, refl, List, length, Result, Ok, Err}
use Rattle.std.proofs.Common.{ap, ◌∙◌}
use Rattle.rules.specs.Lent.{Work, WaitingRoom, waiting_room, zero_columns, zero_behind, zero_work}
use Rattle.rules.specs.Forest.{stopped, grow_trees}
use Rattle.rooms.specs.Zero.{WorkLong, nodes-zero, behind-zero, work-zero}
use Rattle.node_entries.specs.Entries.{NodeRoom, NodeLengths, node_lengths}
use Rattle.tree_growth.specs.Places.{WorkLengths}
use Rattle.rules.specs.declared.Place.{Place}
use Rattle.forest_build.specs.declared.GrownTree.{GrownTree}
use Rattle.forest_build.specs.Told.{Told, told_of}
use Rattle.forest_build.specs.Lot.{Lot, lot_trees}
use Rattle.forest_build.specs.All.{AllAsks, AllGrown, AllDone}

-- all eight columns zero
abbrev pub zero_nodes : NodeRoom → NodeRoom
zero_nodes c = record { nodes = zero_columns c.nodes; behind = zero_behind c.behind }

-- the node room as it is left
abbrev pub nodes_left : {A : Type 0} → Result A Place → NodeRoom → NodeRoom
nodes_left (Err d) c = zero_nodes c
nodes_left (Ok _) c = c

-- how long work slices are
abbrev pub lengths_of : List ℕ → List ℕ → List Bool → List (List ℕ) → List (List Float) → WorkLengths
lengths_of order scratch flags wholes reals = record { order = length order; scratch = length scratch; flags = length flags; wholes = length wholes; reals = length reals }

-- those of the work room; of the order, as much as is lent
abbrev pub lengths_lent : ℕ → Work WaitingRoom → WorkLengths
lengths_lent size w =
    record { order = size; scratch = length w.scratch; flags = length w.flags; wholes = length w.waiting.wholes; reals = length w.waiting.reals }

-- the trees may be grown with so much of the order
pub record GrowAsks (trees : ℕ) (L : Lot) (c : NodeRoom) (w : Work WaitingRoom) (size : ℕ) : Type 0 where
  pub high : size ≤ length w.order
  pub all : AllAsks trees L c (lengths_lent size w)

-- where a bad draw was met, with the nodes zero; or all trees
abbrev pub LeftBy : ℕ → Lot → NodeRoom → NodeRoom → Told → Type 0
LeftBy trees L c c' (Err d) = (grow_trees 0 (lot_trees trees L) L.inputs ≡ stopped d) × (c' ≡ zero_nodes c)
LeftBy trees L c c' (Ok gs) = AllGrown trees L c c' gs

-- what the growth leaves of node and work rooms
pub record GrowDone (trees : ℕ) (L : Lot) (c c' : NodeRoom) (w w' : Work WaitingRoom) (told : Told) : Type 0 where
  pub work : w' ≡ zero_work waiting_room w
  pub left : LeftBy trees L c c' told

-- of columns as long as others the zero room is the same
room-zero : (c c₁ : NodeRoom) → node_lengths c₁ ≡ node_lengths c → zero_nodes c₁ ≡ zero_nodes c
room-zero c c₁ e = λ i.
    record {
      nodes = nodes-zero c.nodes c₁.nodes (record {
        value = ap (λ (n : NodeLengths). n.value) e;
        feature = ap (λ (n : NodeLengths). n.feature) e;
        threshold = ap (λ (n : NodeLengths). n.threshold) e;
        score = ap (λ (n : NodeLengths). n.score) e;
        truechild = ap (λ (n : NodeLengths). n.truechild) e;
        falsechild = ap (λ (n : NodeLengths). n.falsechild) e;
      }) i;
      behind = behind-zero c.behind c₁.behind (record { count = ap (λ (n : NodeLengths). n.count) e; mass = ap (λ (n : NodeLengths). n.mass) e }) i;
    }

left_by : (trees : ℕ) (L : Lot) (c c₁ c' : NodeRoom) → node_lengths c₁ ≡ node_lengths c → (told : Told) → AllDone trees L c c₁ told → c' ≡ nodes_left told c₁ → LeftBy trees L c c' told
left_by trees L c c₁ c' l (Err d) a e =
    (a, e ∙ room-zero c c₁ l)
left_by trees L c c₁ c' l (Ok gs) a e = record { trees = a.trees; same = a.same; nodes = e ∙ a.nodes; reports = a.reports; starts = a.starts }

-- what is left goes by the answer alone
by-answer : (r : Result (Unit {0}) Place) (gs : List GrownTree) (c : NodeRoom) → nodes_left r c ≡ nodes_left (told_of r gs) c
by-answer (Ok u) gs c = refl
by-answer (Err d) gs c = refl

pub grow-done : (trees : ℕ) (L : Lot) (c c₁ c' : NodeRoom) (w w₁ w' : Work WaitingRoom) (r : Result (Unit {0}) Place) (gs : List GrownTree) → node_lengths c₁ ≡ node_lengths c → WorkLong w w₁
    → AllDone trees L c c₁ (told_of r gs) → w' ≡ zero_work waiting_room w₁ → c' ≡ nodes_left r c₁ → GrowDone trees L c c' w w' (told_of r gs)
grow-done trees L c c₁ c' w w₁ w' r gs lc lw d ew ec =
    record { work = ew ∙ work-zero w w₁ lw; left = left_by trees L c c₁ c' lc (told_of r gs) d (ec ∙ by-answer r gs c₁) }
