-- `forest_build::plant_all` meets its contract: each turn is one tree more, and what is left to grow makes up the whole. Assumes nothing.
use Rattle.rules.specs.Slices.{SameNodes, SameWork}
use Rattle.node_entries.specs.Entries.{room_in}
use Rattle.tree_growth.specs.Places.{work_lengths}
use Rattle.forest_build.specs.Lot.{lot_in}
use Rattle.forest_build.specs.All.{Going}
use Rattle.forest_build.proofs.plant_all.Given as goal

abbrev pub invariant-loop-t : goal.invariant-loop-t
invariant-loop-t l =
    record {
      nodes : SameNodes l.initial.nodes l.nodes;
      work : SameWork l.initial.work l.work;
      going : Going l.trees (lot_in l.input l.tapes l.parts l.shape l.p) (room_in l.initial.nodes) (work_lengths l.initial.work) l.t l.at
          (room_in l.nodes) (work_lengths l.work) l.grown;
    }
