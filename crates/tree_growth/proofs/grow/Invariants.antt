-- `tree_growth::grow` meets its contract: a turn searches what is left to search and splits the last to join: one step of the waiting list, taken half a turn later.
-- What is left of the growth stays the same, and so do the node columns that it writes and their lengths. Assumes nothing.
use Rattle.std.proofs.Common.{◌≡◌, ◌-◌, length}
use Rattle.rules.specs.Slices.{SameNodes}
use Rattle.node_entries.specs.Entries.{room_in, node_lengths}
use Rattle.node_growth.specs.Rooms.{ground_in}
use Rattle.tree_growth.specs.Loop.{Growing}
use Rattle.tree_growth.proofs.grow.Given as goal

abbrev pub invariant-turns : goal.invariant-turns
invariant-turns l = record {
  growing : Growing (ground_in l.shape l.input l.initial.order) l.p l.tapes.words.now l.tapes.thresholds.now l.most (room_in l.initial.nodes)
      l.initial.wholes l.initial.reals l.initial.q l.initial.at
      (ground_in l.shape l.input l.order) (length l.scratch) (length l.flags) (room_in l.nodes) l.wholes l.reals l.q l.at;
  same_slices : SameNodes l.initial.nodes l.nodes;
  nodes_long : node_lengths (room_in l.nodes) ≡ node_lengths (room_in l.initial.nodes);
}

abbrev pub decreases-turns : goal.decreases-turns
decreases-turns l = l.most - l.at.nodes
