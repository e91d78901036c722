-- `node_entries::write_split` meets its contract: a split and two leaves are put, each in its place, and the columns stay as long as they were. Assumes nothing.
use Rattle.std.proofs.Common.{arith, ap, ◌+◌, ◌∙◌}
use Rattle.node_entries.specs.Entries.{node_lengths}
use Rattle.node_entries.specs.Writes.{put-lengths, leaf-lengths, room-less, as-long}
use Rattle.node_entries.proofs.write_split.Goals as goal

pub put_leaf-requires : goal.put_leaf-requires
put_leaf-requires c =
    room-less _ (c.args.n + 2) _ (omega arith) (as-long _ _ _ (ap node_lengths c.put_split.ensures.split ∙ put-lengths _ _ _ _ _) c.requires.room_long)

pub put_leaf-requires-2 : goal.put_leaf-requires-2
put_leaf-requires-2 c =
    room-less _ (c.args.n + 2) _ (omega arith)
    (as-long _ _ _ (leaf-lengths _ _ _ c.put_leaf.ensures.leaf ∙ (ap node_lengths c.put_split.ensures.split ∙ put-lengths _ _ _ _ _)) c.requires.room_long)
