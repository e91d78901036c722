-- `model_write::file_size` meets its contract: the bytes of the trees before t and of those from t on are all bytes. Assumes nothing.
use Rattle.std.proofs.Common.{◌≡◌, ◌+◌, ◌*◌, ◌≤◌, get_or}
use Rattle.lemmas.specs.Scans.{total_on}
use Rattle.model_write.specs.Sizes.{long_at, file_long}
use Rattle.model_write.proofs.file_size.Given as goal

abbrev pub invariant-loop-t : goal.invariant-loop-t
invariant-loop-t l = record {
  few : l.sum ≤ 9 + 4 * l.t + 30 * get_or l.forest.starts.now l.t 0;
  all : file_long l.forest.number l.forest.starts.now l.forest.table.truechild.now ≡ l.sum + total_on (long_at l.forest.starts.now l.forest.table.truechild.now) l.forest.number l.t;
}
