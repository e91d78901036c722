-- `model_write::tree_size` meets its contract: the bytes of the nodes before k and of those from k on are all bytes. Assumes nothing.
use Rattle.std.proofs.Common.{◌≡◌, List, ℕ, ◌+◌, ◌*◌, ◌≤◌, get_or}
use Rattle.lemmas.specs.Scans.{total_on}
use Rattle.lemmas.specs.FileLength.{node_size}
use Rattle.model_write.specs.Sizes.{tree_long}
use Rattle.model_write.proofs.tree_size.Given as goal

abbrev pub long_of : List ℕ → ℕ → ℕ
long_of ys k = node_size (get_or ys k 0)

abbrev pub invariant-loop-k : goal.invariant-loop-k
invariant-loop-k l = record {
  few : l.sum ≤ 4 + 30 * l.k;
  all : tree_long l.truechild l.a l.e ≡ l.sum + total_on (long_of l.truechild) l.e l.k;
}
