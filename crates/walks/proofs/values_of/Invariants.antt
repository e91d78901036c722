-- `walks::values_of` meets its contract: the nodes before j are read. Assumes nothing.
use Rattle.std.proofs.Common.{◌≡◌, ℕ, ◌<◌, length, get_or}
use lib.Ieee.{nan}
use Rattle.walks.proofs.values_of.Given as goal

abbrev pub invariant-loop-j : goal.invariant-loop-j
invariant-loop-j l = record {
  long : length l.leaf-items ≡ 6;
  each : (k : ℕ) → k < l.j → get_or l.leaf-items k nan ≡ get_or l.value (get_or l.six k 0) nan;
}
