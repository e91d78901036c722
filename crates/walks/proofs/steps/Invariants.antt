-- `walks::steps` meets its contract: the nodes before j are a step on, the others as they were. Assumes nothing.
use Rattle.std.proofs.Common.{◌≡◌, ℕ, ◌+◌, ◌<◌, ◌≤◌, length, get_or}
use Rattle.rules.specs.Slices.{columns_in}
use Rattle.walks.specs.Steps.{step_of}
use Rattle.walks.proofs.steps.Given as goal

abbrev pub invariant-loop-j : goal.invariant-loop-j
invariant-loop-j l = record {
  long : length l.six ≡ 6;
  gone : (k : ℕ) → k < l.j → get_or l.six k 0 ≡ step_of l.features l.values (columns_in l.table) (l.i + k) (get_or l.initial.six k 0);
  left : (k : ℕ) → l.j ≤ k → get_or l.six k 0 ≡ get_or l.initial.six k 0;
}
