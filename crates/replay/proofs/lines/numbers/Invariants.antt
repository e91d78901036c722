-- `replay::lines::numbers` meets its contract: at is at most one past the line, and n is within the buffer. Assumes nothing.
use Rattle.std.proofs.Common.{◌≤◌, ◌+◌, ◌-◌, ◌≡◌, length}
use Rattle.replay.proofs.lines.numbers.Given as goal

abbrev pub invariant-loop-at : goal.invariant-loop-at
invariant-loop-at l = (l.at ≤ length l.line + 1) × ((l.n ≤ length l.into) × (length l.into ≡ length l.initial.into))

abbrev pub decreases-loop-at : goal.decreases-loop-at
decreases-loop-at l = length l.line + 1 - l.at
