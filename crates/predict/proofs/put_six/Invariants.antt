-- `predict::put_six` meets its contract: k of the six are put. Assumes nothing.
use Rattle.std.proofs.Common.{◌≡◌, ◌+◌, ◌++◌, take}
use Rattle.predict.proofs.put_six.Given as goal

abbrev pub invariant-loop-k : goal.invariant-loop-k
invariant-loop-k l = take (l.i + l.k) l.out ≡ take l.i l.initial.out ++ take l.k l.six
