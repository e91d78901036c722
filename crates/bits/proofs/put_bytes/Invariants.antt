-- `bits::put_bytes` meets its contract: the bytes put so far, and those of what is left of n, are all bytes. Assumes nothing.
use Rattle.std.proofs.Common.{◌≡◌, ◌-◌, ◌++◌, take, length}
use Rattle.rules.specs.Bytes.{bytes_of}
use Rattle.bits.proofs.put_bytes.Given as goal

abbrev pub invariant-loop-b : goal.invariant-loop-b
invariant-loop-b l = take l.b-index l.out ++ bytes_of (length l.initial.out - l.b-index) l.rest ≡ bytes_of (length l.initial.out) l.n
