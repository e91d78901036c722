-- `bits::put_bytes` meets its contract: the bytes put so far, and those of what is left of n, are all bytes. Assumes nothing.
use Rattle.std.proofs.Common.{◌∙◌, arith}
use Rattle.bits.specs.Bits.{put-next, put-end}
use Rattle.bits.proofs.put_bytes.Goals as goal

pub loop-b-preserved : goal.loop-b-preserved
loop-b-preserved c = put-next _ c.loop-b.b-index c.loop-b.rest c.loop-b.out (omega arith) (omega arith) ∙ c.loop-b.invariant

pub returns : goal.returns
returns c = put-end _ c.loop-b.b-index c.loop-b.rest c.loop-b.out (omega arith) (omega arith) ∙ c.loop-b.invariant
