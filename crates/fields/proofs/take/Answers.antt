-- `fields::take` meets its contract: the bytes are there if the place is no further than k before the end. Assumes nothing.
use Rattle.std.proofs.Common.{arith}
use Rattle.fields.specs.Fields.{taken-short, taken-long}
use Rattle.fields.proofs.take.Goals as goal
use Rattle.fields.proofs.take.Goals.{else-k-n-via-then-k-n+else-at-n, else-k-n-via-else-k-n}

pub returns-then-at-n : goal.returns-then-at-n
returns-then-at-n c = taken-long _ _ _ c.number_at.ensures (omega (arith, c.if-k-n.true, c.if-at-n.true))

pub returns-else-k-n : goal.returns-else-k-n
returns-else-k-n c =
    taken-short _ _ _ (elim c.else-k-n.branch [ else-k-n-via-then-k-n+else-at-n w ↦ omega (arith, w.if-k-n.true, w.if-at-n.false) | else-k-n-via-else-k-n w ↦ omega (arith, w.if-k-n.false) ])
