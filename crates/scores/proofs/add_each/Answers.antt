-- `scores::add_each` meets its contract: the places so far are added to. Assumes nothing.
use Rattle.std.proofs.Common.{arith, refl}
use Rattle.scores.specs.Lists.{join-more}
use Rattle.rules.specs.Reading.{add_each}
use Rattle.scores.proofs.add_each.Goals as goal

pub loop-i-init : goal.loop-i-init
unfolding add_each
loop-i-init c = refl

pub loop-i-preserved : goal.loop-i-preserved
loop-i-preserved c = rw c.loop-i.invariant (join-more _ _ _ (omega arith) (omega arith))
