-- `node_growth::push_held` meets its contract: what the search held decides: nothing changes, or one more waits at the end of the list. Assumes nothing.
use Rattle.std.proofs.Common.{arith}
use Rattle.node_growth.specs.Steps.{push-uncut, push-cut}
use Rattle.node_growth.proofs.push_held.Goals as goal

pub returns-in_default : goal.returns-in_default
returns-in_default c = push-uncut _ _ _ _ _ c.args.h c.in_default.is

pub returns : goal.returns
returns c =
    push-cut _ _ _ _ _ c.requires.wholes_long c.requires.reals_long (omega arith) c.args.h c.in-Some.is c.push.ensures.wholes_after c.push.ensures.reals_after
