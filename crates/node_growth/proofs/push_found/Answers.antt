-- `node_growth::push_found` meets its contract: a bad draw leaves the list as it was, and else what was held joins it. Assumes nothing.
use Rattle.node_growth.specs.Steps.{push-bad, push-goes}
use Rattle.node_growth.proofs.push_found.Goals as goal

pub returns-in_default : goal.returns-in_default
returns-in_default c = push-bad _ _ _ _ _ c.in_default.is

pub returns : goal.returns
returns c = push-goes _ _ _ _ _ c.in-Ok.is c.push_held.ensures
