-- `forest_ready::ready` meets its contract: the verdict decides, and what it lets pass is small. Assumes nothing.
use Rattle.std.proofs.Common.{arith}
use Rattle.forest_ready.specs.Ready.{few-features, size_low}
use Rattle.forest_ready.proofs.ready.Goals as goal

pub overflow_cast-shape : goal.overflow_cast-shape
overflow_cast-shape c = let few = few-features _ _ _ _ _ _ _ _ _ c.in_ok-forest_verdict.ensures c.args.settings c.args.tried in omega (arith, few)

pub tried_of-m-requires : goal.tried_of-m-requires
tried_of-m-requires c = few-features _ _ _ _ _ _ _ _ _ c.in_ok-forest_verdict.ensures c.args.settings c.args.tried

pub overflow_mul-result : goal.overflow_mul-result
overflow_mul-result c = omega (arith, size_low _ _ _ _ _ _ _ _ _ c.in_ok-forest_verdict.ensures c.args.settings c.args.tried)

pub params_of-requires : goal.params_of-requires
params_of-requires c = let few = few-features _ _ _ _ _ _ _ _ _ c.in_ok-forest_verdict.ensures c.args.settings c.args.tried in omega (arith, few)
