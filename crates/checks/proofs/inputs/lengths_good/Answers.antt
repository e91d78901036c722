-- `checks::inputs::lengths_good` meets its contract: in a shape in range, trees times rows fits. Assumes nothing.
use Rattle.std.proofs.Common.{arith, mul-le-mul}
use Rattle.lemmas.specs.Tests.{rows-low}
use Rattle.checks.proofs.inputs.lengths_good.Goals as goal

pub overflow_mul-trees : goal.overflow_mul-trees
overflow_mul-trees c = omega (arith, mul-le-mul c.requires.few (rows-low c.args.shape c.requires.shape))
