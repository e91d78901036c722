-- `checks::values_long` meets its contract: in a shape in range, rows times features fits. Assumes nothing.
use Rattle.std.proofs.Common.{arith}
use Rattle.lemmas.specs.Tests.{cells_low}
use Rattle.checks.proofs.values_long.Goals as goal

pub overflow_mul-result : goal.overflow_mul-result
overflow_mul-result c = omega (arith, cells_low c.args.shape c.requires)
