-- `checks::listings_long` meets its contract: in a shape in range, features times rows fits. Assumes nothing.
use Rattle.std.proofs.Common.{arith}
use Rattle.lemmas.specs.Tests.{entries-low}
use Rattle.checks.proofs.listings_long.Goals as goal

pub overflow_mul-result : goal.overflow_mul-result
overflow_mul-result c = omega (arith, entries-low c.args.shape c.requires)
