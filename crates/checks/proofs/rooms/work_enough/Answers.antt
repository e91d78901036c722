-- `checks::rooms::work_enough` meets its contract: in a shape in range, features times rows fits. Assumes nothing.
use Rattle.std.proofs.Common.{arith}
use Rattle.lemmas.specs.Tests.{entries-low}
use Rattle.checks.proofs.rooms.work_enough.Goals as goal

pub overflow_mul-shape : goal.overflow_mul-shape
overflow_mul-shape c = omega (arith, entries-low c.args.shape c.requires)
