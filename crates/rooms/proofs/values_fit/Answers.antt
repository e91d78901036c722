-- `rooms::values_fit` meets its contract: the type of the slice says it. Assumes nothing.
use Rattle.std.proofs.Common.{T}
use lib.Ieee.{nan, binary64, fits}
use Rattle.rooms.specs.Enough.{every-each}
use Rattle.rooms.proofs.values_fit.Goals as goal

pub returns : goal.returns
returns c = every-each (λ x. T (fits binary64 x)) c.args.values.now nan (λ i. c.type_inv.values i)
