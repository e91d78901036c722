-- `means::sums::add_six` meets its contract: k of the six are added. Assumes nothing.
use Rattle.std.proofs.Common.{get_or}
use Rattle.std.specs.Float.{nan, binary64}
use Rattle.std.specs.Float.Ieee.{add}
use Rattle.means.specs.Rows.{Laid}
use Rattle.means.proofs.sums.add_six.Given as goal

abbrev pub invariant-loop-k : goal.invariant-loop-k
invariant-loop-k l = Laid (λ j x. add binary64 x (get_or l.six j nan)) l.i l.k l.initial.out l.out
