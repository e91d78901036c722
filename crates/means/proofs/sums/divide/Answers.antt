-- `means::sums::divide` meets its contract: the places before row i are divided. Assumes nothing.
use Rattle.std.proofs.Common.{ap, ◌∙◌, get_or}
use Rattle.std.specs.Float.{nan, binary64}
use Rattle.std.specs.Float.Ieee.{div}
use Rattle.rules.specs.Words.{float}
use Rattle.means.specs.Rows.{row_first, row_next}
use Rattle.bags.specs.Bags.{out_number}
use Rattle.means.proofs.sums.divide.Goals as goal

pub loop-i-init : goal.loop-i-init
loop-i-init c = row_first (λ k x. div binary64 x (float (out_number c.args.rows c.args.trees c.args.counts.now k))) c.args.out.now

pub loop-i-preserved : goal.loop-i-preserved
loop-i-preserved c =
    row_next (λ k x. div binary64 x (float (out_number c.args.rows c.args.trees c.args.counts.now k))) c.args.out.now c.loop-i.out c.loop-i.i _ c.loop-i-test.true c.loop-i.invariant
    (ap (div binary64 (get_or c.loop-i.out c.loop-i.i nan)) (c.float_of.ensures ∙ ap float c.out_number.ensures.exact))
