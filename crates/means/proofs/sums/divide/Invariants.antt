-- `means::sums::divide` meets its contract: the places before row i are divided. Assumes nothing.
use Rattle.std.specs.Float.{binary64}
use Rattle.std.specs.Float.Ieee.{div}
use Rattle.rules.specs.Words.{float}
use Rattle.means.specs.Rows.{Written}
use Rattle.bags.specs.Bags.{out_number}
use Rattle.means.proofs.sums.divide.Given as goal

abbrev pub invariant-loop-i : goal.invariant-loop-i
invariant-loop-i l = Written (λ k x. div binary64 x (float (out_number l.rows l.trees l.counts k))) l.initial.out l.i l.out
