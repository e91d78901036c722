-- `bags::out_number` meets its contract: the number is what was counted and what the trees from t on come to. Assumes nothing.
use Rattle.std.proofs.Common.{◌≡◌, ◌+◌, ◌≤◌}
use Rattle.lemmas.specs.Scans.{total_on}
use Rattle.bags.specs.Bags.{out_mark, out_number}
use Rattle.bags.proofs.out_number.Given as goal

abbrev pub invariant-loop-t : goal.invariant-loop-t
invariant-loop-t l = (l.number ≤ l.t) × (out_number l.rows l.trees l.counts l.i ≡ l.number + total_on (out_mark l.rows l.counts l.i) l.trees l.t)
