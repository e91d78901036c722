-- `bags::out_number` meets its contract: the number is what was counted and what the trees from t on come to. Assumes nothing.
use Rattle.std.proofs.Common.{arith, subst, sym, ◌≤◌}
use Rattle.lemmas.specs.Scans.{total-adds, total-ends}
use Rattle.bags.specs.Bags.{mark-low, out_none}
use Rattle.bags.proofs.out_number.Goals as goal

pub returns-then-counts-eq0 : goal.returns-then-counts-eq0
returns-then-counts-eq0 c =
    record { exact = out_none _ _ _ _ c.if-counts-eq0.true; low = omega arith }

pub loop-t-preserved : goal.loop-t-preserved
loop-t-preserved c =
    let one : c.out_mark-number.result ≤ 1 = subst (λ m. m ≤ 1) (sym c.out_mark-number.ensures) (mark-low c.args.rows c.args.counts.now c.args.i c.loop-t.t) in
    (omega arith, total-adds _ _ _ _ _ c.loop-t-test.true c.loop-t.invariant.1 c.out_mark-number.ensures)

pub returns : goal.returns
returns c = record { exact = total-ends _ _ _ _ c.loop-t-test.false c.loop-t.invariant.1; low = omega arith }
