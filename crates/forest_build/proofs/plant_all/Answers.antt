-- `forest_build::plant_all` meets its contract: each turn is one tree more, and what is left to grow makes up the whole. Assumes nothing.
use Rattle.std.proofs.Common.{rules, refl, arith, Ok, Err}
use Rattle.std.proofs.lemmas.Result.{err_from_is_err_and}
use Rattle.forest_build.specs.All.{going-first, going-may, going-stop, going_on, going_end, end_fits}
use Rattle.forest_build.proofs.plant_all.Goals as goal

pub loop-t-init : goal.loop-t-init
loop-t-init c = record { nodes = search rules; work = search rules; going = going-first _ _ _ _ _ c.requires c.told-grown }

pub plant_next-requires : goal.plant_next-requires
plant_next-requires c = going-may _ _ _ _ _ _ _ _ _ c.loop-t.invariant.going c.loop-t-test.true

pub returns-in_err-report-clause-done : goal.returns-in_err-report-clause-done
returns-in_err-report-clause-done c =
    let p = err_from_is_err_and c.from_residual.result c.from_residual.ensures.1 in
    rw (p.1, p.2) (going-stop _ _ _ _ _ _ _ _ _ c.loop-t.invariant.going c.loop-t-test.true _ (Err _) c.in_err-report.ensures.done _ refl)

pub end_of-at-requires : goal.end_of-at-requires
end_of-at-requires c = end_fits _ _ _ _ _ _ _ _ _ c.loop-t.invariant.going c.loop-t-test.true _ (Ok _) c.in_ok-report.ensures.done _ refl

pub overflow_cast-grown : goal.overflow_cast-grown
overflow_cast-grown c =
    omega (arith, c.end_of-at.ensures, end_fits _ _ _ _ _ _ _ _ _ c.loop-t.invariant.going c.loop-t-test.true _ (Ok _) c.in_ok-report.ensures.done _ refl)

pub loop-t-preserved : goal.loop-t-preserved
loop-t-preserved c =
    record {
      nodes = search rules;
      work = search rules;
      going = going_on _ _ _ _ _ _ _ _ _ c.loop-t.invariant.going c.loop-t-test.true _ (Ok _) c.in_ok-report.ensures.done _ refl _ c.end_of-at.ensures
          c.in_ok-report.ensures.nodes_long _ c.in_ok-report.ensures.work_long;
    }

pub returns-clause-done : goal.returns-clause-done
returns-clause-done c = going_end _ _ _ _ _ _ _ _ _ c.loop-t.invariant.going c.loop-t-test.false
