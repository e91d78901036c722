-- `forest_reports::note_all` meets its contract: each turn notes one tree more. Assumes nothing.
use Rattle.std.proofs.Common.{rules, refl}
use Rattle.forest_reports.specs.Reports.{noting-on}
use Rattle.forest_reports.proofs.note_all.Goals as goal

pub loop-t-preserved : goal.loop-t-preserved
loop-t-preserved c =
    record {
      same = search rules;
      noting = noting-on _ _ _ _ _ _ c.loop-t.invariant.noting c.loop-t-test.true _ _ refl _ c.note_next.ensures.starts_after _ c.note_next.ensures.reports_after;
    }
