-- `forest_reports::note_all` meets its contract: each turn notes one tree more. Assumes nothing.
use Rattle.rules.specs.Slices.{reports_in, SameReports}
use Rattle.forest_reports.specs.Reports.{Noting}
use Rattle.forest_reports.proofs.note_all.Given as goal

abbrev pub invariant-loop-t : goal.invariant-loop-t
invariant-loop-t l =
    record {
      same : SameReports l.initial.room l.room;
      noting : Noting l.initial.starts (reports_in l.initial.room) l.trees l.t l.starts (reports_in l.room);
    }
