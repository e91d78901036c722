-- What the growth of a forest's trees tells. Definitions only.
use Rattle.std.specs.Prelude.{ℕ, List, Result, Ok, Err}
use Rattle.rules.specs.declared.Place.{Place}
use Rattle.rules.specs.declared.Report.{Report}
use Rattle.forest_build.specs.declared.GrownTree.{GrownTree}

-- of a tree that stands, its report
abbrev pub report_of : GrownTree → Report
report_of g = g.report

-- and where it ends
abbrev pub end_of : GrownTree → ℕ
end_of g = g.end

-- the trees that are grown, or where a bad draw was met
abbrev pub Told : Type 0
Told = Result (List GrownTree) Place

-- of what the code answers, and the places that it was lent for the trees
abbrev pub told_of : Result (Unit {0}) Place → List GrownTree → Told
told_of (Ok _) gs = Ok gs
told_of (Err d) gs = Err d
