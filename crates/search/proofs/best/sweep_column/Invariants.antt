-- `search::best::sweep_column` meets its contract: the loop's invariant: the sweep from here along the rest is the sweep of the whole. Assumes nothing.
use Rattle.std.proofs.Common.{◌≡◌, ◌+◌, ◌≤◌, map, drop}
use Rattle.rules.specs.declared.Cut.{Cut}
use Rattle.rules.specs.Search.{sweep, tally}
use Rattle.candidates.specs.Held.{bare}
use Rattle.search.specs.Flat.{tables_in, element_of, sweep_of, Stood}
use Rattle.search.specs.Stretches.{elements_in, values_in, run_in, cuts_of}
use Rattle.search.proofs.best.sweep_column.Given as goal

abbrev pub invariant-loop-i : goal.invariant-loop-i
invariant-loop-i l =
    let rest = map (element_of l.col.shape.features (tables_in l.col.input)) (drop l.i l.col.rows.now) in
    let c = cuts_of l.p.height l.col in
    record {
      room : l.v.count + tally rest ≤ l.a.count;
      stood : Stood (values_in l.col) l.col.rows.now l.initial.v.spot l.v.spot;
      last : l.v.last ≡ run_in l.col l.i;
      swept : (b : Cut) → sweep l.p (bare l.a) l.col.feature (sweep_of (c b) l.v) rest ≡ sweep l.p (bare l.a) l.col.feature (sweep_of (c b) l.initial.v) (elements_in l.col);
    }
