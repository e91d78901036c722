-- `search::random::true_side` meets its contract: the loop's invariant: the side so far, then the rest of the column, makes the whole side. Assumes nothing.
use Rattle.std.proofs.Common.{◌≡◌, ◌+◌, ◌≤◌, map, drop}
use Rattle.rules.specs.declared.Cut.{Cut}
use Rattle.search.specs.Flat.{tables_in, element_of}
use Rattle.search.specs.Stretches.{elements_in}
use Rattle.rules.specs.Search.{tally}
use Rattle.search.specs.Laws.{onto, no_row}
use Rattle.search.proofs.random.true_side.Given as goal

abbrev pub invariant-loop-r : goal.invariant-loop-r
invariant-loop-r l =
    let rest = map (element_of l.col.shape.features (tables_in l.col.input)) (drop l.r-index l.col.rows.now) in
    let c : Cut = record { feature = l.col.feature; threshold = l.t } in
    record {
      room : l.s.side.count + tally rest ≤ tally (elements_in l.col);
      whole : onto c l.s rest ≡ onto c no_row (elements_in l.col);
      rows : l.s.rows ≤ l.r-index;
    }
