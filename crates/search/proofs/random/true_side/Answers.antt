-- `search::random::true_side` meets its contract: the loop's invariant: the side so far, then the rest of the column, makes the whole side. Assumes nothing.
use Rattle.std.proofs.Common.{arith, ap, ◌∙◌, map}
use Rattle.search.specs.Flat.{tables_in, element_of}
use Rattle.rules.specs.Words.{total}
use Rattle.rules.specs.Search.{tally, totals_of}
use Rattle.criterion.specs.declared.Side.{Side}
use Rattle.search.specs.Laws.{turn-fits, onto, turn-side, turn-most, side-end}
use Rattle.search.proofs.random.true_side.Goals as goal

pub loop-r-init : goal.loop-r-init
unfolding total totals_of
loop-r-init c =
    let a = c.args in
    let e = c.no_side.ensures in
    record {
      room = omega (arith, ap (λ (z : Side). z.count) e);
      whole = ap (λ z. onto (record { feature = a.col.now.feature; threshold = a.t }) (record { side = z; rows = 0 }) (map (element_of a.col.now.shape.features (tables_in a.col.now.input)) a.col.now.rows.now)) e;
      rows = omega arith;
    }

pub joined_if-s-requires : goal.joined_if-s-requires
joined_if-s-requires c =
    let a = c.args in
    let l = c.loop-r in
    let el = element_of a.col.now.shape.features (tables_in a.col.now.input) in (
      omega (arith, c.requires.room, turn-fits el a.col.now.rows.now l.r-index c.loop-r-test.true a.col.now.feature l.s.side.count (tally (map el a.col.now.rows.now)) c.cell.ensures l.invariant.room),
      omega (arith, l.invariant.rows, c.loop-r-test.true),
    )

pub loop-r-preserved : goal.loop-r-preserved
loop-r-preserved c =
    let a = c.args in
    let l = c.loop-r in
    let h = c.loop-r-test.true in
    let e = c.cell.ensures in
    let s = c.joined_if-s.ensures in
    let el = element_of a.col.now.shape.features (tables_in a.col.now.input) in
    let most = turn-most el a.col.now.rows.now l.r-index h a.col.now.feature a.t l.s (tally (map el a.col.now.rows.now)) e s l.invariant.room l.invariant.rows in
    record {
      room = most.0;
      whole = turn-side el a.col.now.rows.now l.r-index h a.col.now.feature a.t l.s e s ∙ l.invariant.whole;
      rows = most.1;
    }

pub returns : goal.returns
returns c =
    let a = c.args in
    let l = c.loop-r in
    record {
      same = side-end (element_of a.col.now.shape.features (tables_in a.col.now.input)) a.col.now.rows.now l.r-index c.loop-r-test.false (record { feature = a.col.now.feature; threshold = a.t }) l.s l.invariant.whole;
      count = omega (arith, l.invariant.room);
      rows = omega (arith, l.invariant.rows);
    }
