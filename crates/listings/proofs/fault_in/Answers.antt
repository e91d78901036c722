-- `listings::fault_in` meets its contract: what is left to test is what was to be tested, and the marks are the rows behind. Assumes nothing.
use Rattle.std.proofs.Common.{arith, ap, ◌∙◌, false, length-set, Err}
use lib.ListN.{length-replicate, get_or-replicate}
use Rattle.rules.specs.Lent.{cell}
use Rattle.slices.specs.Cells.{cell-inside}
use Rattle.listings.specs.Walks.{walk-starts, walk_ends, walk-out, walk-twice, walk-falls, walk-goes}
use Rattle.listings.proofs.fault_in.Goals as goal

pub loop-i-init : goal.loop-i-init
loop-i-init c = (length-replicate 65536 false, walk-starts c.args.shape.rows _ c.args.j c.args.listing.now _ _ (λ r h. get_or-replicate 65536 r false false (omega (arith, c.requires.few))))

pub overflow_cast-row : goal.overflow_cast-row
overflow_cast-row c = omega (arith, c.type_inv.listing c.loop-i.i)

pub returns-then-shape-row : goal.returns-then-shape-row
returns-then-shape-row c =
    let a = c.args in
    ap Err c.fault_at.ensures ∙ walk-out a.shape.rows (cell c.args.shape.features c.args.values.now c.args.j) a.j a.listing.now c.loop-i.seen c.loop-i.last c.loop-i.i c.loop-i.invariant.1 (omega arith) (omega arith)

pub cell_at-next-requires : goal.cell_at-next-requires
cell_at-next-requires c = cell-inside c.args.shape.rows c.args.shape.features _ c.args.j c.args.values.now c.requires.values_long (omega arith) c.requires.known

pub returns-then-twice : goal.returns-then-twice
returns-then-twice c =
    let a = c.args in
    ap Err c.fault_at-then-twice.ensures
    ∙ walk-twice a.shape.rows (cell c.args.shape.features c.args.values.now c.args.j) a.j a.listing.now c.loop-i.seen c.loop-i.last c.loop-i.i c.loop-i.invariant.1 (omega arith) (omega arith) c.if-twice.true

pub returns-then-below : goal.returns-then-below
returns-then-below c =
    let a = c.args in
    ap Err c.fault_at-then-below.ensures
    ∙ walk-falls a.shape.rows (cell c.args.shape.features c.args.values.now c.args.j) a.j a.listing.now c.loop-i.seen c.loop-i.last c.loop-i.i c.loop-i.invariant.1 (omega arith) (omega arith)
    c.if-twice.false _ c.cell_at-next.ensures _ c.below.ensures c.if-below.true

pub loop-i-preserved : goal.loop-i-preserved
loop-i-preserved c = (
  length-set c.loop-i.seen _ _ ∙ c.loop-i.invariant.0,
  walk-goes c.args.shape.rows (cell c.args.shape.features c.args.values.now c.args.j) c.args.j c.args.listing.now c.loop-i.seen c.loop-i.last c.loop-i.i c.loop-i.invariant.1 (omega arith) (omega arith)
      c.if-twice.false _ c.cell_at-next.ensures _ c.below.ensures c.if-below.false (omega (arith, c.requires.few, c.loop-i.invariant.0)),
)

pub returns : goal.returns
returns c =
    let a = c.args in
    walk_ends a.shape.rows (cell c.args.shape.features c.args.values.now c.args.j) a.j a.listing.now c.loop-i.seen c.loop-i.last c.loop-i.i c.loop-i.invariant.1 (omega arith)
