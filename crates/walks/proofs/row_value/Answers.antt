-- `walks::row_value` meets its contract: the walk is where the definition's is after as many steps, and stops at a leaf. Assumes nothing.
use Rattle.std.proofs.Common.{arith}
use Rattle.rules.specs.Lent.{values_at}
use Rattle.rules.specs.Slices.{columns_in}
use Rattle.walks.specs.Walks.{onward, walk-starts, walk-stops, row-goes}
use Rattle.walks.proofs.row_value.Goals as goal

pub loop-k-init : goal.loop-k-init
loop-k-init c =
    let a = c.args in walk-starts a.features a.a a.n (columns_in a.table.now) c.requires.tree.good (values_at a.features a.values.now a.i)

pub bounds-values-j : goal.bounds-values-j
bounds-values-j c =
    let a = c.args in
    omega (
      arith,
      (onward a.features a.a a.n (columns_in a.table.now) c.requires.tree.good c.loop-k.k c.loop-k.invariant.inside c.loop-k-test.true).known,
      c.requires.row,
    )

pub loop-k-smaller : goal.loop-k-smaller
loop-k-smaller c =
    let a = c.args in
    (row-goes a.features a.a a.n (columns_in a.table.now) c.requires.tree.good a.values.now a.i c.loop-k.k c.loop-k.invariant c.loop-k-test.true c.child_of-k.result c.child_of-k.ensures).0

pub loop-k-preserved : goal.loop-k-preserved
loop-k-preserved c =
    let a = c.args in
    (row-goes a.features a.a a.n (columns_in a.table.now) c.requires.tree.good a.values.now a.i c.loop-k.k c.loop-k.invariant c.loop-k-test.true c.child_of-k.result c.child_of-k.ensures).1

pub returns : goal.returns
returns c =
    let a = c.args in
    walk-stops a.features a.a a.n (columns_in a.table.now) c.requires.tree.good (values_at a.features a.values.now a.i) c.loop-k.k c.loop-k.invariant c.loop-k-test.false
