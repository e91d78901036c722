-- `walks::six_leaves` meets its contract: each row is where its own walk is, until all have come to leaves. Assumes nothing.
use Rattle.std.proofs.Common.{sym, ◌∙◌}
use Rattle.rules.specs.Slices.{columns_in}
use Rattle.walks.specs.Sixes.{six-starts, six-goes, six-falls, six-stops}
use Rattle.walks.proofs.six_leaves.Goals as goal

pub loop-six-init : goal.loop-six-init
loop-six-init c =
    let a = c.args in six-starts a.features a.n a.i a.values.now (columns_in a.table.now) c.requires

pub loop-six-smaller : goal.loop-six-smaller
loop-six-smaller c =
    let a = c.args in
    six-falls a.features a.n a.i a.values.now (columns_in a.table.now) c.requires c.loop-six.six c.steps.new.six c.loop-six.invariant c.steps.ensures
    (λ z. c.loop-six-test.true (c.children.ensures ∙ z))

pub loop-six-preserved : goal.loop-six-preserved
loop-six-preserved c =
    let a = c.args in
    six-goes a.features a.n a.i a.values.now (columns_in a.table.now) c.requires c.loop-six.six c.steps.new.six c.loop-six.invariant c.steps.ensures

pub returns : goal.returns
returns c =
    let a = c.args in
    six-stops a.features a.n a.i a.values.now (columns_in a.table.now) c.requires c.loop-six.six c.loop-six.invariant
    (sym c.children.ensures ∙ c.loop-six-test.false) c.values_of.result c.values_of.ensures
