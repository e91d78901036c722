-- `tables::tree_good` meets its contract: the nodes before k are good or not, and what is left to ask is asked of those from k on. Assumes nothing.
use Rattle.std.proofs.Common.{◌∙◌, ◌+◌}
use Rattle.rules.specs.Lent.{entry_at}
use Rattle.rules.specs.Slices.{columns_in}
use Rattle.entries.specs.Entries.{bare-same}
use Rattle.tables.specs.Laws.{tree-starts, tree-goes, tree-ends}
use Rattle.tables.proofs.tree_good.Goals as goal

pub loop-k-init : goal.loop-k-init
loop-k-init c = tree-starts c.args.features (columns_in c.args.table.now) c.args.a c.args.n

pub loop-k-preserved : goal.loop-k-preserved
loop-k-preserved c =
    let t = columns_in c.args.table.now in
    tree-goes c.args.features t c.args.a c.args.n c.loop-k.k c.loop-k.good c.entry_good-one.result c.loop-k-test.true c.loop-k.invariant
    (c.entry_good-one.ensures ∙ bare-same c.args.features c.args.n c.loop-k.k (entry_at t (c.args.a + c.loop-k.k)))

pub returns : goal.returns
returns c =
    tree-ends c.args.features (columns_in c.args.table.now) c.args.a c.args.n c.loop-k.k c.loop-k.good c.loop-k-test.false c.loop-k.invariant
