-- `tables::tree_good` meets its contract: the nodes before k are good or not, and what is left to ask is asked of those from k on. Assumes nothing.
use Rattle.std.proofs.Common.{◌≡◌, ◌&&◌}
use Rattle.rules.specs.Table.{good_tree}
use Rattle.rules.specs.Lent.{entries_at}
use Rattle.rules.specs.Slices.{columns_in}
use Rattle.tables.specs.Laws.{good_on}
use Rattle.tables.proofs.tree_good.Given as goal

abbrev pub invariant-loop-k : goal.invariant-loop-k
invariant-loop-k l =
    good_tree l.features (entries_at (columns_in l.table) l.a l.n) ≡ (l.good && good_on l.features (columns_in l.table) l.a l.n l.k)
