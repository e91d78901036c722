-- `means::forest_means` meets its contract: refused as its checks are, else the means without counts. Assumes nothing.
use Rattle.std.proofs.Common.{sym, ◌∙◌}
use Rattle.means.specs.Means.{ranges}
use Rattle.means.proofs.forest_means.Goals as goal

pub table_means-requires : goal.table_means-requires
table_means-requires c = ranges _ _ (sym c.forest_in.ensures ∙ c.if-not-forest_in.false)
