-- `means::out_of_bag_means` meets its contract: refused as its checks are, else the means out of bag. Assumes nothing.
use Rattle.std.proofs.Common.{arith, mul-le-mul, sym, ◌∙◌}
use Rattle.lemmas.specs.Tests.{rows-low}
use Rattle.means.specs.Means.{ranges}
use Rattle.means.proofs.out_of_bag_means.Goals as goal

pub overflow_mul-forest : goal.overflow_mul-forest
overflow_mul-forest c =
    let r = ranges _ _ (sym c.forest_in.ensures ∙ c.if-not-forest_in.false) in omega (arith, mul-le-mul r.few (rows-low _ r.shape))

pub table_means-requires : goal.table_means-requires
table_means-requires c = ranges _ _ (sym c.forest_in.ensures ∙ c.if-not-forest_in.false)
