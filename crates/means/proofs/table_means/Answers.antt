-- `means::table_means` meets its contract: passed checks say that the means can be taken. Assumes nothing.
use Rattle.std.proofs.Common.{sym, ◌∙◌}
use Rattle.rules.specs.Slices.{forest_in}
use Rattle.means.specs.Means.{readable}
use Rattle.means.proofs.table_means.Goals as goal

pub means-requires : goal.means-requires
means-requires c =
    readable c.args.shape c.args.values.now (forest_in c.args.forest.now) c.args.out.now c.requires (sym c.values_long.ensures ∙ c.if-not-values_long.false)
    c.if-out-shape.false c.if-forest.false (sym c.forest_good.ensures ∙ c.if-not-forest_good.false)
