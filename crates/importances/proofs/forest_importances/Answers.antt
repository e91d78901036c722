-- `importances::forest_importances` meets its contract: refused as its checks are, else added up, divided by the trees and normalised. Assumes nothing.
use Rattle.std.proofs.Common.{arith, sym, ◌∙◌}
use Rattle.rules.specs.Slices.{forest_in}
use Rattle.lemmas.specs.Tests.{within-top}
use Rattle.importances.specs.Calls.{forest_lies}
use Rattle.importances.proofs.forest_importances.Goals as goal

pub add_trees-requires-clause-lie : goal.add_trees-requires-clause-lie
add_trees-requires-clause-lie c =
    let few = within-top 1024 _ (sym c.trees_in.ensures ∙ c.if-not-trees_in.false) in
    rw (c.fill.auto.s, c.if-out-features.false)
    (forest_lies _ (forest_in c.args.forest.now) (record { few = few; long = omega arith }) (sym c.forest_good.ensures ∙ c.if-not-forest_good.false))
