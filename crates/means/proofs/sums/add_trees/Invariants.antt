-- `means::sums::add_trees` meets its contract: with the trees from t on the room comes to what it comes to with all. Assumes nothing.
use Rattle.rules.specs.Slices.{forest_in}
use Rattle.means.specs.Sums.{Adding}
use Rattle.means.proofs.sums.add_trees.Given as goal

abbrev pub invariant-loop-t : goal.invariant-loop-t
invariant-loop-t l = Adding l.sample.shape.rows l.sample.shape.features l.sample.values.now l.sample.counts.now (forest_in l.forest) l.initial.out l.t l.out
