-- `model_write::put_trees` meets its contract: with the trees from t on the file comes to what it comes to with all. Assumes nothing.
use Rattle.rules.specs.Slices.{forest_in}
use Rattle.model_write.specs.Puts.{Putting, tree_bytes_at}
use Rattle.model_write.proofs.put_trees.Given as goal

abbrev pub invariant-loop-t : goal.invariant-loop-t
invariant-loop-t l = Putting (tree_bytes_at (forest_in l.forest)) l.forest.number 9 0 l.initial.file l.spot l.t l.file
