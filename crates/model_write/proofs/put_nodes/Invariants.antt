-- `model_write::put_nodes` meets its contract: with the nodes from k on the file comes to what it comes to with all. Assumes nothing.
use Rattle.rules.specs.Slices.{columns_in}
use Rattle.model_write.specs.Puts.{Putting, bytes_at}
use Rattle.model_write.proofs.put_nodes.Given as goal

abbrev pub invariant-loop-k : goal.invariant-loop-k
invariant-loop-k l = Putting (bytes_at (columns_in l.table)) l.e l.at l.a l.initial.file l.spot l.k l.file
