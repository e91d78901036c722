-- `model_read::put_nodes` meets its contract: each turn puts one node, and what is left to put makes up the whole. Assumes nothing.
use Rattle.rules.specs.Slices.{table_in, SameTable}
use Rattle.model_read.specs.Nodes.{Putting}
use Rattle.model_read.proofs.put_nodes.Given as goal

abbrev pub invariant-loop-k : goal.invariant-loop-k
invariant-loop-k l = record {
  same : SameTable l.initial.room l.room;
  put : Putting (table_in l.initial.room) l.bytes l.features l.n l.base l.start (table_in l.room) l.at l.k;
}
