-- `model_read::put_trees` meets its contract: each turn puts one tree, and what is left to put makes up the whole. Assumes nothing.
use Rattle.rules.specs.Slices.{table_in, SameTable}
use Rattle.model_read.specs.Trees.{Filling}
use Rattle.model_read.proofs.put_trees.Given as goal

abbrev pub invariant-loop-t : goal.invariant-loop-t
invariant-loop-t l = record {
  same : SameTable l.initial.room l.room;
  put : Filling (table_in l.initial.room) l.initial.starts l.bytes l.features l.trees l.start (table_in l.room) l.starts l.at l.sofar l.t;
}
