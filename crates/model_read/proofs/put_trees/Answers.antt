-- `model_read::put_trees` meets its contract: each turn puts one tree, and what is left to put makes up the whole. Assumes nothing.
use Rattle.std.proofs.Common.{arith, refl}
use Rattle.model_read.specs.Nodes.{same-first, same-then}
use Rattle.model_read.specs.Trees.{filling-first, filling-count, filling-fits, filling-may, filling-on, filling-end}
use Rattle.model_read.proofs.put_trees.Goals as goal

pub loop-t-init : goal.loop-t-init
loop-t-init c = record { same = same-first _; put = filling-first _ _ _ _ _ _ c.requires }

pub number_at-n-requires : goal.number_at-n-requires
number_at-n-requires c = filling-count _ _ _ _ _ _ _ _ _ _ _ c.loop-t.invariant.put c.loop-t-test.true

pub put_nodes-at-requires : goal.put_nodes-at-requires
put_nodes-at-requires c = filling-may _ _ _ _ _ _ _ _ _ _ _ c.loop-t.invariant.put c.loop-t-test.true _ c.number_at-n.ensures

pub overflow_add-sofar : goal.overflow_add-sofar
overflow_add-sofar c = omega (arith, filling-fits _ _ _ _ _ _ _ _ _ _ _ c.loop-t.invariant.put c.loop-t-test.true _ c.number_at-n.ensures)

pub overflow_cast-starts : goal.overflow_cast-starts
overflow_cast-starts c = omega (arith, filling-fits _ _ _ _ _ _ _ _ _ _ _ c.loop-t.invariant.put c.loop-t-test.true _ c.number_at-n.ensures)

pub loop-t-preserved : goal.loop-t-preserved
loop-t-preserved c = record {
  same = same-then _ _ _ c.loop-t.invariant.same c.put_nodes-at.ensures.same_slices;
  put = filling-on _ _ _ _ _ _ _ _ _ _ _ c.loop-t.invariant.put c.loop-t-test.true _ c.number_at-n.ensures _ _ c.put_nodes-at.ensures.nodes;
}

pub returns-clause-trees : goal.returns-clause-trees
returns-clause-trees c = filling-end _ _ _ _ _ _ _ _ _ _ _ c.loop-t.invariant.put c.loop-t-test.false _ refl
