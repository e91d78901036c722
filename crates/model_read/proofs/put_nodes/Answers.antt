-- `model_read::put_nodes` meets its contract: each turn puts one node, and what is left to put makes up the whole. Assumes nothing.
use Rattle.model_read.specs.Nodes.{same-first, same-then, putting-first, putting-reads, putting-may, putting-on, putting-end, out-is_ok, taken-out}
use Rattle.model_read.proofs.put_nodes.Goals as goal

pub loop-k-init : goal.loop-k-init
loop-k-init c = record { same = same-first _; put = putting-first _ _ _ _ _ _ c.requires }

pub unwrap-next-requires : goal.unwrap-next-requires
unwrap-next-requires c =
    let p = putting-reads _ _ _ _ _ _ _ _ _ c.loop-k.invariant.put c.loop-k-test.true in out-is_ok c.node_in.ensures p.said

pub put_entry-requires : goal.put_entry-requires
put_entry-requires c = putting-may _ _ _ _ _ _ _ _ _ c.loop-k.invariant.put c.loop-k-test.true

pub loop-k-preserved : goal.loop-k-preserved
loop-k-preserved c = record {
  same = same-then _ _ _ c.loop-k.invariant.same c.put_entry.ensures.same_slices;
  put = putting-on _ _ _ _ _ _ _ _ _ c.loop-k.invariant.put c.loop-k-test.true _ (λ e next h. taken-out c.unwrap-next.ensures c.node_in.ensures h) _ c.put_entry.ensures.entry;
}

pub returns-clause-nodes : goal.returns-clause-nodes
returns-clause-nodes c = putting-end _ _ _ _ _ _ _ _ _ c.loop-k.invariant.put c.loop-k-test.false
