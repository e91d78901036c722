-- `model_check::nodes_seen` meets its contract: what is seen of the nodes from k on is what is seen of all. Assumes nothing.
use Rattle.std.proofs.Common.{sym, ap, ◌∙◌}
use Rattle.fields.specs.Fields.{node_entry, left_by, said_as, is-misread}
use Rattle.model_check.specs.Seen.{nodes_seen, nodes-stop, nodes-next, nodes-end, before-seen}
use Rattle.model_check.proofs.nodes_seen.Goals as goal

pub returns-in_err-_node : goal.returns-in_err-_node
returns-in_err-_node c =
    left_by _ c.from_residual.ensures.1
    ∙ sym (ap nodes_seen (nodes-stop _ _ _ _ _ _ c.loop-k-test.true (is-misread node_entry _ c.in_err-_node.ensures)))
    ∙ c.loop-k.invariant

pub loop-k-preserved : goal.loop-k-preserved
loop-k-preserved c =
    sym (ap nodes_seen (nodes-next _ _ _ _ _ _ _ c.loop-k-test.true (said_as node_entry _ c.in_ok-_node.ensures).said) ∙ before-seen _ _) ∙ c.loop-k.invariant

pub returns : goal.returns
returns c = sym (ap nodes_seen (nodes-end _ _ _ _ _ c.loop-k-test.false)) ∙ c.loop-k.invariant
