-- `model_check::tree_seen` meets its contract: the count, then as many nodes. Assumes nothing.
use Rattle.std.proofs.Common.{arith, sym, ap, ◌∙◌}
use Rattle.lemmas.specs.Fields.{goes_on}
use Rattle.fields.specs.Fields.{left_by, stops, goes, stops_at, passed-so}
use Rattle.model_check.specs.Seen.{one_tree, tree_seen, count-few, nodes-misread, nodes-said}
use Rattle.model_check.proofs.tree_seen.Goals as goal

pub nodes_seen-requires-clause-nodes_below : goal.nodes_seen-requires-clause-nodes_below
nodes_seen-requires-clause-nodes_below c = omega (arith, count-few c.args.sofar _ (passed-so _ _ _ _ _ c.in_ok-n.ensures))

pub returns-in_err-n : goal.returns-in_err-n
unfolding one_tree
returns-in_err-n c = left_by _ c.from_residual.ensures.1 ∙ stops _ _ _ c.in_err-n.ensures

pub returns-in_err-end : goal.returns-in_err-end
unfolding one_tree
returns-in_err-end c =
    left_by _ c.from_residual-in_err-end.ensures.1
    ∙ goes _ _ _ c.in_ok-n.ensures (sym (ap tree_seen (stops_at _ (nodes-misread _ c.in_err-end.ensures))))

pub returns : goal.returns
unfolding one_tree
returns c = goes _ _ _ c.in_ok-n.ensures (sym (ap tree_seen (goes_on _ (nodes-said _ c.in_ok-end.ensures).said)))
