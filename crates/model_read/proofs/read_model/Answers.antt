-- `model_read::read_model` meets its contract: what is misread, or has no room, changes nothing; else the trees are put. Assumes nothing.
use Rattle.std.proofs.Common.{◌≤◌, ◌<◌, subst}
use Rattle.fields.specs.Fields.{left_by}
use Rattle.model_read.specs.Calls.{good-seen, misread-answered, nodes-lack, starts-lack, fill-may, read-answered}
use Rattle.model_read.proofs.read_model.Goals as goal
use Rattle.model_read.proofs.read_model.Goals.{then-places-nodes-via-then-places-nodes, then-places-nodes-via-else-places-nodes+then-starts-trees}

pub returns-in_err-sizes-clause-model : goal.returns-in_err-sizes-clause-model
returns-in_err-sizes-clause-model c = misread-answered _ _ _ (left_by _ c.from_residual.ensures.1) c.in_err-sizes.ensures

pub returns-then-places-nodes-clause-model : goal.returns-then-places-nodes-clause-model
returns-then-places-nodes-clause-model c =
    let good = good-seen _ _ c.in_ok-sizes.ensures in elim c.then-places-nodes.branch [
      | then-places-nodes-via-then-places-nodes w ↦ nodes-lack _ _ good _ _ (subst (λ n. n < c.in_ok-sizes.sizes.nodes) c.places.ensures w.if-places-nodes.true)
      | then-places-nodes-via-else-places-nodes+then-starts-trees w ↦ starts-lack _ _ good _ _ w.if-starts-trees.true
    ]

pub put_trees-requires : goal.put_trees-requires
put_trees-requires c =
    fill-may _ _ (good-seen _ _ c.in_ok-sizes.ensures) _ _ (subst (λ n. c.in_ok-sizes.sizes.nodes ≤ n) c.places.ensures c.if-places-nodes.false) c.if-starts-trees.false

pub returns-clause-model : goal.returns-clause-model
returns-clause-model c =
    read-answered _ _ (good-seen _ _ c.in_ok-sizes.ensures) _ _ (subst (λ n. c.in_ok-sizes.sizes.nodes ≤ n) c.places.ensures c.if-places-nodes.false)
    c.if-starts-trees.false _ _ c.put_trees.ensures.trees
