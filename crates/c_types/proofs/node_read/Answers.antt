-- `c_types::node_read` meets its contract: a match on its kind. Assumes nothing.
use Rattle.std.proofs.Common.{◌<◌, arith, subst}
use Rattle.c_types.specs.Nodes.{true_child_of, leaf-told, split-told}
use Rattle.c_types.proofs.node_read.Goals as goal

pub overflow_add-result : goal.overflow_add-result
overflow_add-result c = omega (arith, subst (λ k. true_child_of k < 4294967295) c.in-Split.is c.requires)

pub returns-in-Leaf : goal.returns-in-Leaf
returns-in-Leaf c = leaf-told _ c.in-Leaf.is

pub returns-in-Split : goal.returns-in-Split
returns-in-Split c =
    split-told _ _ c.in-Split.is
