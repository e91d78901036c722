-- `fields::node_in` meets its contract: value and child, and what else a split says. Assumes nothing.
use Rattle.std.proofs.Common.{◌<◌, arith, refl, ◌∙◌, eq-eqb, ne_eqb}
use Rattle.rules.specs.Model.{split_at, node_at}
use Rattle.fields.specs.Fields.{split_from, child-inside, passed-so, left_by, stops, goes}
use Rattle.fields.proofs.node_in.Goals as goal

pub returns-in_err-pattern : goal.returns-in_err-pattern
unfolding node_at
returns-in_err-pattern c = left_by _ c.from_residual.ensures.1 ∙ stops _ _ _ c.in_err-pattern.ensures

pub returns-in_err-child : goal.returns-in_err-child
unfolding node_at
returns-in_err-child c = left_by _ c.from_residual-in_err-child.ensures.1 ∙ goes _ _ _ c.in_ok-pattern.ensures (stops _ _ _ c.in_err-child.ensures)

pub overflow_cast-child : goal.overflow_cast-child
overflow_cast-child c =
    let inside : c.in_ok-child.child < 4294967295 = omega (arith, child-inside _ _ _ (passed-so _ _ _ _ _ c.in_ok-child.ensures) c.if-child-eq0.false, c.requires.nodes_below) in omega (arith, inside)

pub split_in-requires-clause-child_below : goal.split_in-requires-clause-child_below
split_in-requires-clause-child_below c = omega (arith, child-inside _ _ _ (passed-so _ _ _ _ _ c.in_ok-child.ensures) c.if-child-eq0.false, c.requires.nodes_below)

pub returns-then-child-eq0 : goal.returns-then-child-eq0
unfolding node_at
returns-then-child-eq0 c =
    goes _ _ _ c.in_ok-pattern.ensures
    (goes _ _ _ c.in_ok-child.ensures (rw (eq-eqb c.in_ok-child.child 0 c.if-child-eq0.true, c.leaf_of.ensures, c.float_of-value.ensures) refl))

pub returns-else-child-eq0 : goal.returns-else-child-eq0
unfolding node_at split_at split_from
returns-else-child-eq0 c =
    goes _ _ _ c.in_ok-pattern.ensures
    (goes _ _ _ c.in_ok-child.ensures (rw (ne_eqb c.in_ok-child.child 0 c.if-child-eq0.false, c.split_in.ensures, c.float_of-value.ensures) refl))
