-- `tree_growth::grow` meets its contract: a turn searches what is left to search and splits the last to join: one step of the waiting list, taken half a turn later.
-- What is left of the growth stays the same. Assumes nothing.
use Rattle.std.proofs.Common.{arith, rules, ◌∙◌}
use Rattle.std.proofs.lemmas.Result.{err_from_is_err_and}
use Rattle.node_entries.specs.Writes.{split-lengths}
use Rattle.tree_growth.specs.Loop.{growing-stop, growing-end, number_small, growing-top, growing-split, growing-parts, growing-less, growing-on}
use Rattle.tree_growth.proofs.grow.Goals as goal

pub returns-in_err-s-clause-grown : goal.returns-in_err-s-clause-grown
returns-in_err-s-clause-grown c =
    let e = err_from_is_err_and c.from_residual.result c.from_residual.ensures.1 in
    rw (e.1, e.2) (growing-stop c.turns.flags c.turns.invariant.growing c.search_pair.ensures c.in_err-s.field-0.0 c.in_err-s.was)

pub returns-then-s-eq0-clause-grown : goal.returns-then-s-eq0-clause-grown
returns-then-s-eq0-clause-grown c =
    growing-end c.turns.flags c.turns.invariant.growing c.search_pair.ensures c.in_ok-s.was (omega (arith, c.if-s-eq0.true))

pub top-w-requires : goal.top-w-requires
top-w-requires c =
    let t = growing-top c.turns.flags c.turns.invariant.growing c.search_pair.ensures c.in_ok-s.was c.search_pair.auto.wholes c.search_pair.auto.reals (omega (arith, c.if-s-eq0.false)) in
    record { wholes_long = t.0; reals_long = t.1 }

pub split_node-h-requires : goal.split_node-h-requires
split_node-h-requires c =
    let t = growing-split c.turns.flags c.turns.invariant.growing c.search_pair.ensures c.in_ok-s.was c.search_pair.auto.wholes c.search_pair.auto.reals (omega (arith, c.if-s-eq0.false))
    c.top-w.ensures in
    record { split_asks = t.0; room_long = t.1.0; parent_before = t.1.1; number_small = t.1.2 }

pub part_sides-q-requires : goal.part_sides-q-requires
part_sides-q-requires c =
    growing-parts c.turns.flags c.turns.invariant.growing c.search_pair.ensures c.in_ok-s.was c.search_pair.auto.wholes c.search_pair.auto.reals (omega (arith, c.if-s-eq0.false))
    c.top-w.ensures _ c.split_node-h.auto.flags c.split_node-h.ensures.split_done

pub overflow_add-at : goal.overflow_add-at
overflow_add-at c =
    omega (
      arith,
      number_small c.turns.flags c.turns.invariant.growing c.search_pair.ensures c.in_ok-s.was c.search_pair.auto.wholes c.search_pair.auto.reals (omega (arith, c.if-s-eq0.false)),
    )

pub turns-smaller : goal.turns-smaller
turns-smaller c =
    growing-less c.turns.flags c.turns.invariant.growing c.search_pair.ensures c.in_ok-s.was c.search_pair.auto.wholes c.search_pair.auto.reals (omega (arith, c.if-s-eq0.false))

pub turns-preserved : goal.turns-preserved
turns-preserved c =
    let after = c.split_node-h.ensures.nodes_after in
    record {
      growing =
          growing-on c.turns.flags c.turns.invariant.growing c.search_pair.ensures c.in_ok-s.was c.search_pair.auto.wholes c.search_pair.auto.reals (omega (arith, c.if-s-eq0.false))
          c.top-w.ensures _ c.split_node-h.auto.flags c.split_node-h.ensures.split_done after c.part_sides-q.ensures c.max.ensures c.part_sides-q.auto.scratch;
      same_slices = search rules;
      nodes_long = split-lengths _ _ _ _ _ _ after ∙ c.turns.invariant.nodes_long;
    }
