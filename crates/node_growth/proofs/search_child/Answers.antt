-- `node_growth::search_child` meets its contract: what the search of a child finds is pushed, and a child that is not searched leaves all as it was. Assumes nothing.
use Rattle.std.proofs.Common.{sym, ◌∙◌}
use Rattle.node_growth.specs.Rooms.{ground_in}
use Rattle.node_growth.specs.InColumns.{found_in, found-short}
use Rattle.node_growth.specs.Steps.{ask-not, ask-goes}
use Rattle.node_growth.proofs.search_child.Goals as goal

pub returns-then-not-is_searched : goal.returns-then-not-is_searched
returns-then-not-is_searched c =
    ask-not _ _ _ _ _ _ _ _ (sym c.is_searched.ensures ∙ c.if-not-is_searched.true) c.requires.fair

pub push_found-requires-clause-rows_small : goal.push_found-requires-clause-rows_small
push_found-requires-clause-rows_small c =
    let a = c.args in
    found-short (ground_in a.shape a.input.now a.order.now) a.c.from a.c.to a.c.side _
    (found_in _ _ _ c.args.c.side c.requires.node _ c.requires.same _ c.search_node-found.ensures.rows)

pub returns : goal.returns
returns c =
    let a = c.args in
    ask-goes (ground_in a.shape a.input.now a.order.now) a.p _ _ _ _ a.c a.s (sym c.is_searched.ensures ∙ c.if-not-is_searched.false) c.search_node-found.ensures
    (found_in _ _ _ c.args.c.side c.requires.node _ c.requires.same _ c.search_node-found.ensures.rows) c.push_found.ensures
