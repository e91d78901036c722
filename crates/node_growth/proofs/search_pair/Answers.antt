-- `node_growth::search_pair` meets its contract: each search goes on with what the one before it left of the tapes. Assumes nothing.
use Rattle.std.proofs.lemmas.Result.{err_from_is_err_and}
use Rattle.node_growth.specs.Rooms.{ground_in}
use Rattle.node_growth.specs.Pairs.{searching-stop, searching-on}
use Rattle.node_growth.proofs.search_pair.Goals as goal

pub returns-in_err-t : goal.returns-in_err-t
returns-in_err-t c =
    let a = c.args in
    let e = err_from_is_err_and c.from_residual.result c.from_residual.ensures.1 in
    rw (e.1, e.2) (searching-stop (ground_in a.shape a.input.now a.order.now) a.p a.tapes.now.words.now a.tapes.now.thresholds.now _ _ a.q a.s c.requires _ _ _ _ c.loop-k.invariant
    c.loop-k-test.true c.stretch_of-c.ensures _ _ _ c.search_child.ensures c.in_err-t.field-0.0 c.in_err-t.was)

pub loop-k-preserved : goal.loop-k-preserved
loop-k-preserved c =
    let a = c.args in
    searching-on (ground_in a.shape a.input.now a.order.now) a.p a.tapes.now.words.now a.tapes.now.thresholds.now _ _ a.q a.s c.requires _ _ _ _ c.loop-k.invariant
    c.loop-k-test.true c.stretch_of-c.ensures _ _ _ c.search_child.ensures c.in_ok-t.t c.in_ok-t.was
