-- `forest_fit::fit_forest` meets its contract: the checks decide, and a forest that passes is grown and told of. Assumes nothing.
use Rattle.std.proofs.Common.{rules}
use Rattle.std.proofs.lemmas.Result.{err_from_is_err_and}
use Rattle.forest_fit.specs.Ends.{call_in, rooms_in, refused-is, grows-in, refused-in, fit-finished}
use Rattle.forest_fit.specs.Asks.{all-asks, tell-asks}
use Rattle.forest_fit.proofs.fit_forest.Goals as goal

pub returns-in_err-growing-clause-fitted : goal.returns-in_err-growing-clause-fitted
returns-in_err-growing-clause-fitted c =
    let a = c.args in
    let e = err_from_is_err_and c.from_residual.result c.from_residual.ensures.1 in
    rw (e.1, e.2)
    (refused-in a.input.now a.tapes.now a.parts.now a.shape a.trees a.settings a.tried a.nodes.now a.starts.now a.reports.now a.work.now _ c.room_lengths-room.ensures _
    c.report_lengths-columns.ensures _ c.ready-ready.ensures
    (refused-is _ _ _ c.map_err.ensures.cases (λ r e q. search rules)) c.in_err-growing.was)

pub grow-told-requires : goal.grow-told-requires
grow-told-requires c =
    let a = c.args in
    let grows = grows-in a.input.now a.tapes.now a.parts.now a.shape a.trees a.settings a.tried a.nodes.now a.starts.now a.reports.now a.work.now _ c.room_lengths-room.ensures _
    c.report_lengths-columns.ensures _ c.ready-ready.ensures
    (refused-is _ _ _ c.map_err.ensures.cases (λ r e q. search rules)) c.in_ok-growing.was in
    all-asks (call_in a.input.now a.tapes.now a.parts.now a.shape a.trees a.settings a.tried) (rooms_in a.nodes.now a.starts.now a.reports.now a.work.now)
    grows.passed c.values_fit.ensures _ grows.made _ grows.size

pub tell-requires : goal.tell-requires
tell-requires c =
    let a = c.args in
    let grows = grows-in a.input.now a.tapes.now a.parts.now a.shape a.trees a.settings a.tried a.nodes.now a.starts.now a.reports.now a.work.now _ c.room_lengths-room.ensures _
    c.report_lengths-columns.ensures _ c.ready-ready.ensures
    (refused-is _ _ _ c.map_err.ensures.cases (λ r e q. search rules)) c.in_ok-growing.was in
    tell-asks (call_in a.input.now a.tapes.now a.parts.now a.shape a.trees a.settings a.tried) (rooms_in a.nodes.now a.starts.now a.reports.now a.work.now) grows.passed

pub returns-clause-fitted : goal.returns-clause-fitted
returns-clause-fitted c =
    let a = c.args in
    let grows = grows-in a.input.now a.tapes.now a.parts.now a.shape a.trees a.settings a.tried a.nodes.now a.starts.now a.reports.now a.work.now _ c.room_lengths-room.ensures _
    c.report_lengths-columns.ensures _ c.ready-ready.ensures
    (refused-is _ _ _ c.map_err.ensures.cases (λ r e q. search rules)) c.in_ok-growing.was in
    fit-finished (call_in a.input.now a.tapes.now a.parts.now a.shape a.trees a.settings a.tried) (rooms_in a.nodes.now a.starts.now a.reports.now a.work.now)
    grows.passed _ grows.made _ _ _ c.grow-told.ensures.done _ c.tell.ensures.left
