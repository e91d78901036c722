-- `tree_fit::fit_tree` meets its contract: the verdict decides, and a tree that passes is grown and told of. Assumes nothing.
use Rattle.std.proofs.Common.{arith, rules, ◌≡◌, sym, ◌∙◌}
use Rattle.std.proofs.lemmas.Result.{err_from_is_err_and}
use Rattle.rules.specs.declared.FitError.{FitError}
use Rattle.tree_fit.specs.Ends.{call_in, rooms_in, fit_refused, fit-finished, few-features, size_low, size_room, plant-asks, refused-on, verdict-is, verdict-passed}
use Rattle.tree_fit.proofs.fit_tree.Goals as goal

pub returns-in_err-map_err-clause-fitted : goal.returns-in_err-map_err-clause-fitted
returns-in_err-map_err-clause-fitted c =
    let a = c.args in
    let e = err_from_is_err_and c.from_residual.result c.from_residual.ensures.1 in
    let r = refused-on _ _ _ c.map_err.ensures.cases c.in_err-map_err.field-0.0 c.in_err-map_err.was in
    let k : c.in_err-map_err.field-0.0 ≡ FitError.Refused r.0 = let q = r.2 in search rules in
    rw (e.1, e.2, k)
    (fit_refused (call_in a.shape a.settings a.tried a.input.now a.tapes.now) (rooms_in a.nodes.now a.work.now) r.0
    (sym r.1 ∙ verdict-is a.shape a.settings a.tried a.input.now a.tapes.now a.nodes.now a.work.now c.tree_verdict.ensures c.len.ensures c.min.ensures))

pub params_of-p-requires : goal.params_of-p-requires
params_of-p-requires c =
    let a = c.args in
    let p = verdict-passed a.shape a.settings a.tried a.input.now a.tapes.now a.nodes.now a.work.now c.tree_verdict.ensures c.len.ensures c.min.ensures _ c.map_err.ensures.cases c.in_ok-map_err.was in
    omega (arith, few-features _ _ p)

pub plant_in_front-planted-requires : goal.plant_in_front-planted-requires
plant_in_front-planted-requires c =
    let a = c.args in
    let p = verdict-passed a.shape a.settings a.tried a.input.now a.tapes.now a.nodes.now a.work.now c.tree_verdict.ensures c.len.ensures c.min.ensures _ c.map_err.ensures.cases c.in_ok-map_err.was in
    record {
      size_small = size_low _ _ p;
      order_long = size_room (call_in a.shape a.settings a.tried a.input.now a.tapes.now) (rooms_in a.nodes.now a.work.now) p;
      plant_asks = λ held. plant-asks (call_in a.shape a.settings a.tried a.input.now a.tapes.now) (rooms_in a.nodes.now a.work.now) p held _ c.params_of-p.ensures;
    }

pub returns-clause-fitted : goal.returns-clause-fitted
returns-clause-fitted c =
    let a = c.args in
    let p = verdict-passed a.shape a.settings a.tried a.input.now a.tapes.now a.nodes.now a.work.now c.tree_verdict.ensures c.len.ensures c.min.ensures _ c.map_err.ensures.cases c.in_ok-map_err.was in
    let l = c.plant_in_front-planted.auto in
    c.finish.ensures.finished
    ∙ fit-finished (call_in a.shape a.settings a.tried a.input.now a.tapes.now) (rooms_in a.nodes.now a.work.now) _ c.plant_in_front-planted.ensures.nodes_long
    (record { order = l.order; scratch = l.scratch; flags = l.flags; wholes = l.wholes; reals = l.reals })
    p _ c.params_of-p.ensures _ c.plant_in_front-planted.ensures.planted
