-- `search::best::step_of` meets its contract: by whether the value differs. Assumes nothing.
use Rattle.std.proofs.Common.{ap, ◌∙◌}
use Rattle.rules.specs.Search.{judge}
use Rattle.candidates.specs.Held.{bare, held_of}
use Rattle.search.specs.Flat.{sweep_of}
use Rattle.search.specs.Laws.{step_same, step-new}
use Rattle.search.proofs.best.step_of.Goals as goal

pub returns-then-e-w-clause-sweep : goal.returns-then-e-w-clause-sweep
returns-then-e-w-clause-sweep c =
    let a = c.args in
    λ j k e. step_same a.p a.a j (sweep_of k a.w) a.e (ap (held_of k) c.anew-spot.ensures) c.take_in-before.ensures c.if-e-w.true

pub returns-else-e-w-clause-sweep : goal.returns-else-e-w-clause-sweep
returns-else-e-w-clause-sweep c =
    let a = c.args in
    λ j k e. step-new a.p a.a j (sweep_of k a.w) a.e (ap (held_of k) c.anew-spot.ensures) c.take_in-before.ensures c.if-e-w.false
    (c.judge_spot.ensures.held k ∙ ap (judge a.p (bare a.a) _ a.w.before a.w.count) e)
