-- `search::judge_spot` meets its contract: what is held is judged as the definition does. Assumes nothing.
use Rattle.candidates.specs.Held.{held_of}
use Rattle.search.specs.Laws.{judge-few, judge-goes}
use Rattle.search.proofs.judge_spot.Goals as goal

pub returns-then-too_few-clause-held : goal.returns-then-too_few-clause-held
returns-then-too_few-clause-held c =
    let a = c.args in
    λ k. judge-few a.p a.a (held_of k a.s) a.t a.k (k a.place) c.too_few.ensures c.if-too_few.true

pub returns-else-too_few-clause-held : goal.returns-else-too_few-clause-held
returns-else-too_few-clause-held c =
    let a = c.args in
    λ k. judge-goes a.p a.a (held_of k a.s) a.t a.k (k a.place) c.too_few.ensures c.if-too_few.false c.proxy_in.ensures (c.better_spot.ensures.held k)
