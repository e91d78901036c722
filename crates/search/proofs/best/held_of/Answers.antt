-- `search::best::held_of` meets its contract: by whether this column has the place. Assumes nothing.
use Rattle.std.proofs.Common.{subst}
use Rattle.candidates.specs.Held.{HeldAt}
use Rattle.search.specs.Runs.{cut_again}
use Rattle.search.proofs.best.held_of.Goals as goal

pub returns : goal.returns
returns c =
    λ b.
    let a = c.args in
    let s = a.col.now in
    subst (λ z. HeldAt a.h a.s z c.held_at.result)
    (cut_again a.height s.shape.features s.input.values.now s.feature s.rows.now b a.s.place c.if-s-eq0.false c.run_before-low.ensures c.value-high.ensures.value c.threshold_of.ensures.exact)
    c.held_at.ensures
