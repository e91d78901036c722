-- `search::random::random_in` meets its contract: a threshold is taken only where the lowest value is below the highest. Assumes nothing.
use Rattle.std.proofs.Common.{◌-◌, length, get_or}
use Rattle.candidates.specs.Held.{bare}
use Rattle.search.specs.Flat.{tables_in, element_of, left}
use Rattle.search.specs.Laws.{value-is}
use Rattle.search.specs.Tries.{random-none, random-flat, random-draws}
use Rattle.search.proofs.random.random_in.Goals as goal

pub returns-then-n-eq0-clause-drawn : goal.returns-then-n-eq0-clause-drawn
returns-then-n-eq0-clause-drawn c =
    let a = c.args in
    λ W s. random-none (element_of a.col.now.shape.features (tables_in a.col.now.input)) a.col.now.rows.now c.if-n-eq0.true a.p (bare a.a) a.col.now.feature
    (record { best = a.h.held; left = left W a.thresholds.now s a.m })

pub returns-then-lo-hi-clause-drawn : goal.returns-then-lo-hi-clause-drawn
returns-then-lo-hi-clause-drawn c =
    let a = c.args in
    let f = a.col.now.shape.features in
    let t = tables_in a.col.now.input in
    let lo = value-is f t a.col.now.feature (get_or a.col.now.rows.now 0 0) c.value-lo.ensures.value in
    let hi = value-is f t a.col.now.feature (get_or a.col.now.rows.now (length a.col.now.rows.now - 1) 0) c.value-hi.ensures.value in
    λ W s. random-draws (element_of f t) a.p a.a a.col.now.feature a.h W a.thresholds.now s a.m a.col.now.rows.now c.if-n-eq0.false _ _ lo hi c.if-lo-hi.true _ (c.draw_in.ensures.drawn W s)

pub returns-else-lo-hi-clause-drawn : goal.returns-else-lo-hi-clause-drawn
returns-else-lo-hi-clause-drawn c =
    let a = c.args in
    let f = a.col.now.shape.features in
    let t = tables_in a.col.now.input in
    let lo = value-is f t a.col.now.feature (get_or a.col.now.rows.now 0 0) c.value-lo.ensures.value in
    let hi = value-is f t a.col.now.feature (get_or a.col.now.rows.now (length a.col.now.rows.now - 1) 0) c.value-hi.ensures.value in
    λ W s. random-flat (element_of f t) a.p a.a a.col.now.feature a.h W a.thresholds.now s a.m a.col.now.rows.now c.if-n-eq0.false _ _ lo hi c.if-lo-hi.false
