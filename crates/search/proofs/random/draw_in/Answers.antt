-- `search::random::draw_in` meets its contract: a threshold that is there and between lowest and highest is judged by the side it makes. Assumes nothing.
use Rattle.std.proofs.Common.{sym, ap, ◌∙◌, map}
use Rattle.search.specs.Flat.{tables_in, element_of}
use Rattle.search.specs.declared.random.TrueSide.{TrueSide}
use Rattle.search.specs.Rows.{draw-found}
use Rattle.search.specs.Tries.{draw-none, draw-out, draw-good}
use Rattle.search.proofs.random.draw_in.Goals as goal

pub returns-then-thresholds-m-clause-drawn : goal.returns-then-thresholds-m-clause-drawn
returns-then-thresholds-m-clause-drawn c =
    let a = c.args in
    λ W s. draw-none a.p a.a a.col.now.feature a.h.held (map (element_of a.col.now.shape.features (tables_in a.col.now.input)) a.col.now.rows.now) W a.thresholds.now s a.m a.lo a.hi c.if-thresholds-m.true

pub returns-then-not-in_reach-clause-drawn : goal.returns-then-not-in_reach-clause-drawn
returns-then-not-in_reach-clause-drawn c =
    let a = c.args in
    λ W s. draw-out a.p a.a a.col.now.feature a.h.held (map (element_of a.col.now.shape.features (tables_in a.col.now.input)) a.col.now.rows.now) W a.thresholds.now s a.m a.lo a.hi
    c.if-thresholds-m.false (sym c.in_reach.ensures ∙ c.if-not-in_reach.true)

pub returns : goal.returns
returns c =
    let a = c.args in
    let es = map (element_of a.col.now.shape.features (tables_in a.col.now.input)) a.col.now.rows.now in
    let g = c.spot_of-spot.ensures in
    let s = c.judge_spot-next.ensures in
    let side = c.true_side-s in
    let w =
    draw-found a.p a.a a.h c.held_at.result _ _ side.result.rows a.col.now.feature _ es c.held_at.ensures g.earlier g.same s.moved _ _ s.held
    (ap (λ (z : TrueSide). z.rows) side.ensures.same) in
    record {
      drawn = λ W s. draw-good a.p a.a a.col.now.feature a.h.held es W a.thresholds.now s a.m a.lo a.hi c.if-thresholds-m.false (sym c.in_reach.ensures ∙ c.if-not-in_reach.false)
          c.held_at.result (ap (λ (z : TrueSide). z.side) side.ensures.same) w.0;
      tried = w.1;
    }
