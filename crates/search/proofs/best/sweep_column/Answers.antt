-- `search::best::sweep_column` meets its contract: the loop's invariant: the sweep from here along the rest is the sweep of the whole. Assumes nothing.
use Rattle.std.proofs.Common.{◌≡◌, refl, sym, ap, ◌∙◌, inl, ℕ, None}
use Rattle.rules.specs.declared.Cut.{Cut}
use Rattle.rules.specs.declared.Sweep.{Sweep}
use Rattle.candidates.specs.Held.{earlier_of}
use Rattle.search.specs.Flat.{tables_in, element_of, step_in, sweep_of, cuts_in}
use Rattle.search.specs.Laws.{turn-fits, turn-room, turn-sweep, turn_end}
use Rattle.search.specs.Runs.{turn-cut, turn-run, turn-stood}
use Rattle.search.proofs.best.sweep_column.Goals as goal

pub loop-i-init : goal.loop-i-init
loop-i-init c = record { room = c.requires.room; stood = inl refl; last = c.requires.start; swept = λ b. refl }

pub step_of-v-requires : goal.step_of-v-requires
step_of-v-requires c =
    let a = c.args in
    let l = c.loop-i in
    turn-fits (element_of a.col.now.shape.features (tables_in a.col.now.input)) a.col.now.rows.now l.i c.loop-i-test.true a.col.now.feature l.v.count a.a.count c.cell.ensures l.invariant.room

pub loop-i-preserved : goal.loop-i-preserved
unfolding step_in
loop-i-preserved c =
    let a = c.args in
    let l = c.loop-i in
    let f = a.col.now.shape.features in
    let t = tables_in a.col.now.input in
    let h = c.loop-i-test.true in
    let e = c.cell.ensures in
    let k : Cut → ℕ → Cut = cuts_in a.p.height f a.col.now.input.values.now a.col.now.feature a.col.now.rows.now in
    let s : (b : Cut) → sweep_of (k b) c.step_of-v.result ≡ step_in a.p a.a a.col.now.feature (sweep_of (k b) l.v) c.cell.result = λ b.
    c.step_of-v.ensures.sweep a.col.now.feature (k b) (turn-cut f t a.col.now.feature a.col.now.rows.now l.i e l.invariant.last a.p.height b) in
    let none = earlier_of None in
    record {
      room = turn-room (element_of f t) a.col.now.rows.now l.i h a.p a.a a.col.now.feature (sweep_of (k none) l.v) a.a.count e (s none) l.invariant.room;
      stood = turn-stood f t a.col.now.feature a.col.now.rows.now l.i h a.w.spot l.v c.step_of-v.result c.cell.result e l.invariant.last c.step_of-v.ensures.stepped l.invariant.stood;
      last = turn-run f t a.col.now.feature a.col.now.rows.now l.i e l.invariant.last (ap (λ (w : Sweep). w.last) (s none));
      swept = λ b. turn-sweep (element_of f t) a.col.now.rows.now l.i h a.p a.a a.col.now.feature (sweep_of (k b) l.v) e (s b) ∙ l.invariant.swept b;
    }

pub returns : goal.returns
returns c =
    let a = c.args in
    let l = c.loop-i in
    let f = a.col.now.shape.features in
    record {
      stood = l.invariant.stood;
      swept = λ b. sym (turn_end (element_of f (tables_in a.col.now.input)) a.col.now.rows.now l.i c.loop-i-test.false a.p a.a a.col.now.feature
          (sweep_of (cuts_in a.p.height f a.col.now.input.values.now a.col.now.feature a.col.now.rows.now b) l.v)) ∙ l.invariant.swept b;
    }
