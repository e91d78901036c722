-- `search::best::best_in` meets its contract: an empty stretch keeps what is held; else the sweep starts at the first value. Assumes nothing.
use Rattle.std.proofs.Common.{◌≡◌, refl, ap, subst, ℕ, ◌∙◌, get_or, map}
use Rattle.rules.specs.declared.Cut.{Cut}
use Rattle.rules.specs.Search.{sweep}
use Rattle.candidates.specs.Held.{bare, held_of, HeldAt, earlier_of}
use Rattle.search.specs.Flat.{tables_in, element_of, cuts_in, run_at}
use Rattle.search.specs.Stretches.{cuts_read}
use Rattle.search.specs.Laws.{value-is, best_none, best-sweep}
use Rattle.search.specs.Rows.{best-found}
use Rattle.search.proofs.best.best_in.Goals as goal

pub returns-then-col-eq0-clause-best : goal.returns-then-col-eq0-clause-best
returns-then-col-eq0-clause-best c =
    let a = c.args in
    best_none (element_of a.col.now.shape.features (tables_in a.col.now.input)) a.col.now.rows.now c.if-col-eq0.true a.p a.a a.col.now.feature a.h.held

pub sweep_column-v-requires-clause-start : goal.sweep_column-v-requires-clause-start
unfolding run_at
sweep_column-v-requires-clause-start c = c.value.ensures.value

pub returns : goal.returns
unfolding cuts_in
returns c =
    let a = c.args in
    let f = a.col.now.shape.features in
    let t = tables_in a.col.now.input in
    let first = value-is f t a.col.now.feature (get_or a.col.now.rows.now 0 0) c.value.ensures.value in
    let b = earlier_of a.h.held in
    let k : ℕ → Cut = cuts_in a.p.height f a.col.now.input.values.now a.col.now.feature a.col.now.rows.now b in
    let same = c.spot_of.ensures.same k refl in
    let r = c.readable.ensures in
    let again : cuts_read a.p.height c.readable.result b ≡ k = λ i. cuts_in a.p.height (r.shape i).features (r.input i).values.now (r.feature i) (r.rows i).now b in
    let w =
    best-found f t a.col.now.feature a.col.now.rows.now c.requires.sorted b a.h c.held_of.result c.sweep_column-v.result.spot a.p.height
    (subst (λ z. HeldAt a.h c.sweep_column-v.result.spot (z c.sweep_column-v.result.spot.place) c.held_of.result) again (c.held_of.ensures b)) _ c.spot_of.ensures.earlier same
    c.sweep_column-v.ensures.stood in
    record {
      best = w.0 ∙ best-sweep (element_of f t) a.col.now.rows.now c.if-col-eq0.false a.p a.a a.col.now.feature a.h.held first same
          (c.sweep_column-v.ensures.swept b
          ∙ ap (λ z. sweep a.p (bare a.a) a.col.now.feature (record { before = z; count = 0; last = c.value.result; best = held_of k c.spot_of.result })
          (map (element_of f t) a.col.now.rows.now)) c.no_rows.ensures);
      tried = w.1;
    }
