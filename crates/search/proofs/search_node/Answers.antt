-- `search::search_node` meets its contract: too few words or no permutation is a bad draw; else the features are tried and the tapes moved on. Assumes nothing.
use Rattle.std.proofs.Common.{arith, refl, sym, ap, subst, ◌∙◌, Err, Ok, length, min}
use Rattle.std.proofs.lemmas.List.{take_rest, length-drop}
use Rattle.std.proofs.lemmas.Result.{err_from_is_err_and}
use Rattle.search.specs.Flat.{tables_in, node_rows_at, Attempt, RowsTried, Searched}
use Rattle.search.specs.Tries.{chosen-once, chosen_at, search-bad, search-short, search-stop, search-goes}
use Rattle.search.proofs.search_node.Goals as goal
use Rattle.search.proofs.search_node.Goals.{then-words-features-via-then-words-features, then-words-features-via-else-words-features+then-not-choice_good}

pub returns-then-words-features : goal.returns-then-words-features
returns-then-words-features c =
    let a = c.args in
    let n = a.shape in
    let W = a.tapes.now.words.now in
    let q = c.requires in
    let node = node_rows_at n.rows n.features a.from a.to (tables_in a.input.now) a.order.now a.a in
    elim c.then-words-features.branch [
      | then-words-features-via-then-words-features w ↦
          search-short a.p W a.tapes.now.thresholds.now node a.d q.fair (omega (arith, q.same, ap length (take_rest W a.d.words), w.if-words-features.true)) _
      | then-words-features-via-else-words-features+then-not-choice_good w ↦
          search-bad a.p W a.tapes.now.thresholds.now node a.d q.fair
          (sym (chosen-once n.features a.p.features a.d.words W q.same w.if-words-features.false w.choice_good.ensures) ∙ w.if-not-choice_good.true) _
    ]

pub try_all-requires-clause-features : goal.try_all-requires-clause-features
try_all-requires-clause-features c =
    let a = c.args in
    let n = a.shape.features in
    let W = a.tapes.now.words.now in
    rw take_rest
    (chosen_at n _ (sym (chosen-once n n a.d.words W refl c.if-words-features.false c.choice_good.ensures) ∙ c.if-not-choice_good.false) _ (omega (arith, c.min-tried.ensures)))

pub returns-in_err-h : goal.returns-in_err-h
returns-in_err-h c =
    let a = c.args in
    let n = a.shape in
    let W = a.tapes.now.words.now in
    let M = a.tapes.now.thresholds.now in
    let q = c.requires in
    let node = node_rows_at n.rows n.features a.from a.to (tables_in a.input.now) a.order.now a.a in
    let good = sym (chosen-once n.features a.p.features a.d.words W q.same c.if-words-features.false c.choice_good.ensures) ∙ c.if-not-choice_good.false in
    subst (Searched a.p W M node a.d) (sym (err_from_is_err_and c.from_residual.result c.from_residual.ensures.1).1)
    (search-stop a.p W M node a.d q.fair good (c.min-tried.ensures ∙ ap (min a.p.tried) q.same) (Err c.in_err-h.field-0.0)
    (rw (take_rest W a.d.words) at c.in_err-h.ensures.tried) refl _)

pub returns : goal.returns
returns c =
    let a = c.args in
    let n = a.shape in
    let W = a.tapes.now.words.now in
    let M = a.tapes.now.thresholds.now in
    let q = c.requires in
    let node = node_rows_at n.rows n.features a.from a.to (tables_in a.input.now) a.order.now a.a in
    let good = sym (chosen-once n.features a.p.features a.d.words W q.same c.if-words-features.false c.choice_good.ensures) ∙ c.if-not-choice_good.false in
    let r : Attempt = Ok (c.in_ok-h.h, c.in_ok-h.m) in
    search-goes a.p W M node a.d q.fair good (c.min-tried.ensures ∙ ap (min a.p.tried) q.same) r (rw (take_rest W a.d.words) at c.in_ok-h.ensures.tried) _ _ refl
    (subst (λ k. RowsTried k node r) q.same c.in_ok-h.ensures.rows) n.features q.same
    (omega (arith, length-drop a.d.words W, ap length (take_rest W a.d.words), c.if-words-features.false)) q.some
