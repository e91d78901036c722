-- The definition by the code's branches. Each law takes what the tests and the calls on the way gave, in their order. Assumes nothing.
use Rattle.std.specs.Prelude.{ℕ, suc, ◌+◌, ◌-◌, ◌<◌, ◌≤◌, ◌≡◌, Bool, not, ◌||◌, List, [], ◌∷◌, map, length, get_or, drop, Float}
use Rattle.std.proofs.Common.{add_assoc, zero-add, arith, add-one, ◌∙◌, drop_of_length-le, drop-cons}
use Rattle.std.proofs.Math.Path.{refl, sym, ap}
use Rattle.std.proofs.Math.Bool.{true, false, cond}
use Rattle.std.proofs.Math.Dec.{ltb}
use Rattle.std.specs.Float.{nan}
use Rattle.std.specs.Float.Ieee.{le, eq}
use Rattle.rules.specs.declared.Totals.{Totals}
use Rattle.rules.specs.declared.Params.{Params}
use Rattle.rules.specs.declared.Cut.{Cut}
use Rattle.rules.specs.Results.{Held}
use Rattle.rules.specs.declared.Sweep.{Sweep}
use Rattle.rules.specs.Search.{Element, Column, at, better, judge, candidate_at, sweep, best_in, tally, totals_of, true_side, goes_true}
use Rattle.rules.specs.Words.{total, keep, put_if}
use Rattle.rules.specs.Totals.{take_in, less, proxy, empty}
use Rattle.rules.specs.Lent.{cell, count_in, mass_in}
use Rattle.rules.specs.Fit.{element_in}
use Rattle.criterion.specs.declared.Side.{Side}
use Rattle.criterion.specs.Sides.{joined}
use Rattle.candidates.specs.Held.{bare}
use Rattle.search.specs.declared.column.Cell.{Cell}
use Rattle.search.specs.declared.random.TrueSide.{TrueSide}
use Rattle.search.specs.Flat.{Tables, element_of, cell_of, step_in, step-cell, too_few, cut_between, side_step, true_on}

module _ (P : Params) (a : Side) (h : Held) (t : Totals) (k : ℕ) (c : Cut) where
  judge-by : (b : Bool) → too_few P a k ≡ b → judge P (bare a) h t k c ≡ cond b h (better h c (proxy t (less a.totals t)))
  unfolding judge too_few
  judge-by b e = go (ltb k P.leaf) ∙ ap (λ z. cond z h (better h c (proxy t (less a.totals t)))) e
    where
      go : (z : Bool)
          → cond z h (cond (ltb (a.count - k) P.leaf) h (better h c (proxy t (less a.totals t)))) ≡ cond (z || ltb (a.count - k) P.leaf) h
          (better h c (proxy t (less a.totals t)))
      go true = refl
      go false = refl

  pub judge-few : {b : Bool} → b ≡ too_few P a k → b ≡ true → h ≡ judge P (bare a) h t k c
  judge-few e d = sym (judge-by true (sym e ∙ d))

  pub judge-goes : {b : Bool} {q : Float} {r : Held} → b ≡ too_few P a k → b ≡ false → q ≡ proxy t (less a.totals t) → r ≡ better h c q → r ≡ judge P (bare a) h t k c
  judge-goes e d eq' er = er ∙ ap (better h c) eq' ∙ sym (judge-by false (sym e ∙ d))

pub step_same : (P : Params) (a : Side) (j : ℕ) (w : Sweep) (e : Cell) {g : Held} {b : Totals} → g ≡ w.best → b ≡ take_in w.before e.target e.mass → eq e.value w.last ≡ true
    → ◌≡◌ {A = Sweep} (record { before = b; count = w.count + e.count; last = w.last; best = g }) (step_in P a j w e)
unfolding step_in candidate_at
step_same P a j w e eg eb t = λ i.
    record {
      before = eb i;
      count = w.count + e.count;
      last = sym (ap (λ z. cond z w.last e.value) t) i;
      best = (eg ∙ sym (ap (λ z. candidate_at (not z) P (bare a) j e.value w) t)) i;
    }

pub step-new : (P : Params) (a : Side) (j : ℕ) (w : Sweep) (e : Cell) {g : Held} {b : Totals} {h : Held} → g ≡ w.best → b ≡ take_in w.before e.target e.mass → eq e.value w.last ≡ false
    → h ≡ judge P (bare a) g w.before w.count (cut_between P.height j w.last e.value)
    → ◌≡◌ {A = Sweep} (record { before = b; count = w.count + e.count; last = e.value; best = h }) (step_in P a j w e)
unfolding step_in candidate_at
step-new P a j w e eg eb n eh = λ i.
    record {
      before = eb i;
      count = w.count + e.count;
      last = sym (ap (λ z. cond z w.last e.value) n) i;
      best = (eh ∙ ap (λ z. judge P (bare a) z w.before w.count (cut_between P.height j w.last e.value)) eg ∙ sym (ap (λ z. candidate_at (not z) P (bare a) j e.value w) n)) i;
    }

pub cell-is : (f : ℕ) (t : Tables) (j i : ℕ) {m v : Float} → m ≡ mass_in t.weights t.counts i → v ≡ cell f t.values j i
    → ◌≡◌ {A = Cell} (record { count = get_or t.counts i 0; mass = m; target = get_or t.targets i nan; value = v }) (cell_of j (element_of f t i))
unfolding cell_of element_in cell count_in at
cell-is f t j i em ev = λ k. record { count = get_or t.counts i 0; mass = em k; target = get_or t.targets i nan; value = ev k }

-- ---- a loop over a column is a fold: one turn at place i, by what is left of the column

module _ (el : ℕ → Element) (l : List ℕ) (i : ℕ) (h : i < length l) where
  pub ahead : map el (drop i l) ≡ el (get_or l i 0) ∷ map el (drop (i + 1) l)
  ahead = ap (map el) (drop-cons l i 0 h) ∙ ap (λ k. el (get_or l i 0) ∷ map el (drop k l)) (sym (add-one i))

  pub turn-sweep : (P : Params) (a : Side) (j : ℕ) (v : Sweep) {e : Cell} {v' : Sweep} → e ≡ cell_of j (el (get_or l i 0)) → v' ≡ step_in P a j v e
      → sweep P (bare a) j v' (map el (drop (i + 1) l)) ≡ sweep P (bare a) j v (map el (drop i l))
  unfolding sweep
  turn-sweep P a j v ee ev =
      ap (λ u. sweep P (bare a) j u (map el (drop (i + 1) l))) (ev ∙ ap (step_in P a j v) ee ∙ step-cell P a j v (el (get_or l i 0))) ∙ sym (ap (sweep P (bare a) j v) ahead)

  pub turn-fits : (j c n : ℕ) {e : Cell} → e ≡ cell_of j (el (get_or l i 0)) → c + tally (map el (drop i l)) ≤ n → c + e.count ≤ n
  unfolding total cell_of
  turn-fits j c n {e} ee b = omega (arith, b, ap tally ahead, ap (λ (x : Cell). x.count) ee)

  pub turn-room : (P : Params) (a : Side) (j : ℕ) (v : Sweep) (n : ℕ) {e : Cell} {v' : Sweep} → e ≡ cell_of j (el (get_or l i 0)) → v' ≡ step_in P a j v e
      → v.count + tally (map el (drop i l)) ≤ n → v'.count + tally (map el (drop (i + 1) l)) ≤ n
  unfolding total cell_of step_in
  turn-room P a j v n {e} {v'} ee ev b = omega (arith, b, ap tally ahead, ap (λ (x : Cell). x.count) ee, ap (λ (x : Sweep). x.count) ev)

pub turn_end : (el : ℕ → Element) (l : List ℕ) (i : ℕ) → length l ≤ i → (P : Params) (a : Side) (j : ℕ) (v : Sweep) → sweep P (bare a) j v (map el (drop i l)) ≡ v
unfolding sweep
turn_end el l i h P a j v = ap (λ r. sweep P (bare a) j v (map el r)) (drop_of_length-le l h)

-- ---- the true side, gathered row by row onto what stands

abbrev pub onto : Cut → TrueSide → Column → TrueSide
onto c s es =
    record {
      side = record { totals = totals_of s.side.totals (true_side c es); count = s.side.count + tally (true_side c es) };
      rows = s.rows + length (true_side c es);
    }

-- no row yet
abbrev pub no_row : TrueSide
no_row = record { side = record { totals = empty; count = 0 }; rows = 0 }

onto-step : (c : Cut) (s : TrueSide) (e : Element) (es : Column) → onto c (side_step c.threshold s (cell_of c.feature e)) es ≡ onto c s (e ∷ es)
unfolding side_step cell_of keep goes_true joined total totals_of put_if
onto-step c s e es = go (le (at c.feature e) c.threshold)
  where
    go : (b : Bool) → onto c (cond b (record { side = joined s.side e.target e.mass e.count; rows = s.rows + 1 }) s) es
        ≡ record {
          side = record { totals = totals_of s.side.totals (put_if b e (true_side c es)); count = s.side.count + tally (put_if b e (true_side c es)) };
          rows = s.rows + length (put_if b e (true_side c es));
        }
    go true = λ i.
        record {
          side = record { totals = totals_of (take_in s.side.totals e.target e.mass) (true_side c es); count = add_assoc s.side.count e.count (tally (true_side c es)) i };
          rows = one s.rows (length (true_side c es)) i;
        }
      where
        one : (n m : ℕ) → n + 1 + m ≡ n + suc m
        one n m = omega arith
    go false = refl

side-most : (t : Float) (s : TrueSide) (e : Cell) → ((side_step t s e).side.count ≤ s.side.count + e.count) × ((side_step t s e).rows ≤ s.rows + 1)
unfolding side_step joined
side-most t s e = go (le e.value t)
  where
    next : Bool → TrueSide
    next b = cond b (record { side = joined s.side e.target e.mass e.count; rows = s.rows + 1 }) s

    go : (b : Bool) → ((next b).side.count ≤ s.side.count + e.count) × ((next b).rows ≤ s.rows + 1)
    go true = (omega arith, omega arith)
    go false = (omega arith, omega arith)

module _ (el : ℕ → Element) (l : List ℕ) (i : ℕ) (h : i < length l) where
  pub turn-side : (j : ℕ) (t : Float) (s : TrueSide) {e : Cell} {s' : TrueSide} → e ≡ cell_of j (el (get_or l i 0)) → s' ≡ side_step t s e
      → onto (record { feature = j; threshold = t }) s' (map el (drop (i + 1) l)) ≡ onto (record { feature = j; threshold = t }) s (map el (drop i l))
  turn-side j t s ee es =
      ap (λ u. onto (record { feature = j; threshold = t }) u (map el (drop (i + 1) l))) (es ∙ ap (side_step t s) ee)
      ∙ onto-step (record { feature = j; threshold = t }) s (el (get_or l i 0)) (map el (drop (i + 1) l))
      ∙ sym (ap (onto (record { feature = j; threshold = t }) s) (ahead el l i h))

  pub turn-most : (j : ℕ) (t : Float) (s : TrueSide) (n : ℕ) {e : Cell} {s' : TrueSide} → e ≡ cell_of j (el (get_or l i 0)) → s' ≡ side_step t s e
      → s.side.count + tally (map el (drop i l)) ≤ n → s.rows ≤ i → (s'.side.count + tally (map el (drop (i + 1) l)) ≤ n) × (s'.rows ≤ i + 1)
  unfolding total cell_of
  turn-most j t s n {e} {s'} ee es b k =
      let m = side-most t s e in (
        omega (arith, b, ap tally (ahead el l i h), ap (λ (x : Cell). x.count) ee, ap (λ (x : TrueSide). x.side.count) es, m.0),
        omega (arith, k, ap (λ (x : TrueSide). x.rows) es, m.1),
      )

pub side-end : (el : ℕ → Element) (l : List ℕ) (i : ℕ) → length l ≤ i → (c : Cut) (s : TrueSide) → onto c s (map el (drop i l)) ≡ onto c no_row (map el l)
    → s ≡ true_on c (map el l)
unfolding keep totals_of total
side-end el l i h c s e =
    (λ k. record { side = record { totals = s.side.totals; count = sym (add-zero' s.side.count) k }; rows = sym (add-zero' s.rows) k })
    ∙ sym (ap (λ r. onto c s (map el r)) (drop_of_length-le l h)) ∙ e
    ∙ (λ k.
    record {
      side = record { totals = totals_of empty (true_side c (map el l)); count = zero-add (tally (true_side c (map el l))) k };
      rows = zero-add (length (true_side c (map el l))) k;
    })
  where
    add-zero' : (n : ℕ) → n + 0 ≡ n
    add-zero' n = omega arith

-- ---- the first of a column

pub value-is : (f : ℕ) (t : Tables) (j i : ℕ) {v : Float} → v ≡ cell f t.values j i → v ≡ at j (element_of f t i)
unfolding at element_in cell
value-is f t j i e = e

pub best_none : (el : ℕ → Element) (l : List ℕ) → length l ≡ 0 → (P : Params) (a : Side) (j : ℕ) (h : Held) → h ≡ best_in P (bare a) j h (map el l)
unfolding best_in
best_none el [] e P a j h = refl
best_none el (x ∷ l) e P a j h = absurd (omega arith)

pub best-sweep : (el : ℕ → Element) (l : List ℕ) → (length l ≡ 0 → ⊥) → (P : Params) (a : Side) (j : ℕ) (h : Held) {first : Float} {g : Held} {v : Sweep} → first ≡ at j (el (get_or l 0 0)) → g ≡ h
    → v ≡ sweep P (bare a) j (record { before = empty; count = 0; last = first; best = g }) (map el l) → v.best ≡ best_in P (bare a) j h (map el l)
unfolding best_in
best-sweep el [] n P a j h ef eg ev = absurd (n refl)
best-sweep el (x ∷ l) n P a j h {first} ef eg ev =
    ap (λ w. w.best)
    (ev ∙ ap (λ z. sweep P (bare a) j (record { before = empty; count = 0; last = first; best = z }) (map el (x ∷ l))) eg
    ∙ ap (λ z. sweep P (bare a) j (record { before = empty; count = 0; last = z; best = h }) (map el (x ∷ l))) ef)
