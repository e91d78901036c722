-- The number of rows on the true side of a cut that is held. Assumes nothing.
use Prim.Native.Nat.{ℕ, zero, suc, ◌+◌, ◌<◌}
use Rattle.std.proofs.Common.{not-suc-le-zero, le_of_suc-le-suc, arith, add-one, ◌∙◌, inl, inr, append-nil, take-append-drop, length-take, take-suc, drop-cons, Some, Ok, Err}
use Rattle.std.specs.Prelude.{◌≡◌, Bool, true, false, cond, List, [], ◌∷◌, ◌++◌, map, get_or, take, drop, Float}
use Rattle.std.proofs.Math.Path.{refl, sym, ap, subst}
use Rattle.std.proofs.Math.ListN.{length}
use Rattle.std.proofs.lemmas.List.{length-map}
use Rattle.std.proofs.Math.Dec.{T}
use Rattle.std.specs.Float.Ieee.{le, lt, eq}
use Rattle.floats.specs.Order.{le-trans64}
use Rattle.rules.specs.declared.Totals.{Totals}
use Rattle.rules.specs.declared.Params.{Params}
use Rattle.rules.specs.declared.Height.{Height}
use Rattle.rules.specs.declared.Cut.{Cut}
use Rattle.rules.specs.Words.{keep}
use Rattle.rules.specs.Lent.{cell}
use Rattle.rules.specs.Fit.{element_in}
use Rattle.rules.specs.Threshold.{threshold_between}
use Rattle.rules.specs.Search.{Column, NodeRows, at, goes_true, true_side, judge}
use Rattle.lemmas.specs.Lists.{is_true, Every, every-imp, every_append, every-at, Ordered, keep_all, keep-none, keep_append, keep-map}
use Rattle.lemmas.specs.Values.{Value, le_refl, le-eq, past, between}
use Rattle.lemmas.specs.Work.{part}
use Rattle.criterion.specs.declared.Side.{Side}
use Rattle.candidates.specs.declared.Spot.{Spot}
use Rattle.candidates.specs.declared.Candidate.{Candidate}
use Rattle.candidates.specs.Held.{bare, held_of, earlier_of, Moved, HeldAt}
use Rattle.candidates.specs.Better.{held_stays, held-moves}
use Rattle.search.specs.Flat.{Tables, element_of, node_rows_at, Sorted, cut_between, run_at, cuts_in, Stood, TriedOn, TriedBy, RowsOf, Attempt, RowsTried}
use Rattle.search.specs.Tries.{column-of}
use Rattle.search.specs.Runs.{cut-next}

-- ---- a column whose values never fall

module _ {A B : Type 0} (f : A → B) where
  every-rows : (Q : B → Type 0) (l : List A) → Every Q (map f l) → Every (λ x. Q (f x)) l
  every-rows Q [] h = tt
  every-rows Q (x ∷ l) h = (h.0, every-rows Q l h.1)

  ordered-rows : (R : B → B → Type 0) (l : List A) → Ordered R (map f l) → Ordered (λ x y. R (f x) (f y)) l
  ordered-rows R [] h = tt
  ordered-rows R (x ∷ l) h = (every-rows (R (f x)) l h.0, ordered-rows R l h.1)

-- an entry stands before all that follow
ordered-after : {A : Type 0} (R : A → A → Type 0) (l : List A) → Ordered R l → (d : A) (i : ℕ) → i < length l → Every (R (get_or l i d)) (drop (suc i) l)
ordered-after R [] o d i h = absurd (not-suc-le-zero h)
ordered-after R (x ∷ l) o d zero h = o.0
ordered-after R (x ∷ l) o d (suc i) h = ordered-after R l o.1 d i (le_of_suc-le-suc h)

module _ (v : ℕ → Float) (l : List ℕ) (vs : Every (λ r. Value (v r)) l) (up : Ordered (λ r s. T (le (v r) (v s))) l) where
  -- the value of the run that ends before place i lies between the rows before i and those from i on
  pub record Spans (i : ℕ) (p : Float) : Type 0 where
    pub value : Value p
    pub below : Every (λ r. T (le (v r) p)) (take i l)
    pub above : Every (λ r. T (le p (v r))) (drop i l)

  run-spans : (i : ℕ) → i < length l → Spans i (run_at v l i)
  unfolding run_at
  run-spans zero h =
      record {
        value = every-at _ l 0 0 vs h;
        below = tt;
        above = subst (Every (λ r. T (le (v (get_or l 0 0)) (v r)))) (sym (drop-cons l 0 0 h)) (le_refl _ (every-at _ l 0 0 vs h), ordered-after _ l up 0 0 h);
      }
  run-spans (suc i) h = go (eq (v (get_or l i 0)) (run_at v l i)) refl (run-spans i inside)
    where
      inside : i < length l
      inside = omega (arith, h)

      longer : (p : Float) → Every (λ r. T (le (v r) p)) (take i l) → T (le (v (get_or l i 0)) p) → Every (λ r. T (le (v r) p)) (take (suc i) l)
      longer p b t = subst (Every (λ r. T (le (v r) p))) (sym (take-suc l i 0 inside)) (every_append _ (take i l) (get_or l i 0 ∷ []) b (t, tt))

      go : (b : Bool) → eq (v (get_or l i 0)) (run_at v l i) ≡ b → Spans i (run_at v l i) → Spans (suc i) (cond b (run_at v l i) (v (get_or l i 0)))
      go true q s =
          record {
            value = s.value;
            below = longer _ s.below (le-eq (v (get_or l i 0)) (run_at v l i) q);
            above = (subst (Every (λ r. T (le (run_at v l i) (v r)))) (drop-cons l i 0 inside) s.above).1;
          }
      go false q s =
          let here : Value (v (get_or l i 0)) = every-at _ l 0 i vs inside in
          let up_to : T (le (run_at v l i) (v (get_or l i 0))) = (subst (Every (λ r. T (le (run_at v l i) (v r)))) (drop-cons l i 0 inside) s.above).0 in
          record {
            value = here;
            below = longer _ (every-imp _ _ (λ r t. le-trans64 (v r) (run_at v l i) (v (get_or l i 0)) t up_to) (take i l) s.below) (le_refl _ here);
            above = ordered-after _ l up 0 i inside;
          }

  -- where a run ends before place i, the rows before i are those up to the threshold between the two values
  rows_before : (g : Height) (i : ℕ) → i < length l → eq (v (get_or l i 0)) (run_at v l i) ≡ false → length (keep (λ r. le (v r) (threshold_between g (run_at v l i) (v (get_or l i 0)))) l) ≡ i
  rows_before g i h new =
      ap length (ap (keep p) (sym (take-append-drop i l)) ∙ keep_append p (take i l) (drop i l) ∙ (λ k. keep_all p (take i l) yes k ++ keep-none p (drop i l) no k) ∙ append-nil (take i l))
      ∙ length-take i l ∙ omega (arith, h)
    where
      s : Spans i (run_at v l i)
      s = run-spans i h

      x : Float
      x = v (get_or l i 0)

      there : Every (λ r. T (le (run_at v l i) (v r))) (get_or l i 0 ∷ drop (suc i) l)
      there = subst (Every (λ r. T (le (run_at v l i) (v r)))) (drop-cons l i 0 h) s.above

      mid : T (le (run_at v l i) (threshold_between g (run_at v l i) x)) × T (lt (threshold_between g (run_at v l i) x) x)
      mid = between g (run_at v l i) x s.value (every-at _ l 0 i vs h) there.0 new

      p : ℕ → Bool
      p r = le (v r) (threshold_between g (run_at v l i) x)

      yes : Every (λ r. p r ≡ true) (take i l)
      yes = every-imp _ _ (λ r t. is_true _ (le-trans64 (v r) (run_at v l i) (threshold_between g (run_at v l i) x) t mid.0)) (take i l) s.below

      no : Every (λ r. p r ≡ false) (drop i l)
      no = subst (Every (λ r. p r ≡ false)) (sym (drop-cons l i 0 h))
          (past _ x x mid.1 (le_refl x (every-at _ l 0 i vs h)), every-imp _ _ (λ r t. past _ x (v r) mid.1 t) (drop (suc i) l) (ordered-after _ l up 0 i h))

-- ---- the best splitter

module _ (f : ℕ) (t : Tables) (j : ℕ) (l : List ℕ) where
  place-rows : (g : Height) → Sorted j (map (element_of f t) l) → (i : ℕ) → i < length l → eq (cell f t.values j (get_or l i 0)) (run_at (cell f t.values j) l i) ≡ false
      → i ≡ length (true_side (cut_between g j (run_at (cell f t.values j) l i) (cell f t.values j (get_or l i 0))) (map (element_of f t) l))
  unfolding goes_true at element_in cell
  place-rows g s i h new =
      sym (rows_before (cell f t.values j) l (every-rows (element_of f t) _ l s.0) (ordered-rows (element_of f t) _ l s.1) g i h new)
      ∙ sym (length-map (keep (λ r. goes_true c (element_of f t r)) l) (element_of f t)) ∙ ap length (sym (keep-map (goes_true c) (element_of f t) l))
    where
      c : Cut
      c = cut_between g j (run_at (cell f t.values j) l i) (cell f t.values j (get_or l i 0))

  module _ (s : Sorted j (map (element_of f t) l)) (b : Cut) (h r : Candidate) (sp : Spot) (g : Height) (d : HeldAt h sp (cuts_in g f t.values j l b sp.place) r) where
    abbrev cuts : ℕ → Cut
    cuts = cuts_in g f t.values j l b

    pub best-found : (s₀ : Spot) → s₀.place ≡ 0 → held_of cuts s₀ ≡ h.held → Stood (cell f t.values j) l s₀ sp → (r.held ≡ held_of cuts sp) × TriedOn j (map (element_of f t) l) h r
    best-found s₀ z e (inl m) = let w = held_stays cuts h r sp _ d m z e in (w.1, inl w.0)
    best-found s₀ z e (inr m) =
        let w = held-moves cuts h r sp _ d m.0 m.1 m.2 (ap cuts (sym m.2)) in
        let same = ap cuts m.2 ∙ cut-next g f t.values j l b m.0 in
        (w.1, inr (_, sp.proxy, w.0 ∙ (λ k. record { held = Some ((same k), sp.proxy); rows = place-rows g s m.0 m.3 m.4 k })))

-- ---- the random splitter

-- the cuts by their places: an earlier one, or the one that is drawn
abbrev either : Cut → Cut → ℕ → Cut
either a c zero = a
either a c (suc n) = c

module _ (P : Params) (a : Side) (h r : Candidate) (s sp : Spot) (n : ℕ) (j : ℕ) (t : Float) (es : Column) (d : HeldAt h sp (record { feature = j; threshold = t }) r) where
  abbrev new : Cut
  new = record { feature = j; threshold = t }

  abbrev cut_at : ℕ → Cut
  cut_at = either (earlier_of h.held) new

  pub draw-found : s.place ≡ 0 → ((k : ℕ → Cut) → k 0 ≡ earlier_of h.held → held_of k s ≡ h.held) → Moved s (n + 1) sp → (T : Totals) (m : ℕ)
      → ((k : ℕ → Cut) → held_of k sp ≡ judge P (bare a) (held_of k s) T m (k (n + 1))) → n ≡ length (true_side new es)
      → (r.held ≡ judge P (bare a) h.held T m new) × TriedOn j es h r
  draw-found z e mv T m judged rows = go mv
    where
      there : cut_at (n + 1) ≡ new
      there = ap cut_at (add-one n)

      before : held_of cut_at s ≡ h.held
      before = e cut_at refl

      after : held_of cut_at sp ≡ judge P (bare a) h.held T m new
      after = judged cut_at ∙ (λ i. judge P (bare a) (before i) T m (there i))

      go : Moved s (n + 1) sp → (r.held ≡ judge P (bare a) h.held T m new) × TriedOn j es h r
      go (inl g) = let w = held_stays cut_at h r sp new d g z before in (w.1 ∙ after, inl w.0)
      go (inr g) =
          let w = held-moves cut_at h r sp new d n g.0 g.1 there in
          (w.1 ∙ after, inr (t, sp.proxy, w.0 ∙ ap (λ i. record { held = Some (new, sp.proxy); rows = i }) rows))

-- ---- a node

module _ (rows features from' to : ℕ) (t : Tables) (order : List ℕ) (a : Side) (P : Params) (j : ℕ) (hj : j < features) (h : Candidate) {l : List ℕ} (el : l ≡ part rows j from' to order) where
  abbrev node : NodeRows
  node = node_rows_at rows features from' to t order a

  -- what is held of a node stays right
  pub try-rows : (r : Candidate) → TriedOn j (map (element_of features t) l) h r → RowsOf features node h → RowsOf features node r
  try-rows r (inl e) g = subst (RowsOf features node) (sym e) g
  try-rows r (inr m) g =
      subst (RowsOf features node) (sym m.2)
      (hj, ap (λ es. length (true_side (record { feature = j; threshold = m.0 }) es)) (ap (map (element_of features t)) el ∙ column-of rows features from' to t order a P j hj refl))

  pub tries-rows : (r : Attempt) → TriedBy j (map (element_of features t) l) h r → RowsOf features node h → RowsTried features node r
  tries-rows (Err e) m g = tt
  tries-rows (Ok (r, n)) m g = try-rows r m g
