-- The split pass: each side row by row, and both together. Assumes nothing.
use Rattle.std.specs.Prelude.{ℕ, ◌+◌, ◌<◌, ◌≤◌, ◌≡◌, ◌⊎◌, Bool, true, false, not, length, get_or, set, take, drop, Float}
use Rattle.std.proofs.Math.Nat.{zero-add}
use Rattle.std.proofs.Common.{add-one, arith, sym, ◌∙◌, subst, inl, inr, take-append-drop, drop-cons}
use Rattle.std.proofs.Math.Path.{refl, ap}
use mathlib.Core.List.{List, [], ◌∷◌, ◌++◌, map, map-append}
use Rattle.std.proofs.Math.ListN.{drop_of_length-le}
use Rattle.rules.specs.declared.Totals.{Totals}
use Rattle.rules.specs.declared.Cut.{Cut}
use Rattle.rules.specs.Words.{keep, total}
use Rattle.rules.specs.Totals.{empty, take_in}
use Rattle.rules.specs.Search.{Element, Column, totals_of, tally, goes_true, true_side, false_side}
use Rattle.rules.specs.Fit.{element_in}
use Rattle.lemmas.specs.Lists.{Every, every_take, every_drop, keep-map, total-append}
use Rattle.criterion.specs.declared.Side.{Side}
use Rattle.criterion.specs.Sides.{side_on, joined}
use Rattle.work_columns.specs.declared.Gathered.{Gathered}
use Rattle.sweeps.specs.Swept.{fails}
use Rattle.work_columns.specs.Columns.{bare, Cleft}
use Rattle.work_columns.specs.Split.{goes, marked, GatherAsks, GatherDone, PassAsks, PassDone}
use Rattle.work_columns.specs.Setup.{totals-bare}
use Rattle.work_columns.specs.Cleft.{front-keeps, rest-keeps, cleft-count}

-- ---- one side, row by row

module _ (el : ℕ → Element) (t : Bool) (start : Totals) (l : List ℕ) (before : List Bool) where
  -- after i rows: what side, whole and flags become with the rest is what they become of all
  pub record Gathering (s : Side) (a : Totals) (flags : List Bool) (i : ℕ) : Type 0 where
    pub within : i ≤ length l
    pub room : s.count + tally (map el (drop i l)) ≡ tally (map el l)
    pub side : totals_of s.totals (map el (drop i l)) ≡ totals_of empty (map el l)
    pub all : totals_of a (map el (drop i l)) ≡ totals_of start (map el l)
    pub marks : marked (λ k. t) flags (drop i l) ≡ marked (λ k. t) before l

  pub gather-start : {s : Side} → s ≡ side_on [] → Gathering s start before 0
  unfolding totals_of total
  gather-start e =
      record {
        within = omega arith;
        room = ap (λ (z : Side). z.count + tally (map el l)) e ∙ zero-add (tally (map el l));
        side = ap (λ (z : Side). totals_of z.totals (map el l)) e;
        all = refl;
        marks = refl;
      }

  module _ (s : Side) (a : Totals) (flags : List Bool) (i : ℕ) (q : Gathering s a flags i) (h : i < length l) where
    ahead : drop i l ≡ get_or l i 0 ∷ drop (i + 1) l
    ahead = drop-cons l i 0 h ∙ ap (λ z. get_or l i 0 ∷ drop z l) (sym (add-one i))

    ahead-count : tally (map el (drop i l)) ≡ (el (get_or l i 0)).count + tally (map el (drop (i + 1) l))
    unfolding total
    ahead-count = ap (λ z. tally (map el z)) ahead

    pub gather-fits : tally (map el l) < 4294967296 → {k : ℕ} → k ≡ (el (get_or l i 0)).count → s.count + k < 4294967296
    gather-fits small e = omega (arith, e, q.room, ahead-count, small)

    pub gather-turn : {r k : ℕ} {y m : Float} {s' : Side} {a' : Totals} → r ≡ get_or l i 0 → y ≡ (el (get_or l i 0)).target → m ≡ (el (get_or l i 0)).mass → k ≡ (el (get_or l i 0)).count
        → s' ≡ joined s y m k → a' ≡ take_in a y m → Gathering s' a' (set flags r t) (i + 1)
    unfolding totals_of marked joined
    gather-turn {r} {k} {y} {m} {s'} {a'} er ey em ek es ea =
        record {
          within = omega arith;
          room = omega (arith, q.room, ahead-count, ek, ap (λ (z : Side). z.count) es);
          side = ap (λ (z : Side). totals_of z.totals (map el (drop (i + 1) l))) es ∙ (λ z. totals_of (take_in s.totals (ey z) (em z)) (map el (drop (i + 1) l)))
              ∙ ap (λ z. totals_of s.totals (map el z)) (sym ahead) ∙ q.side;
          all = ap (λ z. totals_of z (map el (drop (i + 1) l))) ea ∙ (λ z. totals_of (take_in a (ey z) (em z)) (map el (drop (i + 1) l)))
              ∙ ap (λ z. totals_of a (map el z)) (sym ahead) ∙ q.all;
          marks = ap (λ z. marked (λ k. t) (set flags z t) (drop (i + 1) l)) er ∙ ap (marked (λ k. t) flags) (sym ahead) ∙ q.marks;
        }

  pub gather-done : (s : Side) (a : Totals) (flags : List Bool) (i : ℕ) → Gathering s a flags i → length l ≤ i → GatherDone el t start l before flags (record { side = s; all = a })
  unfolding totals_of total marked
  gather-done s a flags i q h =
      let e = drop_of_length-le l h in
      let n : s.count ≡ tally (map el l) = omega (arith, q.room, ap (λ z. tally (map el z)) e) in
      record {
        side = λ k. record { totals = (ap (λ z. totals_of s.totals (map el z)) (sym e) ∙ q.side) k; count = n k };
        all = ap (λ z. totals_of a (map el z)) (sym e) ∙ q.all;
        flags = ap (marked (λ k. t) flags) (sym e) ∙ q.marks;
      }

-- ---- both sides

marked_append : (p : ℕ → Bool) (flags : List Bool) (k l : List ℕ) → marked p flags (k ++ l) ≡ marked p (marked p flags k) l
unfolding marked
marked_append p flags [] l = refl
marked_append p flags (r ∷ k) l = marked_append p (set flags r (p r)) k l

marked-alike : (p : ℕ → Bool) (t : Bool) (flags : List Bool) (l : List ℕ) → Every (λ r. p r ≡ t) l → marked (λ k. t) flags l ≡ marked p flags l
unfolding marked
marked-alike p t flags [] h = refl
marked-alike p t flags (r ∷ l) h = ap (λ z. marked (λ k. t) (set flags r z) l) (sym h.0) ∙ marked-alike p t (set flags r (p r)) l h.1

totals-append : (t : Totals) (k l : Column) → totals_of t (k ++ l) ≡ totals_of (totals_of t k) l
unfolding totals_of
totals-append t [] l = refl
totals-append t (e ∷ k) l = totals-append (take_in t e.target e.mass) k l

module _ (features : ℕ) (values targets weights : List Float) (counts : List ℕ) where
  -- the rows with their values
  abbrev whole : ℕ → Element
  whole = element_in features values targets weights counts

  -- counts see nothing of a row's values
  pub bare-tally : (l : List ℕ) → tally (map (bare targets weights counts) l) ≡ tally (map whole l)
  unfolding total element_in
  bare-tally [] = refl
  bare-tally (r ∷ l) = ap (λ n. (whole r).count + n) (bare-tally l)

  bare-side : (l : List ℕ) → side_on (map (bare targets weights counts) l) ≡ side_on (map whole l)
  bare-side l = λ i. record { totals = sym (totals-bare features values targets weights counts empty l) i; count = bare-tally l i }

  module _ (c : Cut) (l : List ℕ) (n : ℕ) (w : Cleft (goes whole c) l n) where
    pub pass-done : (before between after : List Bool) (y f : Gathered) {k₁ k₂ : List ℕ} {t : Totals} → k₁ ≡ take n l → k₂ ≡ drop n l → t ≡ empty
        → GatherDone (bare targets weights counts) true t k₁ before between y → GatherDone (bare targets weights counts) false y.all k₂ between after f
        → PassDone whole c l before after (record { trueside = y.side; falseside = f.side; all = f.all; rows = n })
    pass-done before between after y f {k₁} {k₂} {t} e₁ e₂ et dy df =
        record {
          within = w.within;
          sides = λ i. record { trueside = first i; falseside = second i; all = both i; rows = cleft-count (goes whole c) l n w i };
          flags = df.flags ∙ ap (marked (λ k. false) between) e₂ ∙ marked-alike (goes whole c) false between (drop n l) w.others
              ∙ ap (λ z. marked (goes whole c) z (drop n l)) (dy.flags ∙ ap (marked (λ k. true) before) e₁ ∙ marked-alike (goes whole c) true before (take n l) w.passed)
              ∙ sym (marked_append (goes whole c) before (take n l) (drop n l)) ∙ ap (marked (goes whole c) before) (take-append-drop n l);
        }
      where
        first : y.side ≡ side_on (true_side c (map whole l))
        first = dy.side ∙ ap (λ z. side_on (map (bare targets weights counts) z)) (e₁ ∙ sym (front-keeps (goes whole c) l n w)) ∙ bare-side (keep (goes whole c) l)
            ∙ ap side_on (sym (keep-map (goes_true c) whole l))

        second : f.side ≡ side_on (false_side c (map whole l))
        second = df.side ∙ ap (λ z. side_on (map (bare targets weights counts) z)) (e₂ ∙ sym (rest-keeps (goes whole c) l n w)) ∙ bare-side (keep (fails (goes whole c)) l)
            ∙ ap side_on (sym (keep-map (λ e. not (goes_true c e)) whole l))

        both : f.all ≡ totals_of empty (map whole l)
        both =
            df.all ∙ (λ i. totals_of (dy.all i) (map (bare targets weights counts) (e₂ i)))
            ∙ (λ i. totals_of (totals_of (et i) (map (bare targets weights counts) (e₁ i))) (map (bare targets weights counts) (drop n l)))
            ∙ sym (totals-append empty (map (bare targets weights counts) (take n l)) (map (bare targets weights counts) (drop n l)))
            ∙ ap (totals_of empty) (sym (map-append (bare targets weights counts) (take n l) (drop n l)) ∙ ap (map (bare targets weights counts)) (take-append-drop n l))
            ∙ sym (totals-bare features values targets weights counts empty l)

-- ---- a column lent in two

-- what the whole asks, each part asks
pub part-asks : {rows features : ℕ} {values targets weights : List Float} {counts : List ℕ} {c : Cut} {l : List ℕ} {n flags : ℕ}
    → PassAsks rows features values targets weights counts c l n flags
    → {k : List ℕ} → (k ≡ take n l) ⊎ (k ≡ drop n l) → GatherAsks targets weights counts k flags
part-asks {rows} {features} {values} {targets} {weights} {counts} {c} {l} {n} {flags} q {k} h =
    let all = q.shaped.tables.counted in
    record {
      tables = record { counted = refl; weighed = λ w. q.shaped.tables.weighed w ∙ sym all };
      targeted = q.shaped.targeted ∙ sym all;
      below = rows_of k h;
      count = omega (arith, q.count, less k h, bare-tally features values targets weights counts l);
      room = omega (arith, all, q.room);
    }
  where
    tallied : List ℕ → ℕ
    tallied m = tally (map (bare targets weights counts) m)

    both : tallied l ≡ tallied (take n l) + tallied (drop n l)
    both =
        ap tallied (sym (take-append-drop n l)) ∙ ap tally (map-append (bare targets weights counts) (take n l) (drop n l))
        ∙ total-append _ (map (bare targets weights counts) (take n l)) (map (bare targets weights counts) (drop n l))

    less : (k : List ℕ) → (k ≡ take n l) ⊎ (k ≡ drop n l) → tallied k ≤ tallied l
    less k (inl e) = omega (arith, both, ap tallied e)
    less k (inr e) = omega (arith, both, ap tallied e)

    below : Every (λ r. r < length counts) l
    below = subst (λ m. Every (λ r. r < m) l) (sym q.shaped.tables.counted) q.below

    rows_of : (k : List ℕ) → (k ≡ take n l) ⊎ (k ≡ drop n l) → Every (λ r. r < length counts) k
    rows_of k (inl e) = subst (Every (λ r. r < length counts)) (sym e) (every_take _ n l below)
    rows_of k (inr e) = subst (Every (λ r. r < length counts)) (sym e) (every_drop _ n l below)
