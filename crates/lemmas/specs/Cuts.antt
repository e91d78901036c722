-- What a search that finds a cut has seen to: the cut leaves rows on both sides, and the least leaf on both; and the two sides are good nodes again. Where a cut of the
-- best splitter stands: at least the greatest value of its true side, and below the least of its false side.
-- Assumes nothing.
use Rattle.std.specs.Prelude.{ℕ, ◌+◌, ◌-◌, ◌<◌, ◌≤◌, min, ◌≡◌, Bool, ◌&&◌, take, T, Float, Some, None}
use native.Mathlib.Omega.{arith}
use Rattle.std.proofs.Math.Path.{refl, ap, subst}
use Rattle.std.proofs.Common.{sym, ◌∙◌}
use Rattle.std.proofs.Math.Bool.{true, false, not}
use Rattle.std.proofs.lemmas.Bool.{false≢true}
use mathlib.Core.List.{List, [], ◌∷◌, ◌++◌, append-nil}
use Rattle.std.proofs.Math.ListN.{get_or}
use Rattle.std.specs.Float.Ieee.{lt, le, eq}
use Rattle.std.specs.Float.Ieee.Fits.{and_l, and_r}
use Rattle.floats.specs.Order.{le-trans64}
use Rattle.rules.specs.declared.Params.{Params}
use Rattle.rules.specs.declared.Splitter.{Splitter}
use Rattle.rules.specs.declared.Splitter.TheVariants.{Best, Random}
use Rattle.rules.specs.declared.Height.{Height}
use Rattle.rules.specs.declared.Cut.{Cut}
use Rattle.rules.specs.Results.{Held}
use Rattle.rules.specs.Words.{put_if, keep, total, each_once}
use Rattle.rules.specs.Totals.{empty}
use Rattle.rules.specs.Threshold.{threshold_between}
use Rattle.rules.specs.Draws.{Source, Tapes, take_words, take_threshold, next_threshold, tape}
use Rattle.rules.specs.Search.{Element, Column, at, totals_of, tally, NodeRows, goes_true, true_side, false_side, best_in}
use Rattle.rules.specs.Search.{final, drawn, Tries, draw_in, random_in, try_one, try_all, Found, no_cut, cut_found, found, search}
use Rattle.rules.specs.Growth.{Waiting, child}
use Rattle.lemmas.specs.Lists.{is_true, Every, every-imp, every_take, every-keep, keep_all, keep-none, keep_append, keep-keep, get_d-keep, total-append, total-sides, ordered-keep}
use Rattle.lemmas.specs.Once.{once-below}
use Rattle.lemmas.specs.Outs.{Then, then-then}
use Rattle.lemmas.specs.Values.{Value, le_refl, past, between}
use Rattle.lemmas.specs.Heights.{Rising, cut_at, RunEnds, run-below, HeldIs, judge-held, best-held}

-- ---- good nodes and fine cuts

-- what is known of a column of a node that is searched
pub record Sound (P : Params) (node : NodeRows) (j : ℕ) : Type 0 where
  pub known : j < P.features
  pub counted : node.count ≡ tally (get_or node.columns j [])
  pub some : Every (λ x. 1 ≤ x.count) (get_or node.columns j [])
  pub values : Every (λ x. Value (at j x)) (get_or node.columns j [])
  pub rising : Rising j (get_or node.columns j [])

-- the columns hold the same rows: by any weight, as much passes any test
abbrev pub Level : Params → NodeRows → Type 0
Level P node =
    (i j : ℕ) → i < P.features → j < P.features → (f : Element → ℕ) (p : Element → Bool)
    → total f (keep p (get_or node.columns i [])) ≡ total f (keep p (get_or node.columns j []))

pub record Good (P : Params) (node : NodeRows) : Type 0 where
  pub sound : (j : ℕ) → j < P.features → Sound P node j
  pub level : Level P node

-- a cut that leaves rows and the least leaf on both sides
pub record Fine (P : Params) (node : NodeRows) (c : Cut) : Type 0 where
  pub known : c.feature < P.features
  pub some_true : 0 < total (λ e. 1) (true_side c (get_or node.columns c.feature []))
  pub some_false : 0 < total (λ e. 1) (false_side c (get_or node.columns c.feature []))
  pub leaf_true : P.leaf ≤ tally (true_side c (get_or node.columns c.feature []))
  pub leaf_false : P.leaf ≤ tally (false_side c (get_or node.columns c.feature []))

abbrev pub FoundIs : (Cut → Type 0) → Found → Type 0
FoundIs Q no_cut = Unit {0}
FoundIs Q (cut_found c) = Q c

pub found-is : (Q : Cut → Type 0) (h : Held) → HeldIs Q h → FoundIs Q (found h)
found-is Q None g = tt
found-is Q (Some (c, q)) g = g

abbrev pub Suits : Params → NodeRows → Found → Type 0
Suits P node f = FoundIs (Fine P node) f

-- what is known of a node that waits
pub record Ripe (P : Params) (w : Waiting) : Type 0 where
  pub good : Good P w.node
  pub fine : Fine P w.node w.cut

abbrev pub HeldFine : Params → NodeRows → Held → Type 0
HeldFine P node h = HeldIs (Fine P node) h

-- ---- the best splitter

-- what stands before a place goes to the true side of the cut there, for either height, and the rest to the false side
module _ (M : Element → Type 0) (g : Height) (j : ℕ) (values : (x : Element) → M x → Value (at j x)) (col earlier : Column) (low : Element) (run : Column) (high : Element) (after : Column)
    (p : RunEnds M j col earlier low run high after) where
  abbrev pre : Column
  pre = earlier ++ (low ∷ run)

  abbrev cut : Cut
  cut = cut_at g j low high

  pub place-between : T (le (at j low) cut.threshold) × T (lt cut.threshold (at j high))
  place-between = between g (at j low) (at j high) (values low p.low_in) (values high p.high_in) p.up p.new

  pub place-sends : Every (λ x. goes_true cut x ≡ true) pre × Every (λ x. goes_true cut x ≡ false) (high ∷ after)
  unfolding goes_true
  place-sends = (
    every-imp _ _ (λ x h. is_true _ (le-trans64 (at j x) (at j low) cut.threshold h place-between.0)) pre (run-below j earlier low run (values low p.low_in) p.less p.equal),
    (
      past cut.threshold (at j high) (at j high) place-between.1 (le_refl (at j high) (values high p.high_in)),
      every-imp _ _ (λ x h. past cut.threshold (at j high) (at j x) place-between.1 h) after p.rising.0,
    ),
  )

  pub place-true : true_side cut col ≡ pre
  place-true =
      ap (true_side cut) (sym p.whole) ∙ keep_append _ pre (high ∷ after)
      ∙ (λ i. keep_all _ pre place-sends.0 i ++ keep-none _ (high ∷ after) place-sends.1 i) ∙ append-nil pre

  pub place-false : false_side cut col ≡ high ∷ after
  place-false =
      ap (false_side cut) (sym p.whole) ∙ keep_append _ pre (high ∷ after)
      ∙ (λ i. keep-none _ pre (every-imp _ _ (λ x h. ap not h) pre place-sends.0) i ++ keep_all _ (high ∷ after) (every-imp _ _ (λ x h. ap not h) (high ∷ after) place-sends.1) i)

-- where a cut stands: its true side ends in a run of equals that begins with low, and its false side begins with high, the least there
pub record Standing (g : Height) (col : Column) (c : Cut) : Type 0 where
  pub earlier : Column
  pub low : Element
  pub run : Column
  pub high : Element
  pub after : Column
  pub trues : true_side c col ≡ earlier ++ (low ∷ run)
  pub falses : false_side c col ≡ high ∷ after
  pub less : Every (λ x. T (lt (at c.feature x) (at c.feature low))) earlier
  pub equal : Every (λ x. T (eq (at c.feature x) (at c.feature low))) run
  pub least : Every (λ x. T (le (at c.feature high) (at c.feature x))) after
  pub exact : c.threshold ≡ threshold_between g (at c.feature low) (at c.feature high)
  pub at_least : T (le (at c.feature low) c.threshold)
  pub below : T (lt c.threshold (at c.feature high))

-- in the column of its own feature
abbrev pub StandsIn : Params → NodeRows → Cut → Type 0
StandsIn P node c = Standing P.height (get_or node.columns c.feature []) c

module _ (P : Params) (node : NodeRows) (j : ℕ) where
  abbrev Valued : Element → Type 0
  Valued x = Value (at j x)

  abbrev col : Column
  col = get_or node.columns j []

  module _ (known : j < P.features) (counted : node.count ≡ tally col) where
    cut-here : (earlier : Column) (low : Element) (run : Column) (high : Element) (after : Column) → RunEnds Valued j col earlier low run high after
        → P.leaf ≤ tally (earlier ++ (low ∷ run)) → P.leaf ≤ node.count - tally (earlier ++ (low ∷ run)) → Fine P node (cut_at P.height j low high)
    unfolding total
    cut-here earlier low run high after p l₁ l₂ =
        record {
          known = known;
          some_true = subst (λ r. 0 < total (λ x. 1) r) (sym ts) (omega (arith, total-append (λ x. 1) earlier (low ∷ run)));
          some_false = subst (λ r. 0 < total (λ x. 1) r) (sym fs) one_more;
          leaf_true = subst (λ r. P.leaf ≤ tally r) (sym ts) l₁;
          leaf_false = subst (λ r. P.leaf ≤ tally r) (sym fs) rest-leaf;
        }
      where
        ts : true_side (cut_at P.height j low high) col ≡ earlier ++ (low ∷ run)
        ts = place-true Valued P.height j (λ x v. v) col earlier low run high after p

        fs : false_side (cut_at P.height j low high) col ≡ high ∷ after
        fs = place-false Valued P.height j (λ x v. v) col earlier low run high after p

        one_more : 0 < 1 + total (λ x. 1) after
        one_more = omega arith

        rest-leaf : P.leaf ≤ tally (high ∷ after)
        rest-leaf = omega (arith, l₂, counted, ap tally p.whole, total-append (λ x. x.count) (earlier ++ (low ∷ run)) (high ∷ after))

    best-fine : (h : Held) → Every Valued col → Rising j col → HeldFine P node h → HeldFine P node (best_in P node j h col)
    best-fine h vs rise g = best-held P (Fine P node) node j cut-here h vs rise g

  best-stands : (h : Held) → Every Valued col → Rising j col → HeldIs (StandsIn P node) h → HeldIs (StandsIn P node) (best_in P node j h col)
  best-stands h vs rise g =
      best-held P (StandsIn P node) node j
      (λ earlier low run high after p l₁ l₂.
      record {
        earlier = earlier;
        low = low;
        run = run;
        high = high;
        after = after;
        trues = place-true Valued P.height j (λ x v. v) col earlier low run high after p;
        falses = place-false Valued P.height j (λ x v. v) col earlier low run high after p;
        less = p.less;
        equal = p.equal;
        least = p.rising.0;
        exact = refl;
        at_least = (place-between Valued P.height j (λ x v. v) col earlier low run high after p).0;
        below = (place-between Valued P.height j (λ x v. v) col earlier low run high after p).1;
      })
      h vs rise g

module _ (P : Params) (node : NodeRows) (j : ℕ) (known : j < P.features) (counted : node.count ≡ tally (get_or node.columns j [])) where
  -- ---- the random splitter

  put_some : (b : Bool) (e : Element) (es : Column) → b ≡ true → 0 < total (λ x. 1) (put_if b e es)
  unfolding put_if total
  put_some true e es h = omega arith
  put_some false e es h = absurd (false≢true h)

  put-more : (b : Bool) (e : Element) (es : Column) → 0 < total (λ x. 1) es → 0 < total (λ x. 1) (put_if b e es)
  unfolding put_if total
  put-more true e es h = omega arith
  put-more false e es h = h

  keep-last : (p : Element → Bool) (e : Element) (es : Column) → p (final e es) ≡ true → 0 < total (λ x. 1) (keep p (e ∷ es))
  unfolding keep final
  keep-last p e [] h = put_some (p e) e [] h
  keep-last p e (f ∷ fs) h = put-more (p e) e (keep p (f ∷ fs)) (keep-last p f fs h)

  value-last : (e : Element) (es : Column) → Every (λ x. Value (at j x)) (e ∷ es) → Value (at j (final e es))
  unfolding final
  value-last e [] v = v.0
  value-last e (f ∷ fs) v = value-last f fs v.1

  drawn-fine : (h : Held) (e : Element) (es : Column) (t : Float) → (e ∷ es) ≡ get_or node.columns j [] → Value (at j (final e es))
      → T (le (at j e) t) → T (lt t (at j (final e es))) → HeldFine P node h → HeldFine P node (drawn P node j h (e ∷ es) t)
  unfolding drawn goes_true keep
  drawn-fine h e es t hc v low high g =
      judge-held P (Fine P node) node h (totals_of empty (true_side c (e ∷ es))) (tally (true_side c (e ∷ es))) c g
      (λ l₁ l₂. subst (λ col. 0 < total (λ x. 1) (true_side c col) → 0 < total (λ x. 1) (false_side c col) → P.leaf ≤ tally (true_side c col) → P.leaf ≤ tally
      (false_side c col) → Fine P node c) (sym hc)
      (λ x y z u. record { known = known; some_true = x; some_false = y; leaf_true = z; leaf_false = u })
      (put_some (le (at j e) t) e (keep (λ x. le (at j x) t) es) (is_true _ low))
      (keep-last (λ x. not (le (at j x) t)) e es (ap not (past t (at j (final e es)) (at j (final e es)) high (le_refl _ v))))
      l₁
      (omega (arith, l₂, counted, ap tally hc, total-sides (λ x. x.count) (λ x. le (at j x) t) (e ∷ es))))
    where
      c : Cut
      c = record { feature = j; threshold = t }

-- ---- a search

-- a source whose draws are what they should be: features in range, thresholds from the lowest up to below the highest
pub record Fair (P : Params) {S : Type 0} (src : Source S) : Type 0 where
  pub order : (s : S) → Then (src.shuffle s) (λ o. Every (λ j. j < P.features) (take (min P.tried P.features) o.0))
  pub inside : (s : S) (lowest highest : Float) → Then (src.threshold s lowest highest) (λ m. T (le lowest m.0) × T (lt m.0 highest))

module _ (P : Params) {S : Type 0} (src : Source S) (fair : Fair P src) where
  random-fine : (node : NodeRows) (j : ℕ) (r : Tries S) → Sound P node j → HeldFine P node r.best
      → Then (random_in src P node j r (get_or node.columns j [])) (λ r'. HeldFine P node r'.best)
  unfolding random_in draw_in
  random-fine node j r s g = start (get_or node.columns j []) refl s.values
    where
      drawing : (e : Element) (es : Column) → (e ∷ es) ≡ get_or node.columns j [] → Value (at j (final e es)) → (b : Bool)
          → Then (draw_in src b P node j r e es) (λ r'. HeldFine P node r'.best)
      drawing e es hc v false = g
      drawing e es hc v true =
          then-then (src.threshold r.left (at j e) (at j (final e es))) _ _ _ (fair.inside r.left (at j e) (at j (final e es)))
          (λ m h. drawn-fine P node j s.known s.counted r.best e es m.0 hc v h.0 h.1 g)

      start : (col : Column) → col ≡ get_or node.columns j [] → Every (λ x. Value (at j x)) col → Then (random_in src P node j r col) (λ r'. HeldFine P node r'.best)
      start [] hc v = g
      start (e ∷ es) hc v = drawing e es hc (value-last P node j s.known s.counted e es v) (lt (at j e) (at j (final e es)))

  try-fine : (b : Splitter) (node : NodeRows) (j : ℕ) (r : Tries S) → Sound P node j → HeldFine P node r.best
      → Then (try_one src b P node j r) (λ r'. HeldFine P node r'.best)
  unfolding try_one
  try-fine Best node j r s g = best-fine P node j s.known s.counted r.best s.values s.rising g
  try-fine Random node j r s g = random-fine node j r s g

  -- what each feature tried keeps of the cut held holds of the cut found; K is what is known of the features
  module _ (K : ℕ → Type 0) (Q : Cut → Type 0) (node : NodeRows)
      (one : (j : ℕ) → K j → (r : Tries S) → HeldIs Q r.best → Then (try_one src P.splitter P node j r) (λ r'. HeldIs Q r'.best)) where
    pub tries-held : (js : List ℕ) (r : Tries S) → Every K js → HeldIs Q r.best → Then (try_all src P node js r) (λ r'. HeldIs Q r'.best)
    unfolding try_all
    tries-held [] r b g = g
    tries-held (j ∷ js) r b g = then-then (try_one src P.splitter P node j r) _ _ _ (one j b.0 r g) (λ r' g'. tries-held js r' b.1 g')

  module _ (Q : Cut → Type 0) (node : NodeRows)
      (one : (j : ℕ) → j < P.features → (r : Tries S) → HeldIs Q r.best → Then (try_one src P.splitter P node j r) (λ r'. HeldIs Q r'.best)) where
    search-held : (s : S) → Then (search src P s node) (λ r. FoundIs Q r.0)
    unfolding search
    search-held s =
        then-then (src.shuffle s) _ _ _ (fair.order s)
        (λ o h. then-then (try_all src P node (take (min P.tried P.features) o.0) (record { best = None; left = o.1 })) _ _ _ (tries-held (λ j. j < P.features) Q node one _ _ h tt)
        (λ r q. found-is Q r.best q))

  pub search-fine : (s : S) (node : NodeRows) → Good P node → Then (search src P s node) (λ r. Suits P node r.0)
  search-fine s node g = search-held (Fine P node) node (λ j h r q. try-fine P.splitter node j r (g.sound j h) q) s

  -- of the best splitter: where its cut stands, in columns of values that never fall
  pub search-stands : P.splitter ≡ Best → (s : S) (node : NodeRows)
      → ((j : ℕ) → j < P.features → Every (λ x. Value (at j x)) (get_or node.columns j []) × Rising j (get_or node.columns j []))
      → Then (search src P s node) (λ r. FoundIs (StandsIn P node) r.0)
  unfolding try_one
  search-stands best s node sorted = search-held (StandsIn P node) node (λ j h r q. try P.splitter best j h r q) s
    where
      random≢best : Random ≡ Best → ⊥
      random≢best e = subst is_random e tt
        where
          is_random : Splitter → Type 0
          is_random Best = ⊥
          is_random Random = Unit {0}

      try : (b : Splitter) → b ≡ Best → (j : ℕ) → j < P.features → (r : Tries S) → HeldIs (StandsIn P node) r.best → Then (try_one src b P node j r) (λ r'. HeldIs (StandsIn P node) r'.best)
      try Best e j h r q = best-stands P node j r.best (sorted j h).0 (sorted j h).1 q
      try Random e j h r q = absurd (random≢best e)

-- the tapes are fair
pub tape-fair : (P : Params) → Fair P (tape P.features)
unfolding tape take_words take_threshold next_threshold
tape-fair P = record { order = λ d. words d (each_once P.features (take P.features d.words)) (λ t. t); inside = λ d lo hi. thresholds d lo hi d.thresholds }
  where
    words : (d : Tapes) (b : Bool) → (T b → T (each_once P.features (take P.features d.words)))
        → Then (take_words b P.features d) (λ o. Every (λ j. j < P.features) (take (min P.tried P.features) o.0))
    words d false h = tt
    words d true h = every_take _ (min P.tried P.features) _ (once-below P.features _ (h tt))

    taken : (d : Tapes) (lo hi t : Float) (ts : List Float) (b : Bool) → (T b → T (le lo t && lt t hi)) → Then (take_threshold b t ts d) (λ m. T (le lo m.0) × T (lt m.0 hi))
    taken d lo hi t ts false h = tt
    taken d lo hi t ts true h = (and_l (le lo t) (lt t hi) (h tt), and_r (le lo t) (lt t hi) (h tt))

    thresholds : (d : Tapes) (lo hi : Float) (l : List Float) → Then (next_threshold l lo hi d) (λ m. T (le lo m.0) × T (lt m.0 hi))
    thresholds d lo hi [] = tt
    thresholds d lo hi (t ∷ ts) = taken d lo hi t ts (le lo t && lt t hi) (λ x. x)

-- ---- the sides of a fine cut are good

pub side-good : (P : Params) (b : Bool → Bool) (w : Waiting) → Ripe P w → Good P (child b w)
unfolding child
side-good P b w h =
    record {
      sound = λ j hj.
          record {
            known = hj;
            counted = h.good.level w.cut.feature j h.fine.known hj (λ e. e.count) p ∙ ap tally (sym (get_d-keep p w.node.columns j));
            some = subst (Every (λ x. 1 ≤ x.count)) (sym (get_d-keep p w.node.columns j)) (every-keep _ p _ (h.good.sound j hj).some);
            values = subst (Every (λ x. Value (at j x))) (sym (get_d-keep p w.node.columns j)) (every-keep _ p _ (h.good.sound j hj).values);
            rising = subst (Rising j) (sym (get_d-keep p w.node.columns j)) (ordered-keep _ p _ (h.good.sound j hj).rising);
          };
      level = λ i j hi hj f q.
          ap (λ c. total f (keep q c)) (get_d-keep p w.node.columns i) ∙ ap (total f) (keep-keep q p (get_or w.node.columns i []))
          ∙ h.good.level i j hi hj f (λ e. p e && q e)
          ∙ sym (ap (λ c. total f (keep q c)) (get_d-keep p w.node.columns j) ∙ ap (total f) (keep-keep q p (get_or w.node.columns j [])));
    }
  where
    p : Element → Bool
    p e = b (goes_true w.cut e)
