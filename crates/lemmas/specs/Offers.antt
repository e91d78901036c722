-- A search finds a cut exactly where a feature that it tries offers one: for the best splitter a place of its column, for the random splitter the threshold drawn for it, that leaves
-- the least leaf on both sides; and the cut is at one of the features tried. Also what a search takes from the tapes: its choice words, and a threshold for each feature tried whose lowest
-- value is below its highest. Over both heights at once: where a cut stands between two values does not matter here. Assumes nothing.
use Rattle.std.specs.Prelude.{ℕ, suc, ◌+◌, ◌-◌, ◌<◌, ◌≤◌, min, ◌≡◌, refl, ◌&&◌, ◌||◌, cond, get_or, take, T, ltb, Float, Some, None}
use Rattle.std.proofs.Common.{zero-add, arith, ◌∙◌, inl, inr, leb→le, le→leb, ltb→lt, nltb→le}
use Rattle.std.proofs.Math.Path.{sym, ap, subst}
use Rattle.std.proofs.Math.Bool.{Bool, true, false, not, or-true, or-false, or_assoc}
use mathlib.Core.List.{List, [], ◌∷◌}
use Rattle.std.proofs.Math.ListN.{length, drop, length-drop}
use Rattle.std.proofs.Math.Seq.{drop-drop}
use Rattle.std.proofs.Math.Dec.{leb, not_T}
use Rattle.std.specs.Float.{nan}
use Rattle.std.specs.Float.Ieee.{lt, le, eq}
use Rattle.floats.specs.Order.{le-cases, le-of-eq64, le-trans64, lt_not_le, eq-sym}
use Rattle.rules.specs.declared.Totals.{Totals}
use Rattle.rules.specs.declared.Params.{Params}
use Rattle.rules.specs.declared.Splitter.{Splitter}
use Rattle.rules.specs.declared.Splitter.TheVariants.{Best, Random}
use Rattle.rules.specs.declared.Cut.{Cut}
use Rattle.rules.specs.Results.{Held}
use Rattle.rules.specs.declared.Sweep.{Sweep}
use Rattle.rules.specs.Words.{put_if, keep, total, member, each_once}
use Rattle.rules.specs.Totals.{empty, less, proxy}
use Rattle.rules.specs.Draws.{Out, ok, bind, Tapes, take_words, take_threshold, next_threshold, tape}
use Rattle.rules.specs.Search.{Element, Column, at, tally, NodeRows, goes_true, better, judge, candidate_at, step, sweep, best_in}
use Rattle.rules.specs.Search.{final, drawn, Tries, draw_in, random_in, try_one, try_all, Found, no_cut, cut_found, found, search}
use Rattle.lemmas.specs.Lists.{is_true, Every, every-imp, every-both, every_take, total-sides}
use Rattle.lemmas.specs.Once.{members, once-below}
use Rattle.lemmas.specs.Outs.{Then, then-then, then-any, then-both, then-after, then-of}
use Rattle.lemmas.specs.Values.{Value, eq_refl}
use Rattle.lemmas.specs.Heights.{HeldIs, judge-held, best-held}
use Rattle.lemmas.specs.Cuts.{Sound, FoundIs, found-is, tries-held, tape-fair}

-- ---- what a feature offers

-- of a column of entries with a value and a count each
module _ {A : Type 0} (value : A → Float) (count : A → ℕ) (leaf : ℕ) where
  -- a place behind x, up to which the counts are k: its value differs from the one before, and the least leaf is before it and from it on
  unfoldable pub cuts_from : ℕ → A → List A → Bool
  cuts_from k x [] = false
  cuts_from k x (y ∷ l) = (not (eq (value y) (value x)) && (leb leaf k && leb leaf (total count (y ∷ l)))) || cuts_from (k + count y) y l

  -- some place of the column
  unfoldable pub cuts_along : List A → Bool
  cuts_along [] = false
  cuts_along (x ∷ l) = cuts_from (count x) x l

  -- a threshold has the least leaf on both sides
  unfoldable pub cuts_at : List A → Float → Bool
  cuts_at l t = leb leaf (total count (keep (λ x. le (value x) t) l)) && leb leaf (total count (keep (λ x. not (le (value x) t)) l))

unfoldable pub last_of : {A : Type 0} → A → List A → A
last_of x [] = x
last_of x (y ∷ l) = last_of y l

-- the lowest value of a column that never falls is below its highest, so that a threshold is drawn between them
unfoldable pub spread : {A : Type 0} → (A → Float) → List A → Bool
spread value [] = false
spread value (x ∷ l) = lt (value x) (value (last_of x l))

-- of the features of a node
pub record Offers : Type 0 where
  -- feature j has a place to cut
  pub place : ℕ → Bool
  -- a threshold is drawn for it
  pub draws : ℕ → Bool
  -- that threshold is a cut
  pub parts : ℕ → Float → Bool

-- by their columns
abbrev pub offers_of : {A : Type 0} → (ℕ → A → Float) → (A → ℕ) → ℕ → (ℕ → List A) → Offers
offers_of value count leaf column =
    record {
      place = λ j. cuts_along (value j) count leaf (column j);
      draws = λ j. spread (value j) (column j);
      parts = λ j t. cuts_at (value j) count leaf (column j) t;
    }

-- some feature of those tried offers a cut; the random splitter takes its thresholds from the front of ts, one for each feature that it draws for
unfoldable pub offered : Offers → Splitter → List Float → List ℕ → Bool
offered o Best ts [] = false
offered o Best ts (j ∷ js) = o.place j || offered o Best ts js
offered o Random ts [] = false
offered o Random ts (j ∷ js) = cond (o.draws j) (o.parts j (get_or ts 0 nan) || offered o Random (drop 1 ts) js) (offered o Random ts js)

-- how many thresholds are taken
unfoldable pub draws_of : Offers → Splitter → List ℕ → ℕ
draws_of o Best js = 0
draws_of o Random js = length (keep o.draws js)

-- the features that a search tries, of its choice words
abbrev pub tried_of : Params → List ℕ → List ℕ
tried_of P words = take (min P.tried P.features) (take P.features words)

-- a node's own
abbrev pub node_offers : Params → NodeRows → Offers
node_offers P node = offers_of at (λ (e : Element). e.count) P.leaf (λ j. get_or node.columns j [])

abbrev pub is_cut : Found → Bool
is_cut no_cut = false
is_cut (cut_found c) = true

-- what a search that answers has found and taken
pub record Searched (P : Params) (node : NodeRows) (d : Tapes) (f : Found) (d' : Tapes) : Type 0 where
  pub found : is_cut f ≡ offered (node_offers P node) P.splitter d.thresholds (tried_of P d.words)
  pub words : d'.words ≡ drop P.features d.words
  pub thresholds : d'.thresholds ≡ drop (draws_of (node_offers P node) P.splitter (tried_of P d.words)) d.thresholds
  pub searches : d'.searches ≡ suc d.searches
  pub enough : draws_of (node_offers P node) P.splitter (tried_of P d.words) ≤ length d.thresholds
  pub known : Every (λ j. j < P.features) (tried_of P d.words)
  pub among : FoundIs (λ c. T (member c.feature (tried_of P d.words))) f

-- ---- one candidate

abbrev counts : Element → ℕ
counts e = e.count

abbrev is_held : Held → Bool
is_held h = is_cut (found h)

-- once a candidate is held, one stays held
better-holds : (h : Held) (c : Cut) (q : Float) → is_held (better h c q) ≡ true
unfolding better
better-holds None c q = refl
better-holds (Some (b, p)) c q = go (lt p q)
  where
    go : (x : Bool) → is_held (cond x (Some (c, q)) (Some (b, p))) ≡ true
    go true = refl
    go false = refl

same_test : (a b : Bool) → (T a → T b) → (T b → T a) → a ≡ b
same_test true b f g = sym (is_true b (f tt))
same_test false true f g = absurd (g tt)
same_test false false f g = refl

not-less : (a b : ℕ) → not (ltb a b) ≡ leb b a
not-less a b = same_test (not (ltb a b)) (leb b a) (λ t. le→leb b a (nltb→le a b t)) (λ t. not_T (ltb a b) (λ u. omega (arith, leb→le b a t, ltb→lt a b u)))

-- a candidate with k before it and n from it on
judge-holds : (P : Params) (node : NodeRows) (h : Held) (t : Totals) (k n : ℕ) (c : Cut) → node.count ≡ k + n
    → is_held (judge P node h t k c) ≡ (is_held h || (leb P.leaf k && leb P.leaf n))
unfolding judge
judge-holds P node h t k n c counted =
    go (ltb k P.leaf) (ltb (node.count - k) P.leaf) (proxy t (less node.totals t))
    ∙ (λ i. is_held h || (not-less k P.leaf i && (not-less (node.count - k) P.leaf ∙ ap (leb P.leaf) rest) i))
  where
    rest : node.count - k ≡ n
    rest = omega (arith, counted)

    go : (x y : Bool) (q : Float) → is_held (cond x h (cond y h (better h c q))) ≡ (is_held h || (not x && not y))
    go true y q = sym (or-false (is_held h))
    go false true q = sym (or-false (is_held h))
    go false false q = better-holds h c q ∙ sym (or-true (is_held h))

-- ---- the best splitter

eq_trans : (x y z : Float) → T (eq x y) → T (eq y z) → T (eq x z)
eq_trans x y z h k =
    let back : T (le z x) = le-trans64 z y x (le-of-eq64 z y (eq-sym y z k)) (le-of-eq64 y x (eq-sym x y h)) in
    elim (le-cases x z (le-trans64 x y z (le-of-eq64 x y h) (le-of-eq64 y z k))) [ inl l ↦ absurd (lt_not_le x z l back) | inr e ↦ e ]

-- a value is equal to both of two equals or to neither, so the first of a run will do for the one before
eq-alike : (p y z : Float) → T (eq y p) → eq z p ≡ eq z y
eq-alike p y z h = same_test (eq z p) (eq z y) (λ e. eq_trans z p y e (eq-sym y p h)) (λ e. eq_trans z y p e h)

module _ (P : Params) (node : NodeRows) (j : ℕ) where
  candidate-holds : (b : Bool) (x : Float) (w : Sweep) (n : ℕ) → node.count ≡ w.count + n
      → is_held (candidate_at b P node j x w) ≡ (is_held w.best || (b && (leb P.leaf w.count && leb P.leaf n)))
  unfolding candidate_at
  candidate-holds false x w n counted = sym (or-false (is_held w.best))
  candidate-holds true x w n counted = judge-holds P node w.best w.before w.count n _ counted

  -- the sweep, behind x: the run's first value stands for the value of x
  sweep-holds : (w : Sweep) (x : Element) (rest : Column) → ((z : Float) → eq z w.last ≡ eq z (at j x)) → node.count ≡ w.count + tally rest
      → is_held (sweep P node j w rest).best ≡ (is_held w.best || cuts_from (at j) counts P.leaf w.count x rest)
  unfolding sweep step cuts_from total
  sweep-holds w x [] same counted = sym (or-false (is_held w.best))
  sweep-holds w x (e ∷ es) same counted =
      sweep-holds (step P node j w e) e es (run (eq (at j e) w.last) refl) (omega (arith, counted))
      ∙ ap (λ b. b || later) (candidate-holds (not (eq (at j e) w.last)) (at j e) w (tally (e ∷ es)) counted)
      ∙ or_assoc (is_held w.best) (not (eq (at j e) w.last) && leaves) later
      ∙ ap (λ b. is_held w.best || ((not b && leaves) || later)) (same (at j e))
    where
      leaves : Bool
      leaves = leb P.leaf w.count && leb P.leaf (tally (e ∷ es))

      later : Bool
      later = cuts_from (at j) counts P.leaf (w.count + e.count) e es

      run : (b : Bool) → eq (at j e) w.last ≡ b → (z : Float) → eq z (cond b w.last (at j e)) ≡ eq z (at j e)
      run true h z = eq-alike w.last (at j e) z (subst T (sym h) tt)
      run false h z = refl

  best-holds : (h : Held) (col : Column) → Every (λ x. Value (at j x)) col → node.count ≡ tally col
      → is_held (best_in P node j h col) ≡ (is_held h || cuts_along (at j) counts P.leaf col)
  unfolding best_in cuts_along cuts_from
  best-holds h [] v counted = sym (or-false (is_held h))
  best-holds h (e ∷ es) v counted =
      sweep-holds (record { before = empty; count = 0; last = at j e; best = h }) e (e ∷ es) (λ z. refl) (omega (arith, counted))
      ∙ ap (λ b. is_held h || ((not b && (leb P.leaf 0 && leb P.leaf (tally (e ∷ es)))) || cuts_from (at j) counts P.leaf (0 + e.count) e es)) (eq_refl (at j e) v.0)
      ∙ ap (λ k. is_held h || cuts_from (at j) counts P.leaf k e es) (zero-add e.count)

  -- ---- the random splitter

  drawn-holds : (h : Held) (col : Column) (t : Float) → node.count ≡ tally col → is_held (drawn P node j h col t) ≡ (is_held h || cuts_at (at j) counts P.leaf col t)
  unfolding drawn goes_true cuts_at
  drawn-holds h col t counted = judge-holds P node h _ _ (tally (keep (λ x. not (le (at j x) t)) col)) _ (counted ∙ sym (total-sides counts (λ x. le (at j x) t) col))

-- ---- features one after another

-- what the first of them does to what the others offer and take
offered-first : (o : Offers) (splitter : Splitter) (ts : List Float) (j : ℕ) (js : List ℕ)
    → offered o splitter ts (j ∷ js) ≡ (offered o splitter ts (j ∷ []) || offered o splitter (drop (draws_of o splitter (j ∷ [])) ts) js)
unfolding offered draws_of keep put_if
offered-first o Best ts j js = ap (λ b. b || offered o Best ts js) (sym (or-false (o.place j)))
offered-first o Random ts j js = go (o.draws j) (o.parts j (get_or ts 0 nan))
  where
    go : (b p : Bool) → cond b (p || offered o Random (drop 1 ts) js) (offered o Random ts js) ≡ (cond b (p || false) false || offered o Random (drop (length (put_if b j [])) ts) js)
    go true p = ap (λ b. b || offered o Random (drop 1 ts) js) (sym (or-false p))
    go false p = refl

draws-add : (o : Offers) (splitter : Splitter) (j : ℕ) (js : List ℕ) → draws_of o splitter (j ∷ js) ≡ draws_of o splitter (j ∷ []) + draws_of o splitter js
unfolding draws_of keep put_if
draws-add o Best j js = refl
draws-add o Random j js = go (o.draws j)
  where
    go : (b : Bool) → length (put_if b j (keep o.draws js)) ≡ length (put_if b j []) + length (keep o.draws js)
    go true = omega arith
    go false = omega arith

-- what trying features has done: whether they offered a cut, and how many thresholds they took
record Tried (b : Bool) (n : ℕ) (r r' : Tries Tapes) : Type 0 where
  best : is_held r'.best ≡ (is_held r.best || b)
  words : r'.left.words ≡ r.left.words
  thresholds : r'.left.thresholds ≡ drop n r.left.thresholds
  searches : r'.left.searches ≡ r.left.searches
  enough : n ≤ length r.left.thresholds

untouched : (r : Tries Tapes) → Tried false 0 r r
untouched r = record { best = sym (or-false (is_held r.best)); words = refl; thresholds = refl; searches = refl; enough = omega arith }

-- where none is left there is no answer, so the default does not matter
takes-threshold : (ts : List Float) (lowest highest : Float) (d : Tapes)
    → Then (next_threshold ts lowest highest d) (λ m. (m ≡ (get_or ts 0 nan, record { words = d.words; thresholds = drop 1 ts; searches = d.searches })) × (1 ≤ length ts))
unfolding next_threshold take_threshold
takes-threshold [] lowest highest d = tt
takes-threshold (t ∷ ts) lowest highest d = go (le lowest t && lt t highest)
  where
    go : (b : Bool) → Then (take_threshold b t ts d) (λ m. (m ≡ (t, record { words = d.words; thresholds = ts; searches = d.searches })) × (1 ≤ suc (length ts)))
    go false = tt
    go true = (refl, omega arith)

final-last : (e : Element) (es : Column) → final e es ≡ last_of e es
unfolding final last_of
final-last e [] = refl
final-last e (f ∷ fs) = final-last f fs

module _ (P : Params) (node : NodeRows) where
  -- of one feature, that a threshold is drawn for or not
  abbrev One : ℕ → Column → Bool → Tries Tapes → Tries Tapes → Type 0
  One j col b r r' = Tried (cond b (cuts_at (at j) counts P.leaf col (get_or r.left.thresholds 0 nan) || false) false) (length (put_if b j [])) r r'

  random-tried : (j : ℕ) (r : Tries Tapes) (col : Column) → node.count ≡ tally col → Then (random_in (tape P.features) P node j r col) (One j col (spread (at j) col) r)
  unfolding random_in draw_in spread put_if tape
  random-tried j r [] counted = untouched r
  random-tried j r (e ∷ es) counted =
      subst (λ x. Then (draw_in (tape P.features) (lt (at j e) (at j (final e es))) P node j r e es) (One j (e ∷ es) (lt (at j e) (at j x)) r)) (final-last e es)
      (go (lt (at j e) (at j (final e es))))
    where
      go : (b : Bool) → Then (draw_in (tape P.features) b P node j r e es) (One j (e ∷ es) b r)
      go false = untouched r
      go true =
          then-then (next_threshold r.left.thresholds (at j e) (at j (final e es)) r.left) _ _ _ (takes-threshold r.left.thresholds (at j e) (at j (final e es)) r.left)
          (λ m q. subst (λ n. One j (e ∷ es) true r (record { best = drawn P node j r.best (e ∷ es) n.0; left = n.1 })) (sym q.0)
          (record {
            best = drawn-holds P node j r.best (e ∷ es) _ counted ∙ ap (λ b. is_held r.best || b) (sym (or-false _));
            words = refl;
            thresholds = refl;
            searches = refl;
            enough = q.1;
          }))

  -- of a list of features
  abbrev All : Splitter → List ℕ → Tries Tapes → Tries Tapes → Type 0
  All b js r r' = Tried (offered (node_offers P node) b r.left.thresholds js) (draws_of (node_offers P node) b js) r r'

  one-tried : (b : Splitter) (j : ℕ) (r : Tries Tapes) → Sound P node j → Then (try_one (tape P.features) b P node j r) (All b (j ∷ []) r)
  unfolding try_one offered draws_of keep
  one-tried Best j r s =
      record {
        best = best-holds P node j r.best _ s.values s.counted ∙ ap (λ b. is_held r.best || b) (sym (or-false _));
        words = refl;
        thresholds = refl;
        searches = refl;
        enough = omega arith;
      }
  one-tried Random j r s = random-tried j r (get_or node.columns j []) s.counted

  none_tried : (b : Splitter) (r : Tries Tapes) → All b [] r r
  unfolding offered draws_of keep
  none_tried Best r = untouched r
  none_tried Random r = untouched r

  all-tried : (js : List ℕ) (r : Tries Tapes) → Every (Sound P node) js → Then (try_all (tape P.features) P node js r) (All P.splitter js r)
  unfolding try_all
  all-tried [] r s = none_tried P.splitter r
  all-tried (j ∷ js) r s =
      then-then (try_one (tape P.features) P.splitter P node j r) _ _ _ (one-tried P.splitter j r s.0)
      (λ r' h. then-after (try_all (tape P.features) P node js r') _ _ (all-tried js r' s.1) (λ r'' k. both r' r'' h k))
    where
      both : (r' r'' : Tries Tapes) → All P.splitter (j ∷ []) r r' → All P.splitter js r' r'' → All P.splitter (j ∷ js) r r''
      both r' r'' h k =
          let sum = draws-add (node_offers P node) P.splitter j js in
          record {
            best =
                k.best ∙ (λ i. h.best i || offered (node_offers P node) P.splitter (h.thresholds i) js) ∙ or_assoc (is_held r.best) _ _
                ∙ ap (λ b. is_held r.best || b) (sym (offered-first (node_offers P node) P.splitter r.left.thresholds j js));
            words = k.words ∙ h.words;
            thresholds =
                k.thresholds ∙ ap (drop (draws_of (node_offers P node) P.splitter js)) h.thresholds
                ∙ drop-drop (draws_of (node_offers P node) P.splitter js) (draws_of (node_offers P node) P.splitter (j ∷ [])) r.left.thresholds
                ∙ ap (λ n. drop n r.left.thresholds) (sym sum);
            searches = k.searches ∙ h.searches;
            enough = omega (arith, sum, h.enough, k.enough, ap length h.thresholds ∙ length-drop (draws_of (node_offers P node) P.splitter (j ∷ [])) r.left.thresholds);
          }

  -- what holds of every cut at a feature tried holds of the cut held
  one-held : (Q : Cut → Type 0) (b : Splitter) (j : ℕ) → Sound P node j × ((t : Float) → Q (record { feature = j; threshold = t })) → (r : Tries Tapes) → HeldIs Q r.best
      → Then (try_one (tape P.features) b P node j r) (λ r'. HeldIs Q r'.best)
  unfolding try_one random_in draw_in drawn
  one-held Q Best j s r g = best-held P Q node j (λ earlier low run high after p l₁ l₂. s.1 _) r.best s.0.values s.0.rising g
  one-held Q Random j s r g = start (get_or node.columns j [])
    where
      drawing : (b : Bool) (e : Element) (es : Column) → Then (draw_in (tape P.features) b P node j r e es) (λ r'. HeldIs Q r'.best)
      drawing false e es = g
      drawing true e es =
          then-any ((tape P.features).threshold r.left (at j e) (at j (final e es))) _ _ (λ m. judge-held P Q node r.best _ _ _ g (λ l₁ l₂. s.1 m.0))

      start : (col : Column) → Then (random_in (tape P.features) P node j r col) (λ r'. HeldIs Q r'.best)
      start [] = g
      start (e ∷ es) = drawing (lt (at j e) (at j (final e es))) e es

-- ---- a search

pub search-offers : (P : Params) (node : NodeRows) → ((j : ℕ) → j < P.features → Sound P node j) → (d : Tapes) (f : Found) (d' : Tapes)
    → search (tape P.features) P d node ≡ ok (f, d') → Searched P node d f d'
unfolding search tape take_words bind
search-offers P node sound d f d' e =
    then-of (λ m. Searched P node d m.0 m.1) (search (tape P.features) P d node) (f, d') e (go (each_once P.features (take P.features d.words)) (λ t. t))
  where
    Among : Cut → Type 0
    Among c = T (member c.feature (tried_of P d.words))

    tries : List ℕ × Tapes → Out (Found × Tapes)
    tries o =
        bind (try_all (tape P.features) P node (take (min P.tried P.features) o.0) (record { best = None; left = o.1 }))
        (λ r. ok (found r.best, (tape P.features).done r.left))

    go : (b : Bool) → (T b → T (each_once P.features (take P.features d.words))) → Then (bind (take_words b P.features d) tries) (λ m. Searched P node d m.0 m.1)
    go false h = tt
    go true h =
        let known : Every (λ j. j < P.features) (tried_of P d.words) = every_take _ (min P.tried P.features) _ (once-below P.features _ (h tt)) in
        let sounds : Every (Sound P node) (tried_of P d.words) = every-imp _ _ sound (tried_of P d.words) known in
        then-then (try_all (tape P.features) P node (tried_of P d.words) _) _ _ _
        (then-both (try_all (tape P.features) P node (tried_of P d.words) _) _ _ (all-tried P node (tried_of P d.words) _ sounds)
        (tries-held P (tape P.features) (tape-fair P) (λ j. Sound P node j × ((t : Float) → T (member j (tried_of P d.words)))) Among node (one-held P node Among P.splitter)
        (tried_of P d.words) _ (every-both _ _ (tried_of P d.words) sounds (every-imp _ _ (λ j m t. m) (tried_of P d.words) (members (tried_of P d.words)))) tt))
        (λ r k. record {
          found = k.0.best;
          words = k.0.words;
          thresholds = k.0.thresholds;
          searches = ap suc k.0.searches;
          enough = k.0.enough;
          known = known;
          among = found-is Among r.best k.1;
        })
