-- Trying the features of a node, by the code's branches. Assumes nothing.
use Prim.Native.Nat.{ℕ, zero, suc, ◌+◌, ◌-◌, ◌*◌, ◌<◌, ◌≤◌, min}
use Rattle.std.proofs.Common.{not-suc-le-zero, zero-add, le_of_suc-le-suc, add-one, ◌∙◌, drop_of_length-le, length-take, ltb-true, ne_eqb, drop-cons, get_or-take, take-take, drop-drop, None, Ok, Err}
use Rattle.std.proofs.lemmas.List.{take_rest}
use native.Mathlib.Omega.{arith}
use Rattle.std.specs.Prelude.{◌≡◌, Bool, not, ◌&&◌, length, take, ltb, Float}
use Rattle.std.proofs.Math.Path.{refl, sym, ap, subst}
use Rattle.std.proofs.Math.Bool.{true, false, cond}
use mathlib.Core.List.{List, [], ◌∷◌, map}
use Rattle.std.proofs.Math.ListN.{get_or, drop}
use Rattle.std.specs.Float.Ieee.{nan, lt, le, eq}
use Rattle.rules.specs.declared.Params.{Params}
use Rattle.rules.specs.Results.{Held}
use Rattle.rules.specs.declared.Sweep.{Sweep}
use Rattle.rules.specs.Search.{Element, Column, NodeRows, at, judge, candidate_at, step, sweep, best_in, true_side, Tries, drawn, draw_in, random_in, try_one, try_all, final, search, found, Found}
use Rattle.rules.specs.Words.{member, fresh, each_once}
use Rattle.rules.specs.Totals.{take_in, empty}
use Rattle.rules.specs.Draws.{Out, bad, ok, bind, Tapes, tape, next_threshold, take_threshold, take_words}
use Rattle.criterion.specs.declared.Side.{Side}
use Rattle.criterion.specs.Sides.{side_on}
use Rattle.candidates.specs.declared.Candidate.{Candidate}
use Rattle.candidates.specs.Held.{bare}
use Rattle.search.specs.Flat.{Tables, element_of, left, meant_tries, draw_at, node_rows_at, draws_at, Fair, Attempt, RowsTried, Searched}
use Rattle.search.specs.declared.Drawn.{Drawn}
use Rattle.search.specs.declared.BadDraw.{BadDraw}
use Rattle.lemmas.specs.Lists.{get_d-from}
use Rattle.rules.specs.declared.Splitter.{Splitter}
use Rattle.rules.specs.declared.Splitter.TheVariants.{Best, Random}
use Rattle.lemmas.specs.Work.{part, columns_at}

-- ---- a threshold off the tape

module _ (P : Params) (a : Side) (j : ℕ) (h : Held) (es : Column) (W : List ℕ) (M : List Float) (s m : ℕ) (lo hi : Float) where
  abbrev go_on : Float × Tapes → Out (Tries Tapes)
  go_on q = ok (record { best = drawn P (bare a) j h es q.0; left = q.1 })

  pub draw-none : length M ≤ m → bad s ≡ draw_at P (bare a) j h es (left W M s m) lo hi
  unfolding draw_at next_threshold bind
  draw-none k = sym (ap (λ l. bind (next_threshold l lo hi (left W M s m)) go_on) (drop_of_length-le M k))

  draw-by : m < length M → (b : Bool) → (le lo (get_or M m nan) && lt (get_or M m nan) hi) ≡ b
      → bind (take_threshold b (get_or M m nan) (drop (suc m) M) (left W M s m)) go_on ≡ draw_at P (bare a) j h es (left W M s m) lo hi
  unfolding draw_at next_threshold
  draw-by k b e =
      sym (ap (λ l. bind (next_threshold l lo hi (left W M s m)) go_on) (drop-cons M m nan k)
      ∙ ap (λ z. bind (take_threshold z (get_or M m nan) (drop (suc m) M) (left W M s m)) go_on) e)

  pub draw-out : m < length M → (le lo (get_or M m nan) && lt (get_or M m nan) hi) ≡ false → bad s ≡ draw_at P (bare a) j h es (left W M s m) lo hi
  unfolding take_threshold bind
  draw-out k e = draw-by k false e

  pub draw-good : m < length M → (le lo (get_or M m nan) && lt (get_or M m nan) hi) ≡ true → {q : Side} (b : Candidate)
      → q ≡ side_on (true_side (record { feature = j; threshold = get_or M m nan }) es) → b.held ≡ judge P (bare a) h q.totals q.count (record { feature = j; threshold = get_or M m nan })
      → meant_tries W M s (Ok (b, m + 1)) ≡ draw_at P (bare a) j h es (left W M s m) lo hi
  unfolding take_threshold bind drawn
  draw-good k e {q} b eq' eb =
      ap (λ z. ok (record { best = z; left = left W M s (m + 1) })) (eb ∙ ap (λ (z : Side). judge P (bare a) h z.totals z.count (record { feature = j; threshold = get_or M m nan })) eq')
      ∙ ap (λ n. ok (record { best = drawn P (bare a) j h es (get_or M m nan); left = left W M s n })) (add-one m)
      ∙ draw-by k true e

-- ---- the random splitter

final-at : (el : ℕ → Element) (x : ℕ) (l : List ℕ) → final (el x) (map el l) ≡ el (get_or (x ∷ l) (length l) 0)
unfolding final
final-at el x [] = refl
final-at el x (y ∷ l) = final-at el y l

pub random-none : (el : ℕ → Element) (l : List ℕ) → length l ≡ 0 → (P : Params) (node : NodeRows) (j : ℕ) (r : Tries Tapes) → ok r ≡ random_in (tape P.features) P node j r (map el l)
unfolding random_in
random-none el [] e P node j r = refl
random-none el (x ∷ l) e P node j r = absurd (omega arith)

module _ (el : ℕ → Element) (P : Params) (a : Side) (j : ℕ) (h : Candidate) (W : List ℕ) (M : List Float) (s m : ℕ) where
  random-by : (l : List ℕ) → (length l ≡ 0 → ⊥) → (lo hi : Float) → lo ≡ at j (el (get_or l 0 0)) → hi ≡ at j (el (get_or l (length l - 1) 0)) → (b : Bool) → lt lo hi ≡ b → (q : Out (Tries Tapes))
      → ((e : Element) (es : Column) → (e ∷ es) ≡ map el l → at j e ≡ lo → at j (final e es) ≡ hi
      → q ≡ draw_in (tape P.features) b P (bare a) j (record { best = h.held; left = left W M s m }) e es)
      → q ≡ random_in (tape P.features) P (bare a) j (record { best = h.held; left = left W M s m }) (map el l)
  unfolding random_in
  random-by [] n lo hi el' eh b e q k = absurd (n refl)
  random-by (x ∷ l) n lo hi el' eh b e q k =
      k (el x) (map el l) refl (sym el') last
      ∙ sym (ap (λ z. draw_in (tape P.features) z P (bare a) j (record { best = h.held; left = left W M s m }) (el x) (map el l)) (ap (λ z. lt z (at j (final (el x)
      (map el l)))) (sym el') ∙ ap (lt lo) last ∙ e))
    where
      less_one : (n : ℕ) → suc n - 1 ≡ n
      less_one n = omega arith

      last : at j (final (el x) (map el l)) ≡ hi
      last = ap (at j) (final-at el x l) ∙ ap (λ n. at j (el (get_or (x ∷ l) n 0))) (sym (less_one (length l))) ∙ sym eh

  pub random-flat : (l : List ℕ) → (length l ≡ 0 → ⊥) → (lo hi : Float) → lo ≡ at j (el (get_or l 0 0)) → hi ≡ at j (el (get_or l (length l - 1) 0)) → lt lo hi ≡ false
      → meant_tries W M s (Ok (h, m)) ≡ random_in (tape P.features) P (bare a) j (record { best = h.held; left = left W M s m }) (map el l)
  unfolding draw_in
  random-flat l n lo hi el' eh e = random-by l n lo hi el' eh false e (meant_tries W M s (Ok (h, m))) (λ x es i p q. refl)

  pub random-draws : (l : List ℕ) → (length l ≡ 0 → ⊥) → (lo hi : Float) → lo ≡ at j (el (get_or l 0 0)) → hi ≡ at j (el (get_or l (length l - 1) 0)) → lt lo hi ≡ true
      → (q : Out (Tries Tapes)) → q ≡ draw_at P (bare a) j h.held (map el l) (left W M s m) lo hi
      → q ≡ random_in (tape P.features) P (bare a) j (record { best = h.held; left = left W M s m }) (map el l)
  unfolding draw_in draw_at tape
  random-draws l n lo hi el' eh e q d =
      random-by l n lo hi el' eh true e q
      (λ x es i p r. d ∙ ap (λ z. draw_at P (bare a) j h.held z (left W M s m) lo hi) (sym i)
      ∙ ap (λ z. draw_at P (bare a) j h.held (x ∷ es) (left W M s m) z hi) (sym p) ∙ ap (λ z. draw_at P (bare a) j h.held (x ∷ es) (left W M s m) (at j x) z) (sym r))

-- ---- of a node only the totals and the count are read

module _ (P : Params) (a : Side) (C : List Column) (j : ℕ) where
  abbrev full : NodeRows
  full = record { columns = C; totals = a.totals; count = a.count }

  run-bare : (b : Bool) (x : Float) (w : Sweep) → candidate_at b P (bare a) j x w ≡ candidate_at b P full j x w
  unfolding candidate_at judge
  run-bare true x w = refl
  run-bare false x w = refl

  sweep-bare : (w : Sweep) (es : Column) → sweep P (bare a) j w es ≡ sweep P full j w es
  unfolding sweep step
  sweep-bare w [] = refl
  sweep-bare w (e ∷ es) =
      ap (λ z. sweep P (bare a) j (record { before = take_in w.before e.target e.mass; count = w.count + e.count; last = cond (eq (at j e) w.last) w.last (at j e); best = z }) es)
      (run-bare (not (eq (at j e) w.last)) (at j e) w)
      ∙ sweep-bare (step P full j w e) es

  best-bare : (h : Held) (es : Column) → best_in P (bare a) j h es ≡ best_in P full j h es
  unfolding best_in
  best-bare h [] = refl
  best-bare h (e ∷ es) = ap (λ (w : Sweep). w.best) (sweep-bare (record { before = empty; count = 0; last = at j e; best = h }) (e ∷ es))

  draw-bare : (r : Tries Tapes) (e : Element) (es : Column) (b : Bool) → draw_in (tape P.features) b P (bare a) j r e es ≡ draw_in (tape P.features) b P full j r e es
  unfolding draw_in drawn judge
  draw-bare r e es true = refl
  draw-bare r e es false = refl

  random-bare : (r : Tries Tapes) (es : Column) → random_in (tape P.features) P (bare a) j r es ≡ random_in (tape P.features) P full j r es
  unfolding random_in
  random-bare r [] = refl
  random-bare r (e ∷ es) = go (lt (at j e) (at j (final e es)))
    where
      go : (b : Bool) → draw_in (tape P.features) b P (bare a) j r e es ≡ draw_in (tape P.features) b P full j r e es
      go = draw-bare r e es

-- ---- one feature

pub part-is : (rows : ℕ) (order : List ℕ) (a e k : ℕ) {k' : ℕ} → k' ≡ k → a ≤ e → take (k' * rows + e - (k' * rows + a)) (drop (k' * rows + a) order) ≡ part rows k a e order
part-is rows order a e k {k'} q h = ap (λ n. take n (drop (k' * rows + a) order)) (width (k' * rows)) ∙ ap (λ n. take (e - a) (drop (n * rows + a) order)) q
  where
    width : (b : ℕ) → b + e - (b + a) ≡ e - a
    width b = omega arith

module _ (rows features from' to : ℕ) (t : Tables) (order : List ℕ) (a : Side) (P : Params) (j : ℕ) (hj : j < features) where
  pub column-of : part rows j from' to order ≡ part rows j from' to order
      → map (element_of features t) (part rows j from' to order) ≡ get_or (columns_at (element_of features t) rows features from' to order) j []
  unfolding columns_at
  column-of _ = sym (get_d-from (λ k. map (element_of features t) (part rows k from' to order)) 0 features j [] hj ∙ ap (λ k. map (element_of features t) (part rows k from' to order)) (zero-add j))

  pub try-best : (h : Held) (d : Tapes) {l : List ℕ} {b : Held} → l ≡ part rows j from' to order → b ≡ best_in P (bare a) j h (map (element_of features t) l)
      → {k : Splitter} → k ≡ Best → ok (record { best = b; left = d }) ≡ try_one (tape P.features) k P (node_rows_at rows features from' to t order a) j (record { best = h; left = d })
  unfolding try_one
  try-best h d {l} {b} el eb {k} ek =
      ap (λ z. ok (record { best = z; left = d }))
      (eb ∙ ap (λ z. best_in P (bare a) j h (map (element_of features t) z)) el ∙ ap (best_in P (bare a) j h) (column-of refl)
      ∙ best-bare P a (columns_at (element_of features t) rows features from' to order) j h (get_or (columns_at (element_of features t) rows features from' to order) j []))
      ∙ ap (λ z. try_one (tape P.features) z P (node_rows_at rows features from' to t order a) j (record { best = h; left = d })) (sym ek)

  pub try-random : (r : Tries Tapes) {l : List ℕ} {q : Out (Tries Tapes)} → l ≡ part rows j from' to order → q ≡ random_in (tape P.features) P (bare a) j r (map (element_of features t) l)
      → {k : Splitter} → k ≡ Random → q ≡ try_one (tape P.features) k P (node_rows_at rows features from' to t order a) j r
  unfolding try_one
  try-random r {l} {q} el eb {k} ek =
      eb ∙ ap (λ z. random_in (tape P.features) P (bare a) j r (map (element_of features t) z)) el ∙ ap (random_in (tape P.features) P (bare a) j r) (column-of refl)
      ∙ random-bare P a (columns_at (element_of features t) rows features from' to order) j r (get_or (columns_at (element_of features t) rows features from' to order) j [])
      ∙ ap (λ z. try_one (tape P.features) z P (node_rows_at rows features from' to t order a) j r) (sym ek)

-- ---- the features, one after the other

module _ (P : Params) (node : NodeRows) (M : List Float) (l : List ℕ) (i : ℕ) (h : i < length l) (best : Candidate) (used : ℕ) (W : List ℕ) (s : ℕ) where
  abbrev here : Tries Tapes
  here = record { best = best.held; left = left W M s used }

  tries-head : try_all (tape P.features) P node (drop i l) here
      ≡ bind (try_one (tape P.features) P.splitter P node (get_or l i 0) here) (λ r. try_all (tape P.features) P node (drop (suc i) l) r)
  unfolding try_all
  tries-head = ap (λ z. try_all (tape P.features) P node z here) (drop-cons l i 0 h)

  pub tries-stop : bad s ≡ try_one (tape P.features) P.splitter P node (get_or l i 0) here → bad s ≡ try_all (tape P.features) P node (drop i l) here
  unfolding bind
  tries-stop q = ap (λ m. bind m (λ r. try_all (tape P.features) P node (drop (suc i) l) r)) q ∙ sym tries-head

  pub tries-next : (b : Candidate) (n : ℕ) → ok (record { best = b.held; left = left W M s n }) ≡ try_one (tape P.features) P.splitter P node (get_or l i 0) here
      → try_all (tape P.features) P node (drop (i + 1) l) (record { best = b.held; left = left W M s n }) ≡ try_all (tape P.features) P node (drop i l) here
  unfolding bind
  tries-next b n q =
      ap (λ j. try_all (tape P.features) P node (drop j l) (record { best = b.held; left = left W M s n })) (add-one i)
      ∙ ap (λ m. bind m (λ r. try_all (tape P.features) P node (drop (suc i) l) r)) q ∙ sym tries-head

pub tries-end : (P : Params) (node : NodeRows) (l : List ℕ) (i : ℕ) → length l ≤ i → (r : Tries Tapes) → ok r ≡ try_all (tape P.features) P node (drop i l) r
unfolding try_all
tries-end P node l i h r = sym (ap (λ z. try_all (tape P.features) P node z r) (drop_of_length-le l h))

-- ---- the search of a node

both_left : (a b : Bool) → (a && b) ≡ true → a ≡ true
both_left true b q = refl
both_left false b q = q

both_right : (a b : Bool) → (a && b) ≡ true → b ≡ true
both_right true b q = q
both_right false b q = absurd (let z : ◌≡◌ {A = ℕ} 0 1 = cc in omega arith)

fresh_at : (n : ℕ) (seen l : List ℕ) → fresh n seen l ≡ true → (i : ℕ) → i < length l → get_or l i 0 < n
unfolding fresh
fresh_at n seen [] e i h = absurd (not-suc-le-zero h)
fresh_at n seen (w ∷ l) e zero h = ltb-true w n (both_left (ltb w n) (not (member w seen)) (both_left (ltb w n && not (member w seen)) (fresh n (w ∷ seen) l) e))
fresh_at n seen (w ∷ l) e (suc i) h = fresh_at n (w ∷ seen) l (both_right (ltb w n && not (member w seen)) (fresh n (w ∷ seen) l) e) i (le_of_suc-le-suc h)

-- a good choice of the first n words from place p on, by a test of as many words as there are in it
pub chosen-once : (n n' p : ℕ) (W : List ℕ) {b : Bool} → n ≡ n' → n ≤ length (take (length W - p) (drop p W))
    → b ≡ each_once (length (take n (take (length W - p) (drop p W)))) (take n (take (length W - p) (drop p W))) → b ≡ each_once n' (take n' (drop p W))
chosen-once n n' p W e room q =
    q ∙ ap (λ l. each_once (length (take n l)) (take n l)) rest ∙ ap (λ k. each_once k (take n (drop p W))) long ∙ ap (λ k. each_once k (take k (drop p W))) e
  where
    rest : take (length W - p) (drop p W) ≡ drop p W
    rest = take_rest W p

    long : length (take n (drop p W)) ≡ n
    long = simp length-take (omega (arith, room, ap length rest))

-- each of the first k is a feature
pub chosen_at : (n : ℕ) (l : List ℕ) → each_once n (take n l) ≡ true → (k : ℕ) → k ≤ n → (i : ℕ) → i < length (take k l) → get_or (take k l) i 0 < n
unfolding each_once
chosen_at n l e k hk i h =
    let g = simp length-take at h in
    let inside : i < length (take n l) = simp length-take (omega (arith, g)) in
    let same : get_or (take n l) i 0 ≡ get_or (take k l) i 0 = get_or-take n l i 0 (omega (arith, g)) ∙ sym (get_or-take k l i 0 (omega (arith, g))) in
    subst (λ w. w < n) same (fresh_at n [] (take n l) (both_right _ (fresh n [] (take n l)) e) i inside)

module _ (P : Params) (W : List ℕ) (M : List Float) (node : NodeRows) (d : Drawn) (fair : Fair W d) where
  abbrev n' : ℕ
  n' = P.features

  abbrev after : List ℕ × Tapes → Out (Found × Tapes)
  after o = bind (try_all (tape P.features) P node (take (min P.tried n') o.0) (record { best = None; left = o.1 })) (λ r. ok (found r.best, (tape P.features).done r.left))

  search-by : (b : Bool) → each_once n' (take n' (drop d.words W)) ≡ b → bind (take_words b n' (draws_at W M d)) after ≡ search (tape P.features) P (draws_at W M d) node
  unfolding search tape
  search-by b e = sym (ap (λ z. bind (take_words z n' (draws_at W M d)) after) e)

  pub search-bad : each_once n' (take n' (drop d.words W)) ≡ false → (x : BadDraw) → Searched P W M node d (Err x)
  unfolding take_words bind
  search-bad e x = record { same = search-by false e; fair = tt; rows = tt }

  pub search-short : length (drop d.words W) < n' → (x : BadDraw) → Searched P W M node d (Err x)
  unfolding each_once
  search-short h =
      search-bad (ap (λ b. b && fresh n' [] (take n' (drop d.words W)))
      (ne_eqb (length (take n' (drop d.words W))) n' (λ e. let q = simp length-take at e in omega (arith, q, h))))

  search-tries : each_once n' (take n' (drop d.words W)) ≡ true
      → bind (try_all (tape P.features) P node (take (min P.tried n') (drop d.words W)) (record { best = None; left = left (drop n' (drop d.words W)) M d.searches d.thresholds }))
      (λ r. ok (found r.best, (tape P.features).done r.left)) ≡ search (tape P.features) P (draws_at W M d) node
  unfolding take_words bind
  search-tries e =
      ap (λ l. bind (try_all (tape P.features) P node l (record {
        best = None;
        left = left (drop n' (drop d.words W)) M d.searches d.thresholds;
      })) (λ r. ok (found r.best, (tape P.features).done r.left)))
      (sym (take-take (min P.tried n') n' (drop d.words W) (omega arith)))
      ∙ search-by true e

  module _ (e : each_once n' (take n' (drop d.words W)) ≡ true) {k : ℕ} (ek : k ≡ min P.tried n') (r : Attempt)
      (t : (U : List ℕ) (s : ℕ) → meant_tries U M s r ≡ try_all (tape P.features) P node (take k (drop d.words W)) (record { best = None; left = left U M s d.thresholds })) where
    search-meant : bind (meant_tries (drop n' (drop d.words W)) M d.searches r) (λ r. ok (found r.best, (tape P.features).done r.left)) ≡ search
        (tape P.features) P (draws_at W M d) node
    search-meant =
        ap (λ m. bind m (λ r. ok (found r.best, (tape P.features).done r.left)))
        (t (drop n' (drop d.words W)) d.searches
        ∙ ap (λ j. try_all (tape P.features) P node (take j (drop d.words W)) (record { best = None; left = left (drop n' (drop d.words W)) M d.searches d.thresholds })) ek)
        ∙ search-tries e

    pub search-stop : {x : BadDraw} → r ≡ Err x → (y : BadDraw) → Searched P W M node d (Err y)
    unfolding bind
    search-stop q y =
        record {
          same = sym (ap (λ z. bind (meant_tries (drop n' (drop d.words W)) M d.searches z) (λ r. ok (
            found r.best,
            (tape P.features).done
                r.left,
          ))) q) ∙ search-meant;
          fair = tt;
          rows = tt;
        }

    pub search-goes : (h : Candidate) (m : ℕ) → r ≡ Ok (h, m) → RowsTried n' node r → (n : ℕ) → n ≡ n' → d.words + n ≤ length W → 0 < n
        → Searched P W M node d (Ok (h, record { words = d.words + n; thresholds = m; searches = d.searches + 1 }))
    unfolding bind tape
    search-goes h m q g n en room pos' =
        record {
          same =
              ap (λ s. ok (found h.held, record { words = drop (d.words + n) W; thresholds = drop m M; searches = s })) (add-one d.searches)
              ∙ ap (λ l. ok (found h.held, record { words = l; thresholds = drop m M; searches = suc d.searches })) (sym (drop-drop n d.words W) ∙ ap (λ z. drop z (drop d.words W)) en)
              ∙ sym (ap (λ z. bind (meant_tries (drop n' (drop d.words W)) M d.searches z) (λ r. ok (found r.best, (tape P.features).done r.left))) q) ∙ search-meant;
          fair = (room, omega (arith, fair.1, pos'));
          rows = subst (RowsTried n' node) q g;
        }
