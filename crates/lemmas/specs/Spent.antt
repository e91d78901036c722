-- What a growth draws from the tapes: `features` choice words a search, and at most one threshold for each feature tried. It makes no more searches than nodes;
-- so from a good root the number of the search at a bad draw is within the bound on nodes. Assumes nothing.
use Rattle.std.specs.Prelude.{ℕ, suc, ◌+◌, ◌-◌, ◌*◌, ◌<◌, ◌≤◌, min, ◌≡◌, refl, Bool, ◌&&◌, length, get_or, take, Float, None}
use Rattle.std.proofs.Common.{mul-suc, mul-zero, arith, sym, ap, ◌∙◌}
use Rattle.std.proofs.Math.Path.{subst}
use Rattle.std.proofs.Math.Bool.{true, false}
use mathlib.Core.List.{List, [], ◌∷◌}
use Rattle.std.proofs.Math.ListN.{length-take, length-drop}
use Rattle.std.proofs.Math.Dec.{T}
use Rattle.std.specs.Float.Ieee.{le, lt}
use Rattle.rules.specs.declared.Params.{Params}
use Rattle.rules.specs.declared.Splitter.{Splitter}
use Rattle.rules.specs.declared.Splitter.TheVariants.{Best, Random}
use Rattle.rules.specs.Words.{total, each_once}
use Rattle.rules.specs.Draws.{Out, bad, Tapes, take_words, take_threshold, next_threshold, tape}
use Rattle.rules.specs.Search.{Column, at, NodeRows, final, Tries, draw_in, random_in, try_one, try_all, Found, search}
use Rattle.rules.specs.Growth.{Waiting, State, leaf_of, search_if, expand, from_root}
use Rattle.lemmas.specs.Once.{once-length}
use Rattle.lemmas.specs.Outs.{Ends, Then, ends-then, ends-both, ends-bad, then-ends}
use Rattle.lemmas.specs.WaitingOrder.{children-length, root_ends, root-keep}
use Rattle.lemmas.specs.Cuts.{Good, Suits, search-fine, tape-fair}
use Rattle.lemmas.specs.Room.{rows_of, halves, Bounded, root-bounded, expand-bounded}

-- of tapes that had so many words and thresholds, what n searches at most have left
pub record Drawn (P : Params) (all_words all_thresholds n : ℕ) (d : Tapes) : Type 0 where
  pub words : length d.words + P.features * d.searches ≡ all_words
  pub thresholds : all_thresholds ≤ length d.thresholds + P.features * d.searches
  pub searches : d.searches ≤ n

-- no more searches than nodes
abbrev pub Spent : Params → ℕ → ℕ → State Tapes → Type 0
Spent P words thresholds s = Drawn P words thresholds (length s.nodes) s.left

-- ---- within a search

-- the search that began with d₀ may try n features more
record Trying (P : Params) (d₀ : Tapes) (n : ℕ) (d : Tapes) : Type 0 where
  words : length d.words + P.features ≡ length d₀.words
  thresholds : length d₀.thresholds + n ≤ length d.thresholds + P.features
  searches : d.searches ≡ d₀.searches

fewer : {P : Params} {d₀ d : Tapes} {n m : ℕ} → Trying P d₀ n d → m ≤ n → Trying P d₀ m d
fewer h l = record { words = h.words; thresholds = omega (arith, h.thresholds, l); searches = h.searches }

module _ (P : Params) (d₀ : Tapes) (top : ℕ) (inside : d₀.searches ≤ top) where
  -- what is left after m, and a bad draw's number
  abbrev Leaves : ℕ → Out (Tries Tapes) → Type 0
  Leaves n m = Ends m (λ r. Trying P d₀ n r.left) (λ k. k ≤ top)

  module _ (n : ℕ) where
    takes-threshold : (d : Tapes) (lowest highest : Float) → Trying P d₀ (suc n) d → Ends ((tape P.features).threshold d lowest highest) (λ m. Trying P d₀ n m.1) (λ k. k ≤ top)
    unfolding tape next_threshold take_threshold
    takes-threshold d lowest highest h = next d.thresholds h.thresholds
      where
        told : d.searches ≤ top
        told = subst (λ k. k ≤ top) (sym h.searches) inside

        taken : (b : Bool) (t : Float) (ts : List Float) → length d₀.thresholds + suc n ≤ suc (length ts) + P.features → Ends (take_threshold b t ts d) (λ m. Trying P d₀ n m.1) (λ k. k ≤ top)
        taken false t ts q = told
        taken true t ts q = record { words = h.words; thresholds = omega (arith, q); searches = h.searches }

        next : (l : List Float) → length d₀.thresholds + suc n ≤ length l + P.features → Ends (next_threshold l lowest highest d) (λ m. Trying P d₀ n m.1) (λ k. k ≤ top)
        next [] q = told
        next (t ∷ ts) q = taken (le lowest t && lt t highest) t ts q

    tries-random : (node : NodeRows) (j : ℕ) (r : Tries Tapes) (col : Column) → Trying P d₀ (suc n) r.left → Leaves n (random_in (tape P.features) P node j r col)
    unfolding random_in draw_in
    tries-random node j r [] h = fewer h (omega arith)
    tries-random node j r (e ∷ es) h = go (lt (at j e) (at j (final e es)))
      where
        go : (b : Bool) → Leaves n (draw_in (tape P.features) b P node j r e es)
        go false = fewer h (omega arith)
        go true = ends-then _ _ _ _ _ (takes-threshold r.left (at j e) (at j (final e es)) h) (λ m q. q)

    tries-one : (b : Splitter) (node : NodeRows) (j : ℕ) (r : Tries Tapes) → Trying P d₀ (suc n) r.left → Leaves n (try_one (tape P.features) b P node j r)
    unfolding try_one
    tries-one Best node j r h = fewer h (omega arith)
    tries-one Random node j r h = tries-random node j r (get_or node.columns j []) h

  tries-all : (node : NodeRows) (js : List ℕ) (r : Tries Tapes) → Trying P d₀ (length js) r.left → Leaves 0 (try_all (tape P.features) P node js r)
  unfolding try_all
  tries-all node [] r h = h
  tries-all node (j ∷ js) r h = ends-then _ _ _ _ _ (tries-one (length js) _ node j r h) (λ r' h'. tries-all node js r' h')

  takes-words : Ends ((tape P.features).shuffle d₀) (λ o. Trying P d₀ P.features o.1) (λ k. k ≤ top)
  unfolding tape take_words
  takes-words = go (each_once P.features (take P.features d₀.words)) (λ t. t)
    where
      go : (b : Bool) → (T b → T (each_once P.features (take P.features d₀.words))) → Ends (take_words b P.features d₀) (λ o. Trying P d₀ P.features o.1) (λ k. k ≤ top)
      go false h = inside
      go true h =
          record {
            words = omega (arith, length-drop P.features d₀.words, length-take P.features d₀.words, once-length P.features (take P.features d₀.words) (h tt));
            thresholds = omega arith;
            searches = refl;
          }

-- ---- from search to search

more : {P : Params} {words thresholds n m : ℕ} {d : Tapes} → Drawn P words thresholds n d → n ≤ m → Drawn P words thresholds m d
more h l = record { words = h.words; thresholds = h.thresholds; searches = omega (arith, h.searches, l) }

abbrev choose : (P : Params) → Tapes → NodeRows → Out (Found × Tapes)
choose P d node = search (tape P.features) P d node

module _ (P : Params) (words thresholds : ℕ) where
  -- a search that has tried what it tries is done
  counted : (d d' : Tapes) (n : ℕ) → Drawn P words thresholds n d → Trying P d 0 d'
      → Drawn P words thresholds (suc n) (record { words = d'.words; thresholds = d'.thresholds; searches = suc d'.searches })
  counted d d' n h k =
      record {
        words = omega (arith, k.words, h.words, one_more);
        thresholds = omega (arith, k.thresholds, h.thresholds, one_more);
        searches = omega (arith, h.searches, k.searches);
      }
    where
      one_more : P.features * suc d'.searches ≡ P.features * d.searches + P.features
      one_more = ap (λ m. P.features * suc m) k.searches ∙ mul-suc P.features d.searches

  search-drawn : (n top : ℕ) → n ≤ top → (d : Tapes) (node : NodeRows) → Drawn P words thresholds n d
      → Ends (choose P d node) (λ r. Drawn P words thresholds (suc n) r.1) (λ k. k ≤ top)
  unfolding search tape
  search-drawn n top l d node h =
      ends-then _ _ _ _ _ (takes-words P d top inside)
      (λ o q. ends-then _ _ _ _ _
      (tries-all P d top inside node (tried o.0) (record { best = None; left = o.1 }) (fewer q (few o.0)))
      (λ r k. counted d r.left n h k))
    where
      inside : d.searches ≤ top
      inside = omega (arith, h.searches, l)

      tried : List ℕ → List ℕ
      tried js = take (min P.tried P.features) js

      few : (js : List ℕ) → length (tried js) ≤ P.features
      few js = omega (arith, length-take (min P.tried P.features) js)

  search_if-drawn : (n top : ℕ) → n ≤ top → (b : Bool) (k level : ℕ) (node : NodeRows) (d : Tapes) → Drawn P words thresholds n d
      → Ends (search_if P (choose P) b k level node d) (λ r. Drawn P words thresholds (suc n) r.1) (λ k. k ≤ top)
  unfolding search_if
  search_if-drawn n top l false k level node d h = more h (omega arith)
  search_if-drawn n top l true k level node d h = ends-then _ _ _ _ _ (search-drawn n top l d node h) (λ r q. q)

  expand-spent : (top : ℕ) (w : Waiting) (s : State Tapes) → suc (length s.nodes) ≤ top → Spent P words thresholds s
      → Ends (expand P (choose P) w s) (λ r. Spent P words thresholds r.1) (λ k. k ≤ top)
  unfolding expand
  expand-spent top w s l h =
      ends-then _ _ _ _ _ (search_if-drawn (length s.nodes) top (omega (arith, l)) _ _ _ _ _ h)
      (λ t ht. ends-then _ _ _ _ _ (search_if-drawn (suc (length s.nodes)) top l _ _ _ _ _ ht)
      (λ f hf. more hf (omega (arith, children-length w s.nodes))))

-- ---- of a whole growth

-- since d, with which it began
abbrev Since : Params → Tapes → State Tapes → Type 0
Since P d s = Spent P (length d.words) (length d.thresholds) s

root-spent : (P : Params) (node : NodeRows) (d : Tapes) → d.searches ≡ 0 → (top : ℕ) (b : Bool)
    → Ends (search_if P (choose P) b 0 1 node d) (λ r. Since P d (record { nodes = leaf_of node ∷ []; depth = 0; left = r.1 })) (λ k. k ≤ top)
root-spent P node d none top b =
    search_if-drawn P _ _ 0 top (omega arith) b 0 1 node d (record { words = omega (arith, nothing); thresholds = omega (arith, nothing); searches = omega (arith, none) })
  where
    nothing : P.features * d.searches ≡ 0
    nothing = ap (λ n. P.features * n) none ∙ mul-zero P.features

pub growth-spent : (P : Params) (node : NodeRows) (d : Tapes) → d.searches ≡ 0
    → Then (from_root P (search (tape P.features) P) node d) (λ s. Spent P (length d.words) (length d.thresholds) s)
growth-spent P node d none =
    root-keep P (choose P) (λ ws s. Since P d s)
    (λ w ws s b h. then-ends (expand P (choose P) w s) _ _ (expand-spent P _ _ (suc (length s.nodes)) w s (omega arith) h))
    node d (λ b. then-ends (search_if P (choose P) b 0 1 node d) _ _ (root-spent P node d none 0 b))

pub growth-bad : (P : Params) → 0 < P.features → (node : NodeRows) (d : Tapes) → d.searches ≡ 0 → Good P node → (k : ℕ)
    → from_root P (search (tape P.features) P) node d ≡ bad k → k ≤ 1 + 2 * (rows_of node - 1)
unfolding total
growth-bad P some node d none g k e =
    ends-bad _ (λ n. n ≤ top) _ k e
    (root_ends P (choose P) (λ ws s. Since P d s × Bounded P (choose P) fine top ws s) (λ n. n ≤ top)
    (λ w ws s b h. ends-both (expand P (choose P) w s) _ _ _ (expand-spent P _ _ top w s (omega (arith, halves P w h.1.0.0 some, h.1.1)) h.0)
    (expand-bounded P (choose P) fine some top w ws s b h.1))
    node d (λ b. ends-both (search_if P (choose P) b 0 1 node d) _ _ _ (root-spent P node d none top b) (root-bounded P (choose P) fine node d g b)))
  where
    top : ℕ
    top = 1 + 2 * (rows_of node - 1)

    fine : (s : Tapes) (t : NodeRows) → Good P t → Then (choose P s t) (λ r. Suits P t r.0)
    fine = search-fine P (tape P.features) (tape-fair P)
