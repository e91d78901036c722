-- A search at two heights. The two hold candidates at the same places and with the same proxies: so what holds of the two cuts at each place of a column holds of the
-- two cuts held. Assumes nothing.
use Rattle.std.specs.Prelude.{ℕ, ◌+◌, ◌-◌, ◌≤◌, ◌≡◌, true, false, not, get_or, T, ltb, Float, Some, None}
use Rattle.std.proofs.Common.{add-zero, arith, sym, subst, ◌∙◌, nltb→le}
use Rattle.std.proofs.Math.Path.{refl, ap}
use Rattle.std.proofs.Math.Bool.{Bool, cond}
use mathlib.Core.List.{[], ◌∷◌, ◌++◌, append_assoc}
use Rattle.std.specs.Float.Ieee.{lt, le, eq}
use Rattle.floats.specs.Order.{le_of_lt, le-of-eq64}
use Rattle.rules.specs.declared.Totals.{Totals}
use Rattle.rules.specs.declared.Params.{Params}
use Rattle.rules.specs.declared.Height.{Height}
use Rattle.rules.specs.declared.Cut.{Cut}
use Rattle.rules.specs.Results.{Held}
use Rattle.rules.specs.declared.Sweep.{Sweep}
use Rattle.rules.specs.Words.{total}
use Rattle.rules.specs.Totals.{empty, take_in, less, proxy}
use Rattle.rules.specs.Threshold.{threshold_between}
use Rattle.rules.specs.Search.{Element, Column, at, tally, NodeRows, better, judge, candidate_at, step, sweep, best_in}
use Rattle.lemmas.specs.Lists.{Every, every-imp, every-both, every_append, total-append, Ordered}
use Rattle.lemmas.specs.Values.{Value, le_refl, eq_refl, rises, under}

-- the same parameters at another height
abbrev pub reheight : Height → Params → Params
reheight g P = record { limit = P.limit; leaf = P.leaf; split = P.split; tried = P.tried; features = P.features; splitter = P.splitter; height = g }

abbrev pub Rising : ℕ → Column → Type 0
Rising j es = Ordered (λ x y. T (le (at j x) (at j y))) es

-- the cut between two elements of a column
abbrev pub cut_at : Height → ℕ → Element → Element → Cut
cut_at g j low high = record { feature = j; threshold = threshold_between g (at j low) (at j high) }

-- a place in feature j's column where a run of equals ends: it began with low, and high comes next
pub record RunEnds (M : Element → Type 0) (j : ℕ) (col earlier : Column) (low : Element) (run : Column) (high : Element) (after : Column) : Type 0 where
  pub whole : (earlier ++ (low ∷ run)) ++ (high ∷ after) ≡ col
  pub low_in : M low
  pub high_in : M high
  pub less : Every (λ x. T (lt (at j x) (at j low))) earlier
  pub equal : Every (λ x. T (eq (at j x) (at j low))) run
  pub up : T (le (at j low) (at j high))
  pub new : eq (at j high) (at j low) ≡ false
  pub rising : Rising j (high ∷ after)

-- nothing up to the end of its run is above low
pub run-below : (j : ℕ) (earlier : Column) (low : Element) (run : Column) → Value (at j low) → Every (λ x. T (lt (at j x) (at j low))) earlier → Every (λ x. T (eq (at j x) (at j low))) run
    → Every (λ x. T (le (at j x) (at j low))) (earlier ++ (low ∷ run))
run-below j earlier low run v less equal =
    every_append _ earlier (low ∷ run) (every-imp _ _ (λ x h. le_of_lt (at j x) (at j low) h) earlier less)
    (le_refl (at j low) v, every-imp _ _ (λ x h. le-of-eq64 (at j x) (at j low) h) run equal)

-- ---- two that are held

-- none yet, or two cuts with one proxy
abbrev pub HeldBoth : (Cut → Cut → Type 0) → Held → Held → Type 0
HeldBoth R None None = Unit {0}
HeldBoth R None (Some (c', q')) = ⊥
HeldBoth R (Some (c, q)) None = ⊥
HeldBoth R (Some (c, q)) (Some (c', q')) = R c c' × (q ≡ q')

better-both : (R : Cut → Cut → Type 0) (h h' : Held) (c c' : Cut) (q : Float) → HeldBoth R h h' → R c c' → HeldBoth R (better h c q) (better h' c' q)
unfolding better
better-both R None None c c' q b r = (r, refl)
better-both R None (Some (d', p')) c c' q b r = absurd b
better-both R (Some (d, p)) None c c' q b r = absurd b
better-both R (Some (d, p)) (Some (d', p')) c c' q b r = go (lt p q) (lt p' q) (ap (λ z. lt z q) b.1)
  where
    go : (x y : Bool) → x ≡ y → HeldBoth R (cond x (Some (c, q)) (Some (d, p))) (cond y (Some (c', q)) (Some (d', p')))
    go x y e = subst (λ z. HeldBoth R (cond x (Some (c, q)) (Some (d, p))) (cond z (Some (c', q)) (Some (d', p')))) e (same x)
      where
        same : (x : Bool) → HeldBoth R (cond x (Some (c, q)) (Some (d, p))) (cond x (Some (c', q)) (Some (d', p')))
        same true = (r, refl)
        same false = b

-- one that is held
abbrev pub HeldIs : (Cut → Type 0) → Held → Type 0
HeldIs Q None = Unit {0}
HeldIs Q (Some (c, q)) = Q c

twice : (Q : Cut → Type 0) (h : Held) → HeldIs Q h → HeldBoth (λ c c'. Q c) h h
twice Q None g = tt
twice Q (Some (c, q)) g = (g, refl)

first : (Q : Cut → Type 0) (h h' : Held) → HeldBoth (λ c c'. Q c) h h' → HeldIs Q h
first Q None h' b = tt
first Q (Some (c, q)) None b = absurd b
first Q (Some (c, q)) (Some (c', q')) b = b.0

-- two candidates that are taken have passed both tests of the least leaf
pub judge-both : (P : Params) (g : Height) (R : Cut → Cut → Type 0) (node : NodeRows) (h h' : Held) (t : Totals) (k : ℕ) (c c' : Cut) → HeldBoth R h h'
    → (P.leaf ≤ k → P.leaf ≤ node.count - k → R c c') → HeldBoth R (judge P node h t k c) (judge (reheight g P) node h' t k c')
unfolding judge
judge-both P g R node h h' t k c c' b r =
    go (ltb k P.leaf) (ltb (node.count - k) P.leaf) (λ x. nltb→le k P.leaf x) (λ x. nltb→le (node.count - k) P.leaf x)
  where
    q : Float
    q = proxy t (less node.totals t)

    go : (x y : Bool) → (T (not x) → P.leaf ≤ k) → (T (not y) → P.leaf ≤ node.count - k)
        → HeldBoth R (cond x h (cond y h (better h c q))) (cond x h' (cond y h' (better h' c' q)))
    go true y l₁ l₂ = b
    go false true l₁ l₂ = b
    go false false l₁ l₂ = better-both R h h' c c' q b (r (l₁ tt) (l₂ tt))

pub judge-held : (P : Params) (Q : Cut → Type 0) (node : NodeRows) (h : Held) (t : Totals) (k : ℕ) (c : Cut) → HeldIs Q h
    → (P.leaf ≤ k → P.leaf ≤ node.count - k → Q c) → HeldIs Q (judge P node h t k c)
judge-held P Q node h t k c g f =
    first Q (judge P node h t k c) (judge (reheight P.height P) node h t k c) (judge-both P P.height (λ c c'. Q c) node h h t k c c (twice Q h g) f)

-- ---- along a column

module _ (P : Params) (g : Height) (R : Cut → Cut → Type 0) (M : Element → Type 0) (node : NodeRows) (j : ℕ) (values : (x : Element) → M x → Value (at j x))
    (places : (earlier : Column) (low : Element) (run : Column) (high : Element) (after : Column) → RunEnds M j (get_or node.columns j []) earlier low run high after
    → P.leaf ≤ tally (earlier ++ (low ∷ run)) → P.leaf ≤ node.count - tally (earlier ++ (low ∷ run)) → R (cut_at P.height j low high) (cut_at g j low high)) where
  abbrev run_of : Totals → ℕ → Element → Held → Sweep
  run_of t k low h = record { before = t; count = k; last = at j low; best = h }

  -- the sweep, from a place that is not the first
  sweep-both : (earlier : Column) (low : Element) (run rest : Column) (t : Totals) (k : ℕ) (h h' : Held) → (earlier ++ (low ∷ run)) ++ rest ≡ get_or node.columns j []
      → k ≡ tally (earlier ++ (low ∷ run)) → Every M (earlier ++ (low ∷ run)) → M low → Every M rest
      → Every (λ x. T (lt (at j x) (at j low))) earlier → Every (λ x. T (eq (at j x) (at j low))) run → Every (λ x. T (le (at j low) (at j x))) rest → Rising j rest
      → HeldBoth R h h' → HeldBoth R (sweep P node j (run_of t k low h) rest).best (sweep (reheight g P) node j (run_of t k low h') rest).best
  unfolding sweep step candidate_at total
  sweep-both earlier low run [] t k h h' hc hk ms m mr less equal above rise b = b
  sweep-both earlier low run (e ∷ es) t k h h' hc hk ms m mr less equal above rise b =
      go (eq (at j e) (at j low)) refl
      (λ earlier' low' run' f f' q m' less' equal' above' b'. sweep-both earlier' low' run' es (take_in t e.target e.mass) (k + e.count) f f'
      (ap (λ l. l ++ es) q ∙ append_assoc pre (e ∷ []) es ∙ hc) (more ∙ ap tally (sym q)) (subst (Every M) (sym q) (every_append M pre (e ∷ []) ms (mr.0, tt))) m' mr.1
      less' equal' above' rise.1 b')
    where
      P' : Params
      P' = reheight g P

      pre : Column
      pre = earlier ++ (low ∷ run)

      next : Params → Held → Bool → Sweep
      next Q f b =
          record {
            before = take_in t e.target e.mass;
            count = k + e.count;
            last = cond b (at j low) (at j e);
            best = candidate_at (not b) Q node j (at j e) (run_of t k low f);
          }

      more : k + e.count ≡ tally (pre ++ (e ∷ []))
      more = omega (arith, hk, total-append (λ x. x.count) pre (e ∷ []), add-zero e.count)

      go : (x : Bool) → eq (at j e) (at j low) ≡ x
          → ((earlier' : Column) (low' : Element) (run' : Column) (f f' : Held) → earlier' ++ (low' ∷ run') ≡ pre ++ (e ∷ []) → M low'
          → Every (λ y. T (lt (at j y) (at j low'))) earlier' → Every (λ y. T (eq (at j y) (at j low'))) run' → Every (λ y. T (le (at j low') (at j y))) es → HeldBoth R f f'
          → HeldBoth R (sweep P node j (run_of (take_in t e.target e.mass) (k + e.count) low' f) es).best
          (sweep P' node j (run_of (take_in t e.target e.mass) (k + e.count) low' f') es).best)
          → HeldBoth R (sweep P node j (next P h x) es).best (sweep P' node j (next P' h' x) es).best
      go true q ih =
          ih earlier low (run ++ (e ∷ [])) h h' (sym (append_assoc earlier (low ∷ run) (e ∷ []))) m less (every_append _ run (e ∷ []) equal (subst T (sym q) tt, tt)) above.1 b
      go false q ih =
          ih pre e [] _ _ refl mr.0
          (every-imp _ _ (λ x l. under (at j x) (at j low) (at j e) (values x l.0) (values e mr.0) l.1 (rises (at j low) (at j e) above.0 q)) pre
          (every-both _ _ pre ms (run-below j earlier low run (values low m) less equal)))
          tt rise.0
          (judge-both P g R node h h' t k _ _ b (λ l₁ l₂. places earlier low run e es
          (record { whole = hc; low_in = m; high_in = mr.0; less = less; equal = equal; up = above.0; new = q; rising = rise })
          (subst (λ n. P.leaf ≤ n) hk l₁) (subst (λ n. P.leaf ≤ node.count - n) hk l₂)))

  -- along the whole column
  pub best-both : (h h' : Held) → Every M (get_or node.columns j []) → Rising j (get_or node.columns j []) → HeldBoth R h h'
      → HeldBoth R (best_in P node j h (get_or node.columns j [])) (best_in (reheight g P) node j h' (get_or node.columns j []))
  unfolding best_in sweep step candidate_at total
  best-both h h' ms rise b = go (get_or node.columns j []) refl ms rise
    where
      next : Params → Held → Element → Bool → Sweep
      next Q f e x =
          record {
            before = take_in empty e.target e.mass;
            count = 0 + e.count;
            last = cond x (at j e) (at j e);
            best = candidate_at (not x) Q node j (at j e) (run_of empty 0 e f);
          }

      one : (e : Element) → 0 + e.count ≡ e.count + 0
      one e = omega arith

      go : (col : Column) → col ≡ get_or node.columns j [] → Every M col → Rising j col → HeldBoth R (best_in P node j h col) (best_in (reheight g P) node j h' col)
      go [] hc ms rise = b
      go (e ∷ es) hc ms rise =
          subst (λ x. HeldBoth R (sweep P node j (next P h e x) es).best (sweep (reheight g P) node j (next (reheight g P) h' e x) es).best)
          (sym (eq_refl (at j e) (values e ms.0)))
          (sweep-both [] e [] es _ _ h h' hc (one e) (ms.0, tt) ms.0 ms.1 tt tt rise.0 rise.1 b)

-- and at one height: what holds of the cut at each place holds of the cut held
pub best-held : (P : Params) (Q : Cut → Type 0) (node : NodeRows) (j : ℕ)
    → ((earlier : Column) (low : Element) (run : Column) (high : Element) (after : Column) → RunEnds (λ x. Value (at j x)) j (get_or node.columns j []) earlier low run high after
    → P.leaf ≤ tally (earlier ++ (low ∷ run)) → P.leaf ≤ node.count - tally (earlier ++ (low ∷ run)) → Q (cut_at P.height j low high))
    → (h : Held) → Every (λ x. Value (at j x)) (get_or node.columns j []) → Rising j (get_or node.columns j []) → HeldIs Q h → HeldIs Q (best_in P node j h (get_or node.columns j []))
best-held P Q node j places h vs rise g =
    first Q (best_in P node j h (get_or node.columns j [])) (best_in (reheight P.height P) node j h (get_or node.columns j []))
    (best-both P P.height (λ c c'. Q c) (λ x. Value (at j x)) node j (λ x v. v) places h h vs rise (twice Q h g))
