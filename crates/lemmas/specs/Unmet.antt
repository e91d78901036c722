-- A limit that a growth stays below does not show: under any other that it stays below too, the growth is the same, draw by draw. It holds because a limit is asked for
-- nowhere but before a search, and there only whether the node's level is below it. Assumes nothing.
use Prim.Native.Nat.{ℕ, zero, suc, ◌-◌, ◌<◌, ◌≤◌, max, min}
use native.Mathlib.Omega.{arith}
use Rattle.std.specs.Prelude.{◌≡◌, not, ◌&&◌, length, get_or, take, Float, None}
use Rattle.std.proofs.Math.Path.{refl, sym, ap}
use Rattle.std.proofs.Common.{◌∙◌, lt→ltb}
use Rattle.std.proofs.Math.Bool.{Bool, true, false}
use mathlib.Core.List.{List, [], ◌∷◌, ◌++◌}
use Rattle.std.proofs.Math.Dec.{ltb, leb}
use Rattle.std.specs.Float.Ieee.{lt, eq}
use Rattle.rules.specs.declared.Params.{Params}
use Rattle.rules.specs.declared.Splitter.{Splitter}
use Rattle.rules.specs.declared.Splitter.TheVariants.{Best, Random}
use Rattle.rules.specs.Results.{Held}
use Rattle.rules.specs.declared.Sweep.{Sweep}
use Rattle.rules.specs.Totals.{empty}
use Rattle.rules.specs.Draws.{Out, bad, ok, bind, Source}
use Rattle.rules.specs.Search.{Column, at, NodeRows, on_true, on_false, judge, candidate_at, step, sweep, best_in, final, drawn, Tries, draw_in, random_in, try_one, try_all, Found, found, search}
use Rattle.rules.specs.Growth.{Waiting, State, child, leaf_of, with_children, searchable, runs, search_if, expand, grow, grow_all, from_root}
use Rattle.lemmas.specs.Lists.{is_true, Every, every-imp}
use Rattle.lemmas.specs.Outs.{Then, then-then, then-both, then-after, always, bind_all}
use Rattle.lemmas.specs.WaitingOrder.{AtLevel, search_if-joins, joins-level, expand-depth, expand-level}

-- the same parameters under another limit
abbrev pub relimit : ℕ → Params → Params
relimit n P = record { limit = n; leaf = P.leaf; split = P.split; tried = P.tried; features = P.features; splitter = P.splitter; height = P.height }

-- ---- no search reads the limit

module _ (P : Params) (n : ℕ) where
  candidate-same : (b : Bool) (node : NodeRows) (j : ℕ) (x : Float) (w : Sweep) → candidate_at b P node j x w ≡ candidate_at b (relimit n P) node j x w
  unfolding candidate_at judge
  candidate-same true node j x w = refl
  candidate-same false node j x w = refl

  sweep-same : (node : NodeRows) (j : ℕ) (w : Sweep) (es : Column) → sweep P node j w es ≡ sweep (relimit n P) node j w es
  unfolding sweep step
  sweep-same node j w [] = refl
  sweep-same node j w (e ∷ es) =
      sweep-same node j (step P node j w e) es
      ∙ (λ i. sweep (relimit n P) node j (record {
        before = (step P node j w e).before;
        count = (step P node j w e).count;
        last = (step P node j w e).last;
        best = candidate-same (not (eq (at j e) w.last)) node j (at j e) w i;
      }) es)

  best-same : (node : NodeRows) (j : ℕ) (h : Held) (es : Column) → best_in P node j h es ≡ best_in (relimit n P) node j h es
  unfolding best_in
  best-same node j h [] = refl
  best-same node j h (e ∷ es) = λ i. (sweep-same node j (record { before = empty; count = 0; last = at j e; best = h }) (e ∷ es) i).best

  module _ {S : Type 0} (src : Source S) where
    one_same : (b : Splitter) (node : NodeRows) (j : ℕ) (r : Tries S) → try_one src b P node j r ≡ try_one src b (relimit n P) node j r
    unfolding try_one random_in draw_in drawn judge
    one_same Best node j r = λ i. ok (record { best = best-same node j r.best (get_or node.columns j []) i; left = r.left })
    one_same Random node j r = go (get_or node.columns j [])
      where
        go : (es : Column) → random_in src P node j r es ≡ random_in src (relimit n P) node j r es
        go [] = refl
        go (e ∷ es) = draw (lt (at j e) (at j (final e es)))
          where
            draw : (b : Bool) → draw_in src b P node j r e es ≡ draw_in src b (relimit n P) node j r e es
            draw true = refl
            draw false = refl

    all_same : (node : NodeRows) (js : List ℕ) (r : Tries S) → try_all src P node js r ≡ try_all src (relimit n P) node js r
    unfolding try_all
    all_same node [] r = refl
    all_same node (j ∷ js) r = both _ (λ r'. all_same node js r')
      where
        both : (b : Splitter) → ((r' : Tries S) → try_all src P node js r' ≡ try_all src (relimit n P) node js r')
            → bind (try_one src b P node j r) (λ r'. try_all src P node js r') ≡ bind (try_one src b (relimit n P) node j r) (λ r'. try_all src (relimit n P) node js r')
        both b next = λ i. bind (one_same b node j r i) (λ r'. next r' i)

    pub search-same : (s : S) (node : NodeRows) → search src P s node ≡ search src (relimit n P) s node
    unfolding search
    search-same s node =
        bind_all (src.shuffle s) _ _
        (λ o i. bind (all_same node (take (min P.tried P.features) o.0) (record { best = None; left = o.1 }) i) (λ r. ok (found r.best, src.done r.left)))

-- ---- nor does a growth that stays below it

-- through the next step, with the answer known
then_next : {A B : Type 0} (m : Out A) (f : A → Out B) (Q : A → Type 0) (R : B → Type 0) → Then m Q → ((a : A) → m ≡ ok a → Q a → Then (f a) R) → Then (bind m f) R
unfolding bind
then_next (bad n) f Q R h k = tt
then_next (ok a) f Q R h k = k a refl h

module _ (P : Params) (n b : ℕ) (under : b < P.limit) (under' : b < n) {S : Type 0} (choose : S → NodeRows → Out (Found × S)) where
  -- m's answer, if it stays within b, is m''s
  abbrev Unmet : State S → Out (State S) → Out (State S) → Type 0
  Unmet s m m' = Then m (λ s'. (s.depth ≤ s'.depth) × (s'.depth ≤ b → m' ≡ ok s'))

  runs-unmet : (f f' : Waiting → State S → Out (State S)) (ws : List Waiting) → Every (λ w. (s : State S) → Unmet s (f w s) (f' w s)) ws → (s : State S)
      → Unmet s (runs f ws s) (runs f' ws s)
  unfolding runs bind
  runs-unmet f f' [] e s = (omega arith, λ h. refl)
  runs-unmet f f' (w ∷ ws) e s =
      then-then (f w s) _ _ _ (e.0 s)
      (λ s₁ h. then-after (runs f ws s₁) _ _ (runs-unmet f f' ws e.1 s₁)
      (λ s₂ k. (omega (arith, h.0, k.0), λ l. (λ i. bind (h.1 (omega (arith, k.0, l)) i) (λ s'. runs f' ws s')) ∙ k.1 l)))

  -- whoever is below both limits is searched under both
  searchable-same : (level : ℕ) (node : NodeRows) → level ≤ b → searchable P level node ≡ searchable (relimit n P) level node
  unfolding searchable
  searchable-same level node l =
      ap (λ x. x && leb P.split node.count) (passes P.limit (omega (arith, l, under)) ∙ sym (passes n (omega (arith, l, under'))))
    where
      passes : (limit : ℕ) → level < limit → ltb level limit ≡ true
      passes limit h = is_true (ltb level limit) (lt→ltb level limit h)

  search_if-same : (x : Bool) (k level : ℕ) (node : NodeRows) (s : S) → search_if P choose x k level node s ≡ search_if (relimit n P) choose x k level node s
  unfolding search_if
  search_if-same true k level node s = refl
  search_if-same false k level node s = refl

  expand-same : (w : Waiting) (s : State S) → suc w.level ≤ b → expand P choose w s ≡ expand (relimit n P) choose w s
  unfolding expand
  expand-same w s l =
      λ i.
      bind (side on_true (length s.nodes) s.left i) (λ t.
      bind (side on_false (suc (length s.nodes)) t.1 i) (λ f.
      ok (f.0 ++ t.0, record { nodes = with_children w s.nodes; depth = max s.depth (suc w.level); left = f.1 })))
    where
      side : (c : Bool → Bool) (k : ℕ) (t : S) → search_if P choose (searchable P (suc w.level) (child c w)) k (suc w.level) (child c w) t
          ≡ search_if (relimit n P) choose (searchable (relimit n P) (suc w.level) (child c w)) k (suc w.level) (child c w) t
      side c k t =
          ap (λ x. search_if P choose x k (suc w.level) (child c w) t) (searchable-same (suc w.level) (child c w) l)
          ∙ search_if-same (searchable (relimit n P) (suc w.level) (child c w)) k (suc w.level) (child c w) t

  -- w is split, and all that comes of it
  abbrev Comes : Waiting → State S → State S → Type 0
  Comes w s s' = (s.depth ≤ s'.depth) × (suc w.level ≤ s'.depth) × (s'.depth ≤ b → grow (relimit n P) choose (n - w.level) w s ≡ ok s')

  grow-unmet : (k : ℕ) (w : Waiting) (s : State S) → P.limit - w.level ≡ k → w.level < P.limit → Then (grow P choose k w s) (Comes w s)
  unfolding grow bind
  grow-unmet zero w s q l = absurd (omega (arith, q, l))
  grow-unmet (suc k) w s q l =
      then_next (expand P choose w s) _ _ _ (then-both (expand P choose w s) _ _ (expand-level P choose w s) (expand-depth P choose w s))
      (λ r e h. then-after (runs (λ w' s'. grow P choose k w' s') r.0 r.1) _ _
      (runs-unmet (λ w' s'. grow P choose k w' s') (λ w' s'. grow (relimit n P) choose (n - suc w.level) w' s') r.0
      (every-imp _ _ (λ v a s₁. below v a s₁ (grow-unmet k v s₁ (omega (arith, q, a.0)) a.1)) r.0 h.0) r.1)
      (λ s₂ g. (omega (arith, h.1, g.0), omega (arith, h.1, g.0), λ u. same-split r e s₂ (omega (arith, h.1, g.0, u)) (g.1 u))))
    where
      below : (v : Waiting) → AtLevel P choose (suc w.level) v → (s₁ : State S) → Then (grow P choose k v s₁) (Comes v s₁)
          → Unmet s₁ (grow P choose k v s₁) (grow (relimit n P) choose (n - suc w.level) v s₁)
      below v a s₁ h = then-after (grow P choose k v s₁) _ _ h (λ s' g. (g.0, λ u. ap (λ m. grow (relimit n P) choose (n - m) v s₁) (sym a.0) ∙ g.2 u))

      left : suc w.level ≤ b → n - w.level ≡ suc (n - suc w.level)
      left h = omega arith

      same-split : (r : List Waiting × State S) → expand P choose w s ≡ ok r → (s' : State S) → suc w.level ≤ b
          → runs (λ w' s'. grow (relimit n P) choose (n - suc w.level) w' s') r.0 r.1 ≡ ok s' → grow (relimit n P) choose (n - w.level) w s ≡ ok s'
      same-split r e s' h g =
          ap (λ m. grow (relimit n P) choose m w s) (left h)
          ∙ ap (λ m. bind m (λ r. runs (λ w' s'. grow (relimit n P) choose (n - suc w.level) w' s') r.0 r.1)) (sym (expand-same w s h) ∙ e)
          ∙ g

  -- from a root that is searched under both, or under neither
  pub root-unmet : (root : NodeRows) (s : S) → 1 ≤ b → Then (from_root P choose root s) (λ s'. s'.depth ≤ b → from_root (relimit n P) choose root s ≡ ok s')
  unfolding from_root grow_all bind
  root-unmet root s h = rw (searchable-same 1 root h) (go _)
    where
      rest : ℕ → List Waiting × S → Out (State S)
      rest m r = grow_all (relimit m P) choose r.0 (record { nodes = leaf_of root ∷ []; depth = 0; left = r.1 })

      go : (x : Bool) → Then (bind (search_if P choose x 0 1 root s) (rest P.limit)) (λ s'. s'.depth ≤ b → bind (search_if (relimit n P) choose x 0 1 root s) (rest n) ≡ ok s')
      go x =
          then_next (search_if P choose x 0 1 root s) _ _ _
          (search_if-joins P choose _ x 0 1 root s (λ t. always (choose s root) _ (λ r. joins-level P choose 0 1 root r.0 (omega (arith, h, under)))))
          (λ r e l. then-after (rest P.limit r) _ _
          (runs-unmet (λ w s'. grow P choose (P.limit - w.level) w s') (λ w s'. grow (relimit n P) choose (n - w.level) w s') r.0
          (every-imp _ _ (λ v a s₁. then-after (grow P choose (P.limit - v.level) v s₁) _ _ (grow-unmet (P.limit - v.level) v s₁ refl a.1) (λ s' g. (g.0, g.2))) r.0 l)
          (record { nodes = leaf_of root ∷ []; depth = 0; left = r.1 }))
          (λ s' g u. ap (λ m. bind m (rest n)) (sym (search_if-same x 0 1 root s) ∙ e) ∙ g.1 u))
