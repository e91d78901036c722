-- Growth, over any way to choose cuts. `pop`: the waiting list is a stack, its last to join split first, as R9.11 has it and as a loop goes.
-- `all_keep`: what each split keeps, the whole growth keeps. `root_ends`: and what holds of each split's bad draw, holds of the growth's. Assumes nothing.
use Prim.Native.Nat.{ℕ, zero, suc, ◌+◌, ◌-◌, ◌<◌, max}
use Rattle.std.proofs.Common.{arith, ◌∙◌, length-set, length-append}
use Rattle.std.specs.Prelude.{◌≡◌, Bool, ◌&&◌, length, set, ltb, leb}
use Rattle.std.proofs.Math.Path.{refl, sym, ap}
use Rattle.std.proofs.Math.Bool.{true, false}
use mathlib.Core.List.{List, [], ◌∷◌, ◌++◌}
use Rattle.std.proofs.Math.Dec.{T, ltb→lt}
use Rattle.std.specs.Float.Ieee.Fits.{and_l, and_r}
use Rattle.rules.specs.declared.Params.{Params}
use Rattle.rules.specs.Draws.{Out, bind}
use Rattle.rules.specs.Search.{NodeRows, Found, no_cut, cut_found, on_true, on_false}
use Rattle.rules.specs.Growth.{TreeNode, Waiting, State, child, leaf_of, split_of, with_children, joins, runs, searchable, search_if, expand, grow, grow_all, from_root}
use Rattle.lemmas.specs.Lists.{Every, every_append, every-imp}
use Rattle.lemmas.specs.Outs.{bind_assoc, Ends, Then, ends-then, then-then, then-any, ends-both, always, bind_all, bind-same}

pub children-length : (w : Waiting) (ns : List TreeNode) → length (with_children w ns) ≡ length ns + 2
unfolding with_children
children-length w ns =
    length-append (set ns w.number (split_of w (length ns))) (leaf_of (child on_true w) ∷ leaf_of (child on_false w) ∷ [])
    ∙ ap (λ n. n + 2) (length-set ns w.number (split_of w (length ns)))

pub runs_append : {S : Type 0} (f : Waiting → S → Out S) (xs ys : List Waiting) (s : S) → runs f (xs ++ ys) s ≡ bind (runs f xs s) (λ s'. runs f ys s')
unfolding runs bind
runs_append f [] ys s = refl
runs_append f (x ∷ xs) ys s =
    bind_all (f x s) _ _ (λ s'. runs_append f xs ys s')
    ∙ sym (bind_assoc (f x s) (λ s'. runs f xs s') (λ s'. runs f ys s'))

pub runs_same : {S : Type 0} (f g : Waiting → S → Out S) (ws : List Waiting) (s : S) → Every (λ w. (t : S) → f w t ≡ g w t) ws → runs f ws s ≡ runs g ws s
unfolding runs
runs_same f g [] s h = refl
runs_same f g (w ∷ ws) s h =
    ap (λ m. bind m (λ s'. runs f ws s')) (h.0 s)
    ∙ bind_all (g w s) _ _ (λ s'. runs_same f g ws s' h.1)

module _ (P : Params) {S : Type 0} (choose : S → NodeRows → Out (Found × S)) where
  -- ---- who joins: one at most, under the number and at the level asked

  -- what holds of the node searched, if it joins
  pub search_if-joins : (Q : Waiting → Type 0) (b : Bool) (n level : ℕ) (node : NodeRows) (s : S)
      → (T b → Then (choose s node) (λ r. Every Q (joins n level node r.0))) → Then (search_if P choose b n level node s) (λ r. Every Q r.0)
  unfolding search_if
  search_if-joins Q false n level node s h = tt
  search_if-joins Q true n level node s h = then-then (choose s node) _ _ _ (h tt) (λ r q. q)

  -- what holds of both children, if they join
  pub expand-joins : (Q : Waiting → Type 0) (w : Waiting) (s : State S)
      → ((t : S) → T (searchable P (suc w.level) (child on_true w)) → Then (choose t (child on_true w)) (λ r. Every Q (joins (length s.nodes) (suc w.level) (child on_true w) r.0)))
      → ((t : S) → T (searchable P (suc w.level) (child on_false w)) → Then (choose t (child on_false w)) (λ r. Every Q (joins (suc (length s.nodes)) (suc w.level) (child on_false w) r.0)))
      → Then (expand P choose w s) (λ r. Every Q r.0)
  unfolding expand
  expand-joins Q w s h g =
      then-then (search_if P choose (searchable P (suc w.level) (child on_true w)) (length s.nodes) (suc w.level) (child on_true w) s.left) _ _ _
      (search_if-joins Q _ _ _ _ _ (h s.left))
      (λ t ht. then-then (search_if P choose (searchable P (suc w.level) (child on_false w)) (suc (length s.nodes)) (suc w.level) (child on_false w) t.1) _ _ _
      (search_if-joins Q _ _ _ _ _ (g t.1))
      (λ f hf. every_append _ f.0 t.0 hf ht))

  pub expand-nodes : (w : Waiting) (s : State S) → Then (expand P choose w s) (λ r. r.1.nodes ≡ with_children w s.nodes)
  unfolding expand
  expand-nodes w s =
      then-any (search_if P choose (searchable P (suc w.level) (child on_true w)) (length s.nodes) (suc w.level) (child on_true w) s.left) _ _
      (λ t. then-any (search_if P choose (searchable P (suc w.level) (child on_false w)) (suc (length s.nodes)) (suc w.level) (child on_false w) t.1) _ _ (λ f. refl))

  pub expand-depth : (w : Waiting) (s : State S) → Then (expand P choose w s) (λ r. r.1.depth ≡ max s.depth (suc w.level))
  unfolding expand
  expand-depth w s =
      then-any (search_if P choose (searchable P (suc w.level) (child on_true w)) (length s.nodes) (suc w.level) (child on_true w) s.left) _ _
      (λ t. then-any (search_if P choose (searchable P (suc w.level) (child on_false w)) (suc (length s.nodes)) (suc w.level) (child on_false w) t.1) _ _ (λ f. refl))

  -- v waits at a level below the limit
  abbrev pub AtLevel : ℕ → Waiting → Type 0
  AtLevel level v = (v.level ≡ level) × (v.level < P.limit)

  pub searchable-below : (level : ℕ) (node : NodeRows) → T (searchable P level node) → level < P.limit
  unfolding searchable
  searchable-below level node t = ltb→lt level P.limit (and_l (ltb level P.limit) (leb P.split node.count) t)

  pub joins-level : (n level : ℕ) (node : NodeRows) (f : Found) → level < P.limit → Every (AtLevel level) (joins n level node f)
  unfolding joins
  joins-level n level node no_cut h = tt
  joins-level n level node (cut_found c) h = ((refl, h), tt)

  pub expand-level : (w : Waiting) (s : State S) → Then (expand P choose w s) (λ r. Every (AtLevel (suc w.level)) r.0)
  expand-level w s = expand-joins _ w s (λ t h. level on_true (length s.nodes) t h) (λ t h. level on_false (suc (length s.nodes)) t h)
    where
      level : (b : Bool → Bool) (n : ℕ) (t : S) → T (searchable P (suc w.level) (child b w))
          → Then (choose t (child b w)) (λ r. Every (AtLevel (suc w.level)) (joins n (suc w.level) (child b w) r.0))
      level b n t h = always (choose t (child b w)) _ (λ r. joins-level n (suc w.level) (child b w) r.0 (searchable-below (suc w.level) (child b w) h))

  -- the root, whatever else is asked of it
  first-level : (b : Bool) (root : NodeRows) (s : S) → (T b → T (searchable P 1 root)) → Then (search_if P choose b 0 1 root s) (λ r. Every (AtLevel 1) r.0)
  first-level b root s h = search_if-joins _ b 0 1 root s (λ t. always (choose s root) _ (λ r. joins-level 0 1 root r.0 (searchable-below 1 root (h t))))

  pub root-level : (root : NodeRows) (s : S) → Then (search_if P choose (ltb 0 root.count && searchable P 1 root) 0 1 root s) (λ r. Every (AtLevel 1) r.0)
  root-level root s = first-level _ root s (and_r (ltb 0 root.count) (searchable P 1 root))

  -- ---- the stack

  growing : Waiting → State S → Out (State S)
  growing w s = grow P choose (P.limit - w.level) w s

  pub pop : (w : Waiting) (ws : List Waiting) (s : State S) → w.level < P.limit
      → grow_all P choose (w ∷ ws) s ≡ bind (expand P choose w s) (λ r. grow_all P choose (r.0 ++ ws) r.1)
  unfolding grow_all grow runs growing
  pop w ws s h =
      ap (λ n. bind (grow P choose n w s) rest) (left h)
      ∙ bind_assoc (expand P choose w s) (λ r. runs (λ w' s'. grow P choose k w' s') r.0 r.1) rest
      ∙ bind-same (expand P choose w s) _ _ _ (expand-level w s)
      (λ r e. ap (λ m. bind m rest) (runs_same _ growing r.0 r.1 (every-imp _ _ (λ v l t. ap (λ n. grow P choose (P.limit - n) v t) (sym l.0)) r.0 e))
      ∙ sym (runs_append growing r.0 ws r.1))
    where
      k : ℕ
      k = P.limit - suc w.level

      rest : State S → Out (State S)
      rest s' = runs growing ws s'

      left : w.level < P.limit → P.limit - w.level ≡ suc k
      left h = omega arith

  -- ---- what each split keeps, the whole growth keeps

  module _ (I : List Waiting → State S → Type 0) (B : ℕ → Type 0)
      (keeps : (w : Waiting) (ws : List Waiting) (s : State S) → w.level < P.limit → I (w ∷ ws) s → Ends (expand P choose w s) (λ r. I (r.0 ++ ws) r.1) B) where
    Splits : ℕ → Type 0
    Splits k = (w : Waiting) (ws : List Waiting) (s : State S) → P.limit - w.level ≡ k → w.level < P.limit → I (w ∷ ws) s → Ends (grow P choose k w s) (λ s'. I ws s') B

    runs-ends : (k l : ℕ) → P.limit - l ≡ k → Splits k → (xs ws : List Waiting) (s : State S) → Every (AtLevel l) xs → I (xs ++ ws) s
        → Ends (runs (λ w' s'. grow P choose k w' s') xs s) (λ s'. I ws s') B
    unfolding runs Splits
    runs-ends k l q g [] ws s e h = h
    runs-ends k l q g (x ∷ xs) ws s e h =
        ends-then _ _ _ _ B (g x (xs ++ ws) s (ap (λ n. P.limit - n) e.0.0 ∙ q) e.0.1 h)
        (λ s' h'. runs-ends k l q g xs ws s' e.1 h')

    no_room : (l : ℕ) → P.limit - l ≡ 0 → l < P.limit → ⊥
    no_room l e h = omega arith

    less_one : (l k : ℕ) → P.limit - l ≡ suc k → P.limit - suc l ≡ k
    less_one l k e = omega arith

    grow-ends : (k : ℕ) → Splits k
    unfolding grow Splits
    grow-ends zero w ws s e b h = absurd (no_room w.level e b)
    grow-ends (suc k) w ws s e b h =
        ends-then _ _ _ _ B (ends-both (expand P choose w s) _ _ B (keeps w ws s b h) (expand-level w s))
        (λ r q. runs-ends k (suc w.level) (less_one w.level k e) (grow-ends k) r.0 ws r.1 q.1 q.0)

    all-ends : (ws : List Waiting) (s : State S) → Every (λ w. w.level < P.limit) ws → I ws s → Ends (grow_all P choose ws s) (λ s'. I [] s') B
    unfolding grow_all runs Splits
    all-ends [] s e h = h
    all-ends (w ∷ ws) s e h = ends-then _ _ _ _ B (grow-ends (P.limit - w.level) w ws s refl e.0 h) (λ s' h'. all-ends ws s' e.1 h')

    -- from the root on: what holds once the root has been searched, or not, holds in the end
    pub root_ends : (root : NodeRows) (s : S)
        → ((b : Bool) → Ends (search_if P choose b 0 1 root s) (λ r. I r.0 (record { nodes = leaf_of root ∷ []; depth = 0; left = r.1 })) B)
        → Ends (from_root P choose root s) (λ s'. I [] s') B
    unfolding from_root
    root_ends root s h = go _ (λ t. search and_r)
      where
        go : (b : Bool) → (T b → T (searchable P 1 root))
            → Ends (bind (search_if P choose b 0 1 root s) (λ r. grow_all P choose r.0 (record { nodes = leaf_of root ∷ []; depth = 0; left = r.1 }))) (λ s'. I [] s') B
        go b g =
            ends-then _ _ _ _ B (ends-both (search_if P choose b 0 1 root s) _ _ B (h b) (first-level b root s g))
            (λ r q. all-ends r.0 (record { nodes = leaf_of root ∷ []; depth = 0; left = r.1 }) (every-imp _ _ (λ v l. l.1) r.0 q.1) q.0)

  -- of answers alone
  module _ (I : List Waiting → State S → Type 0)
      (keeps : (w : Waiting) (ws : List Waiting) (s : State S) → w.level < P.limit → I (w ∷ ws) s → Then (expand P choose w s) (λ r. I (r.0 ++ ws) r.1)) where
    pub all_keep : (ws : List Waiting) (s : State S) → Every (λ w. w.level < P.limit) ws → I ws s → Then (grow_all P choose ws s) (λ s'. I [] s')
    all_keep = all-ends I (λ n. Unit {0}) keeps

    pub root-keep : (root : NodeRows) (s : S)
        → ((b : Bool) → Then (search_if P choose b 0 1 root s) (λ r. I r.0 (record { nodes = leaf_of root ∷ []; depth = 0; left = r.1 })))
        → Then (from_root P choose root s) (λ s'. I [] s')
    root-keep = root_ends I (λ n. Unit {0}) keeps
