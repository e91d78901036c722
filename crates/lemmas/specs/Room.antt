-- A growth from a good root makes at most max(1, 2 x rows - 1) nodes, over any way to choose fine cuts. Assumes nothing.
use Rattle.std.specs.Prelude.{ℕ, suc, ◌+◌, ◌-◌, ◌*◌, ◌<◌, ◌≤◌, ◌≡◌, Bool, List, [], ◌∷◌, ◌++◌, length, get_or}
use native.Mathlib.Omega.{arith}
use Rattle.std.proofs.Common.{sym, ◌∙◌, subst}
use Rattle.std.proofs.Math.Path.{ap}
use Rattle.std.proofs.Math.Bool.{true, false, not}
use Rattle.rules.specs.declared.Params.{Params}
use Rattle.rules.specs.Words.{keep, total}
use Rattle.rules.specs.Draws.{Out}
use Rattle.rules.specs.Search.{Element, NodeRows, goes_true, on_true, on_false, Found, no_cut, cut_found}
use Rattle.rules.specs.Growth.{Waiting, State, child, leaf_of, with_children, joins, searchable, search_if, expand, from_root}
use Rattle.lemmas.specs.Lists.{Every, every_append, get_d-keep, total-append, total-sides}
use Rattle.lemmas.specs.Outs.{Then, then-then, then-after}
use Rattle.lemmas.specs.WaitingOrder.{children-length, root-keep}
use Rattle.lemmas.specs.Cuts.{Good, Suits, Ripe, side-good}

-- ---- the rows of a node, which a fine cut divides

abbrev pub rows_of : NodeRows → ℕ
rows_of node = total (λ (e : Element). 1) (get_or node.columns 0 [])

module _ (P : Params) (w : Waiting) (h : Ripe P w) where
  -- a side by any weight, in the cut's own column
  pub side-total : (b : Bool → Bool) (f : Element → ℕ) (j : ℕ) → j < P.features
      → total f (get_or (child b w).columns j []) ≡ total f (keep (λ e. b (goes_true w.cut e)) (get_or w.node.columns w.cut.feature []))
  unfolding child
  side-total b f j hj =
      ap (total f) (get_d-keep (λ e. b (goes_true w.cut e)) w.node.columns j)
      ∙ h.good.level j w.cut.feature hj h.fine.known f (λ e. b (goes_true w.cut e))

  -- both sides together, by any weight
  both-sides : (f : Element → ℕ) (j : ℕ) → j < P.features
      → total f (get_or (child on_true w).columns j []) + total f (get_or (child on_false w).columns j []) ≡ total f (get_or w.node.columns j [])
  unfolding child
  both-sides f j hj =
      (λ i. total f (get_d-keep (goes_true w.cut) w.node.columns j i) + total f (get_d-keep (λ e. not (goes_true w.cut e)) w.node.columns j i))
      ∙ total-sides f (goes_true w.cut) (get_or w.node.columns j [])

  pub halves : 0 < P.features → (1 ≤ rows_of (child on_true w)) × (1 ≤ rows_of (child on_false w)) × (rows_of (child on_true w) + rows_of (child on_false w) ≡ rows_of w.node)
  halves some = (
    subst (λ n. 1 ≤ n) (sym (side-total on_true (λ e. 1) 0 some)) h.fine.some_true,
    subst (λ n. 1 ≤ n) (sym (side-total on_false (λ e. 1) 0 some)) h.fine.some_false,
    both-sides (λ e. 1) 0 some,
  )

-- ---- the node room that is asked is enough

-- how often the waiting nodes can still be split, and what comes of them
abbrev pub load : List Waiting → ℕ
load ws = total (λ (w : Waiting). rows_of w.node - 1) ws

module _ (P : Params) {S : Type 0} (choose : S → NodeRows → Out (Found × S))
    (fine : (s : S) (node : NodeRows) → Good P node → Then (choose s node) (λ r. Suits P node r.0)) where
  joins-ripe : (n level : ℕ) (node : NodeRows) (f : Found) → Good P node → Suits P node f → Every (Ripe P) (joins n level node f)
  unfolding joins
  joins-ripe n level node no_cut g h = tt
  joins-ripe n level node (cut_found c) g h = (record { good = g; fine = h }, tt)

  joins-load : (n level : ℕ) (node : NodeRows) (f : Found) → load (joins n level node f) ≤ rows_of node - 1
  unfolding joins total
  joins-load n level node no_cut = omega arith
  joins-load n level node (cut_found c) = omega arith

  pub search_if-load : (b : Bool) (n level : ℕ) (node : NodeRows) (s : S) → Good P node
      → Then (search_if P choose b n level node s) (λ r. Every (Ripe P) r.0 × (load r.0 ≤ rows_of node - 1))
  unfolding search_if total
  search_if-load false n level node s g = (tt, omega arith)
  search_if-load true n level node s g =
      then-then (choose s node) _ _ _ (fine s node g) (λ r h. (joins-ripe n level node r.0 g h, joins-load n level node r.0))

  abbrev pub Bounded : ℕ → List Waiting → State S → Type 0
  Bounded top ws s = Every (Ripe P) ws × (length s.nodes + 2 * load ws ≤ top)

  pub expand-bounded : 0 < P.features → (top : ℕ) (w : Waiting) (ws : List Waiting) (s : State S) → w.level < P.limit → Bounded top (w ∷ ws) s
      → Then (expand P choose w s) (λ r. Bounded top (r.0 ++ ws) r.1)
  unfolding expand total
  expand-bounded some top w ws s b h =
      then-then (search_if P choose (searchable P (suc w.level) (child on_true w)) (length s.nodes) (suc w.level) (child on_true w) s.left) _ _ _
      (search_if-load _ _ _ _ _ (side-good P on_true w h.0.0))
      (λ t ht. then-then
      (search_if P choose (searchable P (suc w.level) (child on_false w)) (suc (length s.nodes)) (suc w.level) (child on_false w) t.1) _ _ _
      (search_if-load _ _ _ _ _ (side-good P on_false w h.0.0))
      (λ f hf. (
        every_append _ (f.0 ++ t.0) ws (every_append _ f.0 t.0 hf.0 ht.0) h.0.1,
        room (length s.nodes) (length (with_children w s.nodes)) (load (f.0 ++ t.0 ++ ws)) (load f.0) (load t.0) (load ws)
            (rows_of (child on_true w)) (rows_of (child on_false w)) (rows_of w.node) (children-length w s.nodes)
            (total-append _ (f.0 ++ t.0) ws ∙ ap (λ n. n + load ws) (total-append _ f.0 t.0))
            hf.1 ht.1 (halves P w h.0.0 some) h.1,
      )))
    where
      room : (n n' l lf lt lw a b c : ℕ) → n' ≡ n + 2 → l ≡ lf + lt + lw → lf ≤ b - 1 → lt ≤ a - 1 → (1 ≤ a) × (1 ≤ b) × (a + b ≡ c)
          → n + 2 * ((c - 1) + lw) ≤ top → n' + 2 * l ≤ top
      room n n' l lf lt lw a b c h₁ h₂ h₃ h₄ h₅ h₆ = omega arith

  pub root-bounded : (root : NodeRows) (s : S) → Good P root → (b : Bool)
      → Then (search_if P choose b 0 1 root s)
      (λ r. Bounded (1 + 2 * (rows_of root - 1)) r.0 (record { nodes = leaf_of root ∷ []; depth = 0; left = r.1 }))
  root-bounded root s g b =
      then-after (search_if P choose b 0 1 root s) _ _ (search_if-load b 0 1 root s g)
      (λ r q. (q.0, start (load r.0) (rows_of root) q.1))
    where
      start : (l n : ℕ) → l ≤ n - 1 → 1 + 2 * l ≤ 1 + 2 * (n - 1)
      start l n h = omega arith

  pub room-enough : 0 < P.features → (root : NodeRows) (s : S) → Good P root → Then (from_root P choose root s) (λ s'. length s'.nodes ≤ 1 + 2 * (rows_of root - 1))
  unfolding total
  room-enough some root s g =
      then-after (from_root P choose root s) _ _
      (root-keep P choose (Bounded (1 + 2 * (rows_of root - 1))) (expand-bounded some (1 + 2 * (rows_of root - 1))) root s (root-bounded root s g))
      (λ s' h. last (length s'.nodes) (1 + 2 * (rows_of root - 1)) h.1)
    where
      last : (n m : ℕ) → n + 2 * 0 ≤ m → n ≤ m
      last n m h = omega arith
