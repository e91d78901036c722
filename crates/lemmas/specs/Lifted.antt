-- A change of what is left to choose by that every choice goes through goes through the whole growth: the same nodes, the same depth, and what is left is changed so.
-- Assumes nothing.
use Prim.Native.Nat.{ℕ, zero, suc, ◌-◌}
use Rattle.std.specs.Prelude.{◌≡◌, Bool, length}
use Rattle.std.proofs.Math.Path.{refl}
use Rattle.std.proofs.Common.{sym, ap, ◌∙◌}
use Rattle.std.proofs.Math.Bool.{true, false}
use mathlib.Core.List.{List, [], ◌∷◌}
use Rattle.rules.specs.declared.Params.{Params}
use Rattle.rules.specs.Draws.{Out, bad, ok, bind}
use Rattle.rules.specs.Search.{NodeRows, Found, on_true, on_false}
use Rattle.rules.specs.Growth.{Waiting, State, child, searchable, runs, search_if, expand, grow, grow_all, from_root}
use Rattle.lemmas.specs.Outs.{bind_assoc, bind_all}

-- an answer, changed
abbrev pub mapped {ℓ κ} : {A : Type ℓ} {B : Type κ} → (A → B) → Out A → Out B
mapped f m = bind m (λ a. ok (f a))

-- and then gone on from
pub mapped-on {ℓ κ μ} : {A : Type ℓ} {B : Type κ} {C : Type μ} (f : A → B) (m : Out A) (k : B → Out C) → bind (mapped f m) k ≡ bind m (λ a. k (f a))
unfolding bind
mapped-on f (bad n) k = refl
mapped-on f (ok a) k = refl

-- a change that the first step goes through and, from each answer, the next
pub through {ℓ κ} : {A : Type ℓ} {B : Type κ} (f : A → A) (h : B → B) (m m' : Out A) (k : A → Out B)
    → m' ≡ mapped f m → ((a : A) → k (f a) ≡ mapped h (k a)) → bind m' k ≡ mapped h (bind m k)
through f h m m' k e next = ap (λ x. bind x k) e ∙ mapped-on f m k ∙ bind_all m _ _ next ∙ sym (bind_assoc m k (λ b. ok (h b)))

-- the second of two
abbrev pub second {ℓ} : {A : Type ℓ} {S : Type 0} → (S → S) → A × S → A × S
second g p = (p.0, g p.1)

abbrev pub lift : {S : Type 0} → (S → S) → State S → State S
lift g s = record { nodes = s.nodes; depth = s.depth; left = g s.left }

module _ (P : Params) {S : Type 0} (choose : S → NodeRows → Out (Found × S)) (g : S → S) (chooses : (s : S) (node : NodeRows) → choose (g s) node ≡ mapped (second g) (choose s node)) where
  search_if-lift : (b : Bool) (n level : ℕ) (node : NodeRows) (s : S) → search_if P choose b n level node (g s) ≡ mapped (second g) (search_if P choose b n level node s)
  unfolding search_if bind
  search_if-lift false n level node s = refl
  search_if-lift true n level node s = through (second g) (second g) (choose s node) _ _ (chooses s node) (λ r. refl)

  expand-lift : (w : Waiting) (s : State S) → expand P choose w (lift g s) ≡ mapped (second (lift g)) (expand P choose w s)
  unfolding expand bind
  expand-lift w s =
      through (second g) (second (lift g)) (side on_true (length s.nodes) s.left) _ _ (search_if-lift _ _ _ (child on_true w) s.left)
      (λ t. through (second g) (second (lift g)) (side on_false (suc (length s.nodes)) t.1) _ _ (search_if-lift _ _ _ (child on_false w) t.1) (λ f. refl))
    where
      side : (Bool → Bool) → ℕ → S → Out (List Waiting × S)
      side b n t = search_if P choose (searchable P (suc w.level) (child b w)) n (suc w.level) (child b w) t

  runs-lift : (f : Waiting → State S → Out (State S)) → ((w : Waiting) (s : State S) → f w (lift g s) ≡ mapped (lift g) (f w s)) → (ws : List Waiting) (s : State S)
      → runs f ws (lift g s) ≡ mapped (lift g) (runs f ws s)
  unfolding runs bind
  runs-lift f h [] s = refl
  runs-lift f h (w ∷ ws) s = through (lift g) (lift g) (f w s) _ _ (h w s) (λ s'. runs-lift f h ws s')

  grow-lift : (k : ℕ) (w : Waiting) (s : State S) → grow P choose k w (lift g s) ≡ mapped (lift g) (grow P choose k w s)
  unfolding grow bind
  grow-lift zero w s = refl
  grow-lift (suc k) w s = through (second (lift g)) (lift g) (expand P choose w s) _ _ (expand-lift w s) (λ r. runs-lift _ (λ w' s'. grow-lift k w' s') r.0 r.1)

  pub root-lift : (root : NodeRows) (s : S) → from_root P choose root (g s) ≡ mapped (lift g) (from_root P choose root s)
  unfolding from_root grow_all
  root-lift root s =
      through (second g) (lift g) _ _ _ (search_if-lift _ 0 1 root s) (λ r. runs-lift _ (λ w s'. grow-lift (P.limit - w.level) w s') r.0 _)
