-- One growth follows another, over any two sources. Where each draw that the one gives can be given by the other, so is each search, each split and the whole growth.
-- It goes backward, from what is left in the end to what was there at the start: a tape that holds what was drawn then serves as the other's. Assumes nothing.
use Prim.Native.Nat.{ℕ, zero, suc, ◌-◌, min}
use Rattle.std.specs.Prelude.{◌≡◌, refl, Bool, get_or, take, Float, None}
use Rattle.std.proofs.Math.Path.{ap}
use Rattle.std.proofs.Common.{◌∙◌}
use Rattle.std.proofs.Math.Bool.{true, false}
use mathlib.Core.List.{List, [], ◌∷◌}
use Rattle.std.specs.Float.Ieee.{lt}
use Rattle.rules.specs.declared.Params.{Params}
use Rattle.rules.specs.declared.Splitter.{Splitter}
use Rattle.rules.specs.declared.Splitter.TheVariants.{Best, Random}
use Rattle.rules.specs.Draws.{Out, bad, ok, bind, Source}
use Rattle.rules.specs.Search.{Element, Column, at, NodeRows, final, Tries, draw_in, random_in, try_one, try_all, Found, found, search}
use Rattle.rules.specs.Growth.{Waiting, State, leaf_of, search_if, runs, expand, grow, grow_all, from_root}
use Rattle.lemmas.specs.Outs.{Then, then-after}

module _ {S U : Type 0} (R : S → U → Type 0) where
  -- the one goes from s to what is left by its answer; from all that this is related to, there is a way back to some u that s is related to, from which the other answers the same
  abbrev pub Follows : {A B : Type 0} → S → Out A → (A → S) → (U → Out B) → (A → U → B) → Type 0
  Follows s m left run over = Then m (λ a. (u' : U) → R (left a) u' → (u : U) × R s u × (run u ≡ ok (over a u')))

  -- so of what is given with an answer beside it: a draw, a choice
  abbrev pub Gives : {A : Type 0} → S → Out (A × S) → (U → Out (A × U)) → Type 0
  Gives s m run = Follows s m (λ r. r.1) run (λ r u. (r.0, u))

  -- step after step
  pub follows_then : {A B C D : Type 0} (s : S) (m : Out A) (left : A → S) (run : U → Out B) (over : A → U → B) (f : A → Out C) (left' : C → S) (on : B → Out D) (over' : C → U → D)
      → Follows s m left run over → ((a : A) → Follows (left a) (f a) left' (λ u. on (over a u)) over') → Follows s (bind m f) left' (λ u. bind (run u) on) over'
  unfolding bind
  follows_then s (bad n) left run over f left' on over' h k = tt
  follows_then s (ok a) left run over f left' on over' h k =
      then-after (f a) _ _ (k a)
      (λ c back u'' q''. let (u', q', e') = back u'' q'' in let (u, q, e) = h u' q' in (u, q, ap (λ m. bind m on) e ∙ e'))

-- ---- a search, where each draw follows

abbrev pub tries_with : {S U : Type 0} → Tries S → U → Tries U
tries_with r u = record { best = r.best; left = u }

module _ (P : Params) {S U : Type 0} (one : Source S) (two : Source U) (R : S → U → Type 0)
    (shuffles : (s : S) → Gives R s (one.shuffle s) (λ u. two.shuffle u))
    (thresholds : (s : S) (lowest highest : Float) → Gives R s (one.threshold s lowest highest) (λ u. two.threshold u lowest highest))
    (counts : (s : S) (u' : U) → R (one.done s) u' → (u : U) × R s u × (two.done u ≡ u')) where
  -- the other tries the same
  abbrev TriesFollow : Tries S → Out (Tries S) → (Tries U → Out (Tries U)) → Type 0
  TriesFollow r m run = Follows R r.left m (λ r'. r'.left) (λ u. run (tries_with r u)) tries_with

  draw-follows : (b : Bool) (node : NodeRows) (j : ℕ) (r : Tries S) (e : Element) (es : Column) → TriesFollow r (draw_in one b P node j r e es) (λ v. draw_in two b P node j v e es)
  unfolding draw_in
  draw-follows false node j r e es = λ u q. (u, q, refl)
  draw-follows true node j r e es =
      follows_then R _ _ _ _ _ _ _ _ _ (thresholds r.left (at j e) (at j (final e es))) (λ t u q. (u, q, refl))

  random-follows : (node : NodeRows) (j : ℕ) (r : Tries S) (col : Column) → TriesFollow r (random_in one P node j r col) (λ v. random_in two P node j v col)
  unfolding random_in
  random-follows node j r [] = λ u q. (u, q, refl)
  random-follows node j r (e ∷ es) = draw-follows (lt (at j e) (at j (final e es))) node j r e es

  try-follows : (b : Splitter) (node : NodeRows) (j : ℕ) (r : Tries S) → TriesFollow r (try_one one b P node j r) (λ v. try_one two b P node j v)
  unfolding try_one
  try-follows Best node j r = λ u q. (u, q, refl)
  try-follows Random node j r = random-follows node j r (get_or node.columns j [])

  tries-follow : (node : NodeRows) (js : List ℕ) (r : Tries S) → TriesFollow r (try_all one P node js r) (λ v. try_all two P node js v)
  unfolding try_all
  tries-follow node [] r = λ u q. (u, q, refl)
  tries-follow node (j ∷ js) r = follows_then R _ _ _ _ _ _ _ _ _ (try-follows P.splitter node j r) (λ r'. tries-follow node js r')

  pub search-follows : (s : S) (node : NodeRows) → Gives R s (search one P s node) (λ u. search two P u node)
  unfolding search
  search-follows s node =
      follows_then R _ _ _ _ _ _ _ _ _ (shuffles s)
      (λ o. follows_then R _ _ _ _ _ _ _ _ _
      (tries-follow node (take (min P.tried P.features) o.0) (record { best = None; left = o.1 }))
      (λ r u' q'. let (u, q, e) = counts r.left u' q' in (u, q, ap (λ v. ok (found r.best, v)) e)))

-- ---- a growth, where each choice follows

abbrev pub state_with : {S U : Type 0} → State S → U → State U
state_with s u = record { nodes = s.nodes; depth = s.depth; left = u }

module _ (P : Params) {S U : Type 0} (one : S → NodeRows → Out (Found × S)) (two : U → NodeRows → Out (Found × U)) (R : S → U → Type 0)
    (chooses : (s : S) (node : NodeRows) → Gives R s (one s node) (λ u. two u node)) where
  search_if-follows : (b : Bool) (n level : ℕ) (node : NodeRows) (s : S) → Gives R s (search_if P one b n level node s) (λ u. search_if P two b n level node u)
  unfolding search_if
  search_if-follows false n level node s = λ u q. (u, q, refl)
  search_if-follows true n level node s = follows_then R _ _ _ _ _ _ _ _ _ (chooses s node) (λ r u q. (u, q, refl))

  expand-follows : (w : Waiting) (s : State S)
      → Follows R s.left (expand P one w s) (λ r. r.1.left) (λ u. expand P two w (state_with s u)) (λ r u. (r.0, state_with r.1 u))
  unfolding expand
  expand-follows w s =
      follows_then R _ _ _ _ _ _ _ _ _ (search_if-follows _ _ _ _ s.left)
      (λ t. follows_then R _ _ _ _ _ _ _ _ _ (search_if-follows _ _ _ _ t.1) (λ f u q. (u, q, refl)))

  -- from one state to the next
  abbrev StatesFollow : State S → Out (State S) → (State U → Out (State U)) → Type 0
  StatesFollow s m run = Follows R s.left m (λ s'. s'.left) (λ u. run (state_with s u)) state_with

  runs-follow : (f : Waiting → State S → Out (State S)) (g : Waiting → State U → Out (State U)) → ((w : Waiting) (s : State S) → StatesFollow s (f w s) (g w))
      → (ws : List Waiting) (s : State S) → StatesFollow s (runs f ws s) (runs g ws)
  unfolding runs
  runs-follow f g h [] s = λ u q. (u, q, refl)
  runs-follow f g h (w ∷ ws) s = follows_then R _ _ _ _ _ _ _ _ _ (h w s) (λ s'. runs-follow f g h ws s')

  grow-follows : (k : ℕ) (w : Waiting) (s : State S) → StatesFollow s (grow P one k w s) (grow P two k w)
  unfolding grow
  grow-follows zero w s = λ u q. (u, q, refl)
  grow-follows (suc k) w s = follows_then R _ _ _ _ _ _ _ _ _ (expand-follows w s) (λ r. runs-follow _ _ (grow-follows k) r.0 r.1)

  pub growth-follows : (root : NodeRows) (s : S) → Follows R s (from_root P one root s) (λ s'. s'.left) (λ u. from_root P two root u) state_with
  unfolding from_root grow_all
  growth-follows root s =
      follows_then R _ _ _ _ _ _ _ _ _ (search_if-follows _ 0 1 root s)
      (λ r. runs-follow _ _ (λ w. grow-follows (P.limit - w.level) w) r.0 (record { nodes = leaf_of root ∷ []; depth = 0; left = r.1 }))
