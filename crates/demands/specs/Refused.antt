-- Which numbers a fit can be refused by before growth: what holds of the number of each test that can fail holds of the number told. Assumes nothing.
use Rattle.std.specs.Prelude.{ℕ, suc, ◌≡◌, refl, ◌≢◌, Bool, true, false, not, ◌&&◌, cond, T, leb, eqb, Float, Err}
use Rattle.std.proofs.Common.{ap, subst}
use mathlib.Core.List.{List, [], ◌∷◌}
use Rattle.rules.specs.declared.Shape.{Shape}
use Rattle.rules.specs.declared.Refusal.{Refusal}
use Rattle.rules.specs.Words.{from, joined, total}
use Rattle.rules.specs.Lent.{WaitingForm, TreeRooms, ForestRooms, listing_at, shortest_of_eight}
use Rattle.rules.specs.Checks.{Test, checked, number_of, room_for, work_enough}
use Rattle.rules.specs.Listing.{tests_from, column_tests, order_tests}
use Rattle.rules.specs.Fit.{TreeCall, one_tree_of, tree_tests}
use Rattle.rules.specs.Forest.{ForestCall, each_tree, rooms_good, forest_tests}
use Rattle.lemmas.specs.Lists.{Every, every_append}
use Rattle.lemmas.specs.Passed.{IsPassed}

-- what holds of the number of each test that fails holds of the number told
pub told-number : (Q : ℕ → Type 0) (ts : List Test) → Every (λ (t : Test). t.passes ≡ false → Q t.tells.number) ts
    → (r : Refusal) → checked ts ≡ Err r → Q r.number
unfolding checked
told-number Q [] e r h = absurd (subst IsPassed h tt)
told-number Q (t ∷ ts) e r h = go t.passes e.0 (told-number Q ts e.1 r) h
  where
    go : (b : Bool) → (b ≡ false → Q t.tells.number) → (checked ts ≡ Err r → Q r.number) → cond b (checked ts) (Err t.tells) ≡ Err r → Q r.number
    go true q later h = later h
    go false q later h = subst Q (ap number_of h) (q refl)

module _ (Q : ℕ → Type 0) (q₁₁ : Q 11) (q₁₂ : Q 12) (q₁₃ : Q 13) where
  abbrev Fails : Test → Type 0
  Fails t = t.passes ≡ false → Q t.tells.number

  places-tell : (rows : ℕ) (value : ℕ → Float) (column lacking : ℕ) (before : List ℕ) (place : ℕ) (l : List ℕ) → Every Fails (tests_from rows value column lacking before place l)
  unfolding tests_from
  places-tell rows value column lacking before place [] = tt
  places-tell rows value column lacking before place (k ∷ l) = (λ f. q₁₁, (λ f. q₁₂, (λ f. q₁₃, places-tell rows value column lacking (k ∷ before) (suc place) l)))

  pub orders-tell : (S : Shape) (xs : List Float) (ls : List ℕ) → Every Fails (order_tests S xs ls)
  unfolding order_tests column_tests joined
  orders-tell S xs ls = go (from 0 S.features)
    where
      go : (js : List ℕ) → Every Fails (joined (column_tests S xs ls) js)
      go [] = tt
      go (j ∷ js) = every_append Fails (column_tests S xs ls j) _ (places-tell S.rows _ j _ [] 0 (listing_at S.rows ls j)) (go js)

  module _ {W : Type 0} (K : WaitingForm W) (q₁ : Q 1) (q₂ : Q 2) (q₃ : Q 3) (q₄ : Q 4) where
    pub tree-number : (C : TreeCall) (R : TreeRooms W)
        → ((leb (room_for (one_tree_of C)) (shortest_of_eight R.nodes R.behind) && work_enough K C.shape R.work) ≡ false → Q 6)
        → (r : Refusal) → checked (tree_tests K C R) ≡ Err r → Q r.number
    unfolding tree_tests
    tree-number C R q₆ =
        told-number Q (tree_tests K C R)
        (λ f. q₁, (λ f. q₂, (λ f. q₃, (λ f. q₄, every_append Fails (order_tests C.shape C.given.inputs.values C.given.inputs.listings) _ (orders-tell _ _ _) (q₆, tt)))))

    pub forest-number : (C : ForestCall) (R : ForestRooms W) → ((leb (total room_for (each_tree C)) (shortest_of_eight R.nodes R.behind) && rooms_good K C R) ≡ false → Q 6)
        → (r : Refusal) → checked (forest_tests K C R) ≡ Err r → Q r.number
    unfolding forest_tests
    forest-number C R q₆ =
        told-number Q (forest_tests K C R)
        (λ f. q₁, (λ f. q₂, (λ f. q₃, (λ f. q₄, every_append Fails (order_tests C.shape C.given.inputs.values C.given.inputs.listings) _ (orders-tell _ _ _) (q₆, tt)))))

-- a refusal's number is not 0
other : (n : ℕ) → T (not (eqb n 0)) → n ≢ 0
other n t q = subst (λ k. T (not (eqb k 0))) q t

module _ {W : Type 0} (K : WaitingForm W) where
  pub tree-some : (C : TreeCall) (R : TreeRooms W) (r : Refusal) → checked (tree_tests K C R) ≡ Err r → r.number ≢ 0
  tree-some C R = tree-number (λ n. n ≢ 0) (other 11 tt) (other 12 tt) (other 13 tt) K (other 1 tt) (other 2 tt) (other 3 tt) (other 4 tt) C R (λ f. other 6 tt)

  pub forest-some : (C : ForestCall) (R : ForestRooms W) (r : Refusal) → checked (forest_tests K C R) ≡ Err r → r.number ≢ 0
  forest-some C R = forest-number (λ n. n ≢ 0) (other 11 tt) (other 12 tt) (other 13 tt) K (other 1 tt) (other 2 tt) (other 3 tt) (other 4 tt) C R (λ f. other 6 tt)
