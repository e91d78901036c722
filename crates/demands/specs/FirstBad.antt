-- A forest's first bad draw. A forest that is not refused before growth meets a bad draw exactly where the first of its trees that meets one does, and at the search at
-- which that tree's own fit meets it; each tree's own fit in rooms of its own that are not too small, or in those lent to the forest. It holds because trees are grown
-- in their order, each as it would be alone, and the first bad draw ends all. Assumes nothing.
use Prim.Native.Nat.{ℕ, zero, suc, ◌+◌, ◌<◌, ◌≤◌}
use Rattle.std.proofs.Math.Decide.{ℕ_discrete}
use native.Mathlib.Omega.{arith}
use Rattle.std.proofs.Math.Path.{◌≡◌, refl, sym, ap}
use Rattle.std.proofs.Common.{◌∙◌, Ok, Err}
use Rattle.std.specs.Prelude.{◌≢◌, ◌↔◌, map}
use Rattle.rules.specs.Results.{TreeAnswer}
use Rattle.rules.specs.declared.Report.{Report}
use Rattle.rules.specs.declared.Place.{Place}
use Rattle.rules.specs.Words.{from}
use Rattle.rules.specs.Lent.{Data, OneTree, WaitingForm, TreeRooms, ForestRooms, Outcome}
use Rattle.rules.specs.Checks.{numbered, checked}
use Rattle.rules.specs.Draws.{Out, bad, ok}
use Rattle.rules.specs.Fit.{Tree, fit, tree_done, fit_tree}
use Rattle.rules.specs.Forest.{ForestCall, one_tree_at, each_tree, Forest, stopped, grown_all, with_tree, next_tree, grow_trees, grown_forest, forest_tests, forest_done, forest_ends, fit_forest}
use Rattle.demands.specs.ItsTrees.{tree_call_at, own_rooms, own-fit, room-for-each, not-6}
use Rattle.demands.specs.Refusals.{ForestUnrefused, forest-passes}
use Rattle.rules.specs.declared.FitError.{FitError}

-- ---- the statement

-- tree t, fitted alone, meets a bad draw at search s, and none before it meets one
pub record MeetsFirst {X : Type 0} (L : WaitingForm X) (C : ForestCall) (Q : ℕ → TreeRooms X) (t s : ℕ) : Type 0 where
  pub inside : t < C.trees
  pub met : (fit_tree L (tree_call_at C t) (Q t)).answer ≡ Err (FitError.BadDraw (record { tree = 0; search = s }))
  pub before : (u : ℕ) → u < t → (r : Report) × ((fit_tree L (tree_call_at C u) (Q u)).answer ≡ Ok r)

-- each tree in rooms of its own, not too small
abbrev pub FirstBad : Type 1
FirstBad =
    (W X : Type 0) (K : WaitingForm W) (L : WaitingForm X) (C : ForestCall) (R : ForestRooms W) → ForestUnrefused (fit_forest K C R).answer
    → (Q : ℕ → TreeRooms X) → ((t : ℕ) → t < C.trees → (fit_tree L (tree_call_at C t) (Q t)).answer ≢ Err (FitError.Refused (numbered 6)))
    → (t s : ℕ) → ((fit_forest K C R).answer ≡ Err (FitError.BadDraw (record { tree = t; search = s }))) ↔ MeetsFirst L C Q t s

-- as the forest's own are
abbrev pub FirstBadAlone : Type 1
FirstBadAlone =
    (W : Type 0) (K : WaitingForm W) (C : ForestCall) (R : ForestRooms W) → ForestUnrefused (fit_forest K C R).answer
    → (t s : ℕ) → ((fit_forest K C R).answer ≡ Err (FitError.BadDraw (record { tree = t; search = s }))) ↔ MeetsFirst K C (λ u. own_rooms R) t s

-- ---- n trees, grown one after another

ok≢bad : (x : Tree) (s : ℕ) → ok x ≡ bad s → ⊥
ok≢bad x s e = let z : ◌≡◌ {A = ℕ} 0 1 = cc in absurd (omega arith)

module _ (F : ℕ → OneTree) (D : Data) where
  -- of n trees from tree k on
  record Stops (k n t s : ℕ) : Type 0 where
    above : k ≤ t
    below : t < k + n
    met : fit (F t) D ≡ bad s
    before : (u : ℕ) → k ≤ u → u < t → (x : Tree) × (fit (F u) D ≡ ok x)

  stops : (k n t s : ℕ) → grow_trees k (map F (from k n)) D ≡ stopped (record { tree = t; search = s }) → Stops k n t s
  unfolding grow_trees next_tree with_tree from
  stops k zero t s e = let z : ◌≡◌ {A = ℕ} 0 1 = cc in absurd (omega arith)
  stops k (suc n) t s e = go (fit (F k) D) refl (grow_trees (suc k) (map F (from (suc k) n)) D) (stops (suc k) n t s) e
    where
      go : (o : Out Tree) → fit (F k) D ≡ o → (f : Forest) → (f ≡ stopped (record { tree = t; search = s }) → Stops (suc k) n t s)
          → next_tree k o f ≡ stopped (record { tree = t; search = s }) → Stops k (suc n) t s
      go (bad b) q f ih e =
          let p : ◌≡◌ {A = Place} (record { tree = k; search = b }) (record { tree = t; search = s }) = cc in
          let here : k ≡ t = ap (λ (d : Place). d.tree) p in
          record {
            above = omega (arith, here);
            below = omega (arith, here);
            met = ap (λ j. fit (F j) D) (sym here) ∙ q ∙ ap (λ (d : Place). bad d.search) p;
            before = λ u x y. absurd (omega (arith, here, x, y));
          }
      go (ok x) q (stopped d) ih e =
          let later : Stops (suc k) n t s = ih e in
          record { above = omega (arith, later.above); below = omega (arith, later.below); met = later.met; before = λ u y z. first u y (ℕ_discrete u k) (λ y. later.before u y z) }
        where
          first : (u : ℕ) → k ≤ u → Dec (u ≡ k) → (suc k ≤ u → (x : Tree) × (fit (F u) D ≡ ok x)) → (x : Tree) × (fit (F u) D ≡ ok x)
          first u y (yes z) f = (x, ap (λ j. fit (F j) D) z ∙ q)
          first u y (no z) f = f (omega (arith, y, z))
      go (ok x) q (grown_all ts) ih e = let z : ◌≡◌ {A = ℕ} 0 1 = cc in absurd (omega arith)

  stops_so : (k n t s : ℕ) → Stops k n t s → grow_trees k (map F (from k n)) D ≡ stopped (record { tree = t; search = s })
  unfolding grow_trees next_tree with_tree from
  stops_so k zero t s e = absurd (none k t e.above e.below)
    where
      none : (k t : ℕ) → k ≤ t → t < k + 0 → ⊥
      none k t a b = omega arith
  stops_so k (suc n) t s e = go (fit (F k) D) refl (ℕ_discrete k t) (stops_so (suc k) n t s)
    where
      go : (o : Out Tree) → fit (F k) D ≡ o → Dec (k ≡ t) → (Stops (suc k) n t s → grow_trees (suc k) (map F (from (suc k) n)) D ≡ stopped (record { tree = t; search = s }))
          → next_tree k o (grow_trees (suc k) (map F (from (suc k) n)) D) ≡ stopped (record { tree = t; search = s })
      go (bad b) q (yes z) ih = let met : bad b ≡ bad s = sym q ∙ ap (λ j. fit (F j) D) z ∙ e.met in let y : b ≡ s = cc in λ i. stopped (record { tree = z i; search = y i })
      go (bad b) q (no z) ih = let (x, g) = e.before k (omega arith) (omega (arith, e.above, z)) in absurd (ok≢bad x b (sym g ∙ q))
      go (ok x) q (yes z) ih = absurd (ok≢bad x s (sym q ∙ ap (λ j. fit (F j) D) z ∙ e.met))
      go (ok x) q (no z) ih =
          ap (with_tree x) (ih (record { above = omega (arith, e.above, z); below = omega (arith, e.below); met = e.met; before = λ u y w. e.before u (omega (arith, y)) w }))

-- an answer tells what the growth came to
bad-forest : {W : Type 0} (K : WaitingForm W) (R : ForestRooms W) (d : Place) (f : Forest) → (forest_done K f R).answer ≡ Err (FitError.BadDraw d) → f ≡ stopped d
unfolding forest_done
bad-forest K R d (stopped e) h = cc
bad-forest K R d (grown_all ts) h = let z : ◌≡◌ {A = ℕ} 0 1 = cc in absurd (omega arith)

bad-tree : {X : Type 0} (L : WaitingForm X) (Q : TreeRooms X) (s : ℕ) (o : Out Tree) → (tree_done L o Q).answer ≡ Err (FitError.BadDraw (record { tree = 0; search = s })) → o ≡ bad s
unfolding tree_done
bad-tree L Q s (bad b) h = let p : ◌≡◌ {A = Place} (record { tree = 0; search = b }) (record { tree = 0; search = s }) = cc in ap (λ (d : Place). bad d.search) p
bad-tree L Q s (ok x) h = let z : ◌≡◌ {A = ℕ} 0 1 = cc in absurd (omega arith)

grown-tree : {X : Type 0} (L : WaitingForm X) (Q : TreeRooms X) (r : Report) (o : Out Tree) → (tree_done L o Q).answer ≡ Ok r → (x : Tree) × (o ≡ ok x)
unfolding tree_done
grown-tree L Q r (bad b) h = let z : ◌≡◌ {A = ℕ} 0 1 = cc in absurd (omega arith)
grown-tree L Q r (ok x) h = (x, refl)

pub first-bad : FirstBad
unfolding fit_forest forest_ends forest_done grown_forest each_tree tree_done
first-bad W X K L C R g Q n t s = (there, back)
  where
    q : checked (forest_tests K C R) ≡ Ok tt
    q = forest-passes K C R g

    own : (u : ℕ) → u < C.trees → (fit_tree L (tree_call_at C u) (Q u)).answer ≡ (tree_done L (fit (one_tree_at C u) C.given.inputs) (Q u)).answer
    own u h = ap (λ (o : Outcome TreeAnswer (TreeRooms X)). o.answer) (own-fit K L C R q u h (Q u) (n u h))

    there : (fit_forest K C R).answer ≡ Err (FitError.BadDraw (record { tree = t; search = s })) → MeetsFirst L C Q t s
    there e =
        let st : Stops (one_tree_at C) C.given.inputs 0 C.trees t s = stops (one_tree_at C) C.given.inputs 0 C.trees t s
        (bad-forest K R _ (grown_forest C) ((λ i. (forest_ends K (sym q i) (grown_forest C) R).answer) ∙ e)) in
        let h : t < C.trees = omega (arith, st.below) in
        record {
          inside = h;
          met = own t h ∙ ap (λ o. (tree_done L o (Q t)).answer) st.met;
          before = λ u l. let (x, f) = st.before u (omega arith) l in (x.report, own u (omega (arith, l, h)) ∙ ap (λ o. (tree_done L o (Q u)).answer) f);
        }

    back : MeetsFirst L C Q t s → (fit_forest K C R).answer ≡ Err (FitError.BadDraw (record { tree = t; search = s }))
    back m =
        λ i. (forest_ends K (q i) (stops_so (one_tree_at C) C.given.inputs 0 C.trees t s (record {
          above = omega arith;
          below = omega (arith, m.inside);
          met = bad-tree L (Q t) s _ (sym (own t m.inside) ∙ m.met);
          before = λ u y l. let (r, f) = m.before u l in grown-tree L (Q u) r _ (sym (own u (omega (arith, l, m.inside))) ∙ f);
        }) i) R).answer

pub first-bad-alone : FirstBadAlone
first-bad-alone W K C R g = first-bad W W K K C R g (λ u. own_rooms R) (λ t h. not-6 _ (room-for-each W K C R g t h))
