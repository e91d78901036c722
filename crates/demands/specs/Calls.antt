-- The demands of the calls themselves. A call's contract says that its outcome, the answer and every lent slice after it, equals the definition's, and asks nothing
-- of its caller. So what holds of the definitions holds of any outcomes that meet these equations, and the outcomes of proved code do. Assumes nothing.
use Rattle.std.specs.Prelude.{ℕ, ◌<◌, ◌≡◌, List, length, Float, Ok, Err}
use Rattle.std.proofs.Math.Path.{sym, ap}
use Rattle.std.proofs.Common.{◌∙◌, subst}
use Rattle.rules.specs.declared.Report.{Report}
use Rattle.rules.specs.declared.Place.{Place}
use Rattle.rules.specs.Results.{TreeAnswer, ForestAnswer, Reply}
use Rattle.rules.specs.Lent.{Data, WaitingForm, WaitingRoom, waiting_room, TreeRooms, ForestRooms, Outcome, entries_at}
use Rattle.rules.specs.Fit.{entries, TreeCall, one_tree_of, grown_tree, fit_tree}
use Rattle.rules.specs.Forest.{ForestCall, one_tree_at, fit_forest}
use Rattle.rules.specs.OutOfBag.{out_of_bag_means}
use Rattle.lemmas.specs.Nodes.{behind_each}
use Rattle.lemmas.specs.Passed.{Binary64}
use Rattle.lemmas.specs.Beside.{behind_at}
use Rattle.lemmas.specs.Answered.{TreeAnswered, tree-answered}
use Rattle.demands.specs.LeftOut.{Alike, over, SameFit, demand3}
use Rattle.demands.specs.LeftOutTrees.{over_all, left-out-trees}
use Rattle.demands.specs.OutOfBag.{retarget, ButOne, SameMean, ok_same, own-target}
use Rattle.demands.specs.Refusals.{Unrefused, TreeZero, tree-bad}
use Rattle.demands.specs.ItsTrees.{SameTree}
use Rattle.demands.specs.Walks.{table_after, tree-left, beside-left}
use Rattle.rules.specs.declared.FitError.{FitError}

module _ {W : Type 0} (K : WaitingForm W) where
  -- ---- demand 3: two calls that fit one tree, alike but for rows that the tree leaves out

  module _ (C : TreeCall) (E : Data) (R R' : TreeRooms W) (x y : Outcome TreeAnswer (TreeRooms W)) (met : x ≡ fit_tree K C R) (met' : y ≡ fit_tree K (over C E) R')
      (like : Alike (one_tree_of C) C.given.inputs E) (ok : Unrefused x.answer) (ok' : Unrefused y.answer) where
    same : SameFit K C (over C E) R R'
    same =
        demand3 W K C E R R' like (subst (λ (o : Outcome TreeAnswer (TreeRooms W)). Unrefused o.answer) met ok)
        (subst (λ (o : Outcome TreeAnswer (TreeRooms W)). Unrefused o.answer) met' ok')

    -- they answer the same: report or bad draw
    pub calls-answer : x.answer ≡ y.answer
    calls-answer = (λ i. (met i).answer) ∙ same.answers ∙ (λ i. (sym met' i).answer)

    -- where they answer with a tree, the nodes that they wrote are the same, and so are the counts and masses beside them
    pub calls-write : (r : Report) → x.answer ≡ Ok r
        → (entries_at x.rooms.nodes 0 r.nodes ≡ entries_at y.rooms.nodes 0 r.nodes) × (behind_at x.rooms.behind 0 r.nodes ≡ behind_at y.rooms.behind 0 r.nodes)
    unfolding grown_tree
    calls-write r h = (
      (λ i. entries_at (met i).rooms.nodes 0 r.nodes)
          ∙ tree-left K C R r a ∙ ap entries nodes ∙ sym (tree-left K (over C E) R' r b)
          ∙ (λ i. entries_at (sym met' i).rooms.nodes 0 r.nodes),
      (λ i. behind_at (met i).rooms.behind 0 r.nodes)
          ∙ beside-left K C R r a ∙ ap behind_each nodes ∙ sym (beside-left K (over C E) R' r b)
          ∙ (λ i. behind_at (sym met' i).rooms.behind 0 r.nodes),
    )
      where
        a : TreeAnswered K C R r
        a = tree-answered K C R r ((λ i. (sym met i).answer) ∙ h)

        b : TreeAnswered K (over C E) R' r
        b = tree-answered K (over C E) R' r (sym same.answers ∙ (λ i. (sym met i).answer) ∙ h)

        nodes : a.tree.nodes ≡ b.tree.nodes
        nodes = λ i. (ok_same a.tree b.tree (sym a.grew ∙ same.grown ∙ b.grew) i).nodes

  -- in rooms that held the same they leave the same, every node among it
  pub calls-leave : (C : TreeCall) (E : Data) (R : TreeRooms W) (x y : Outcome TreeAnswer (TreeRooms W)) → x ≡ fit_tree K C R → y ≡ fit_tree K (over C E) R
      → Alike (one_tree_of C) C.given.inputs E → Unrefused x.answer → Unrefused y.answer → x ≡ y
  calls-leave C E R x y met met' like h h' = met ∙ (same C E R R x y met met' like h h').outcomes ∙ sym met'

  -- two calls that fit a forest and both answer: each tree that leaves out the rows in which they differ is the same
  pub calls-trees : (C : ForestCall) (E : Data) (R R' : ForestRooms W) (x y : Outcome ForestAnswer (ForestRooms W)) → x ≡ fit_forest K C R → y ≡ fit_forest K (over_all C E) R'
      → x.answer ≡ Ok tt → y.answer ≡ Ok tt → (t : ℕ) → t < C.trees → Alike (one_tree_at C t) C.given.inputs E → SameTree x.rooms t y.rooms t
  calls-trees C E R R' x y met met' h h' t l like =
      subst (λ (o : Outcome ForestAnswer (ForestRooms W)). SameTree o.rooms t y.rooms t) (sym met)
      (subst (λ (o : Outcome ForestAnswer (ForestRooms W)). SameTree (fit_forest K C R).rooms t o.rooms t) (sym met')
      (left-out-trees W K C E R R' ((λ i. (sym met i).answer) ∙ h) ((λ i. (sym met' i).answer) ∙ h') t l like))

  -- ---- its corollary: two calls that fit a forest, alike but for row i's target, and the out-of-bag means read from what they left

  -- read with the call's own counts and features
  abbrev Read : ForestCall → ForestRooms W → List Float → Outcome Reply (List Float) → Type 0
  Read C R out m = m ≡ out_of_bag_means C.shape C.given.inputs.values C.given.counts (table_after C R) out

  pub calls-mean : (C : ForestCall) (ys : List Float) (i : ℕ) → i < C.shape.rows → ButOne i C.given.inputs.targets ys → Binary64 C.given.inputs.values → (R R' : ForestRooms W)
      → (x y : Outcome ForestAnswer (ForestRooms W)) → x ≡ fit_forest K C R → y ≡ fit_forest K (retarget C ys) R' → x.answer ≡ Ok tt → y.answer ≡ Ok tt
      → (out out' : List Float) → length out ≡ C.shape.rows → length out' ≡ C.shape.rows
      → (m m' : Outcome Reply (List Float)) → Read C x.rooms out m → Read (retarget C ys) y.rooms out' m' → SameMean i m m'
  calls-mean C ys i b but held R R' x y met met' h h' out out' o o' m m' r r' =
      subst (λ m. SameMean i m m') (sym (r ∙ (λ k. out_of_bag_means C.shape C.given.inputs.values C.given.counts (table_after C (met k).rooms) out)))
      (subst (SameMean i _) (sym (r' ∙ (λ k. out_of_bag_means C.shape C.given.inputs.values C.given.counts (table_after (retarget C ys) (met' k).rooms) out')))
      (own-target W K C ys i b but held R R' ((λ k. (sym met k).answer) ∙ h) ((λ k. (sym met' k).answer) ∙ h') out out' o o'))

-- ---- a bad draw, in whatever rooms: both calls leave 0 at every place

zero_left : (C : TreeCall) (R : TreeRooms WaitingRoom) (x : Outcome TreeAnswer (TreeRooms WaitingRoom)) → x ≡ fit_tree waiting_room C R → (d : Place) → x.answer
    ≡ Err (FitError.BadDraw d) → TreeZero R x.rooms
zero_left C R x met d h = subst (λ (o : Outcome TreeAnswer (TreeRooms WaitingRoom)). TreeZero R o.rooms) (sym met) (tree-bad C R d ((λ i. (sym met i).answer) ∙ h))

pub calls-clear : (C : TreeCall) (E : Data) (R R' : TreeRooms WaitingRoom) (x y : Outcome TreeAnswer (TreeRooms WaitingRoom)) → x ≡ fit_tree waiting_room C R → y ≡ fit_tree waiting_room (over C E) R'
    → Alike (one_tree_of C) C.given.inputs E → Unrefused x.answer → Unrefused y.answer → (d : Place) → x.answer ≡ Err (FitError.BadDraw d)
    → TreeZero R x.rooms × TreeZero R' y.rooms
calls-clear C E R R' x y met met' like u u' d h =
    (zero_left C R x met d h, zero_left (over C E) R' y met' d (sym (calls-answer waiting_room C E R R' x y met met' like u u') ∙ h))
