-- Demand 3, of a forest's trees. Two forest fits that both answer, alike except in features, targets and listings: a tree for which these differ only in rows that it leaves out,
-- each listing reading the same with those rows struck, is the same tree in what they leave, whatever the other trees are and wherever it lies: its report, and its nodes in all
-- eight columns. It holds because each tree of a forest is what the fit of that tree alone gives. Assumes nothing.
use Rattle.std.specs.Prelude.{ℕ, ◌<◌, ◌≡◌, Ok}
use Rattle.std.proofs.Common.{sym, subst}
use Rattle.rules.specs.Results.{TreeAnswer}
use Rattle.rules.specs.Lent.{Data, OneTree, WaitingForm, TreeRooms, ForestRooms, Outcome}
use Rattle.rules.specs.Fit.{fit_tree}
use Rattle.rules.specs.Forest.{ForestCall, one_tree_at, fit_forest}
use Rattle.demands.specs.Refusals.{Unrefused, ForestUnrefused}
use Rattle.demands.specs.LeftOut.{Alike, over, SameFit, demand3}
use Rattle.demands.specs.ItsTrees.{tree_call_at, IsTree, own_rooms, SameTree, frame_same, its-trees, room-for-each, not-6, tree-alone, same-tree}

-- ---- the statement

-- the same call over other features, targets and listings
abbrev pub over_all : ForestCall → Data → ForestCall
over_all C E =
    record {
      shape = C.shape;
      trees = C.trees;
      settings = C.settings;
      tried = C.tried;
      given = record { inputs = E; weights = C.given.weights; counts = C.given.counts };
      words = C.words;
      thresholds = C.thresholds;
      word_starts = C.word_starts;
      threshold_starts = C.threshold_starts;
    }

abbrev pub LeftOutTrees : Type 1
LeftOutTrees =
    (W : Type 0) (K : WaitingForm W) (C : ForestCall) (E : Data) (R R' : ForestRooms W) → (fit_forest K C R).answer ≡ Ok tt → (fit_forest K (over_all C E) R').answer ≡ Ok tt
    → (t : ℕ) → t < C.trees → Alike (one_tree_at C t) C.given.inputs E → SameTree (fit_forest K C R).rooms t (fit_forest K (over_all C E) R').rooms t

-- ---- each tree by itself

pub left-out-trees : LeftOutTrees
left-out-trees W K C E R R' g g' t h like = same-tree _ t _ t alone one other
  where
    alone : Outcome TreeAnswer (TreeRooms W)
    alone = fit_tree K (tree_call_at C t) (own_rooms R)

    one : IsTree (fit_forest K C R).rooms t alone
    one = tree-alone K C R g t h

    unrefused : Unrefused alone.answer
    unrefused = subst Unrefused (sym one.answer) tt

    -- alone over the other data it leaves the same
    same : SameFit K (tree_call_at C t) (over (tree_call_at C t) E) (own_rooms R) (own_rooms R')
    same =
        demand3 W K (tree_call_at C t) E (own_rooms R) (own_rooms R') (subst (λ (F : OneTree). Alike F C.given.inputs E) (sym (frame_same C t)) like) unrefused
        (room-for-each W K (over_all C E) R' (subst ForestUnrefused (sym g') tt) t h)

    other : IsTree (fit_forest K (over_all C E) R').rooms t alone
    other =
        subst (IsTree (fit_forest K (over_all C E) R').rooms t) (sym same.outcomes)
        (its-trees W W K K (over_all C E) R' g' t h (own_rooms R) (not-6 _ (subst (λ (o : Outcome TreeAnswer (TreeRooms W)). Unrefused o.answer) same.outcomes unrefused)))
