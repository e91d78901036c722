-- Trees as fits leave them. What holds of every tree that grows from listings in order holds of every tree that a fit leaves: of the one tree of a fit that answers, and of each tree of a
-- forest, by its entries, the counts beside them and its report. So what is said of them is said once for both fits, both splitters and both heights. Assumes nothing.
use Rattle.std.specs.Prelude.{ℕ, ◌<◌, ◌≡◌, Ok}
use Rattle.std.proofs.Math.Path.{sym, subst}
use Rattle.std.proofs.Common.{ap}
use mathlib.Core.List.{List, map}
use Rattle.rules.specs.declared.Report.{Report}
use Rattle.rules.specs.Lent.{Data, OneTree, Behind, Entry, WaitingForm, TreeRooms, ForestRooms, entries_at}
use Rattle.rules.specs.Draws.{ok, Tapes}
use Rattle.rules.specs.Growth.{TreeNode, State}
use Rattle.rules.specs.Fit.{root, Tree, tree_of, fit, entries, params_of, TreeCall, one_tree_of, fit_tree}
use Rattle.rules.specs.Table.{tree_at}
use Rattle.rules.specs.Forest.{ForestCall, one_tree_at, fit_forest}
use Rattle.lemmas.specs.Outs.{then-of}
use Rattle.lemmas.specs.Root.{Listed}
use Rattle.lemmas.specs.Passed.{ForestPassed, forest-framed, Binary64, listed-right}
use Rattle.lemmas.specs.Beside.{behind_at, behind_tree}
use Rattle.lemmas.specs.Answered.{TreeAnswered, tree-answered, tree-listed, ForestAnswered, forest-answered, forest-right, GrewAt, tree-at}
use Rattle.lemmas.specs.FitHistory.{Grown, fit-grown}
use Rattle.demands.specs.Walks.{tree-left, beside-left}
use Rattle.demands.specs.ItsTrees.{report_at, report-left, nodes-left, behind-left}

-- ---- the statements

-- a tree as it is left
pub record Left : Type 0 where
  pub entries : List Entry
  pub counts : List ℕ
  pub report : Report

-- one tree that reports r: the first entries, as many as it reports nodes
abbrev pub tree_left : {W : Type 0} → TreeRooms W → Report → Left
tree_left R r = record { entries = entries_at R.nodes 0 r.nodes; counts = (behind_at R.behind 0 r.nodes).count; report = r }

-- tree t of a forest: those between two starts
abbrev pub forest_left : {W : Type 0} → ForestRooms W → ℕ → Left
forest_left R t = record { entries = tree_at R.nodes R.starts t; counts = (behind_tree R.behind R.starts t).count; report = report_at R.reports t }

-- X of every tree that a fit which answers leaves, by what the tree grew from
abbrev pub OfEveryTree : (OneTree → Data → Left → Type 0) → Type 1
OfEveryTree X =
    ((W : Type 0) (K : WaitingForm W) (C : TreeCall) (R : TreeRooms W) (r : Report) → Binary64 C.given.inputs.values → (fit_tree K C R).answer ≡ Ok r
    → X (one_tree_of C) C.given.inputs (tree_left (fit_tree K C R).rooms r))
    × ((W : Type 0) (K : WaitingForm W) (C : ForestCall) (R : ForestRooms W) → Binary64 C.given.inputs.values → (fit_forest K C R).answer ≡ Ok tt → (t : ℕ) → t < C.trees
    → X (one_tree_at C t) C.given.inputs (forest_left (fit_forest K C R).rooms t))

-- ---- said once

-- what is written of a growth that has ended
abbrev pub left_of : OneTree → Data → State Tapes → Left
left_of F D s = record { entries = entries s.nodes; counts = map (λ (n : TreeNode). n.count) s.nodes; report = (tree_of F (root F D) s).report }

module _ (X : OneTree → Data → Left → Type 0) (each : (F : OneTree) (D : Data) → Listed F D → 0 < F.params.features → (s : State Tapes) → Grown F D s → X F D (left_of F D s)) where
  grown-left : (F : OneTree) (D : Data) → Listed F D → 0 < F.params.features → (t : Tree) → fit F D ≡ ok t
      → X F D (record { entries = entries t.nodes; counts = map (λ (n : TreeNode). n.count) t.nodes; report = t.report })
  unfolding tree_of
  grown-left F D l some t e =
      let (s, is, g) = then-of (λ u. (s : State Tapes) × (tree_of F (root F D) s ≡ u) × Grown F D s) (fit F D) t e (fit-grown F D) in
      subst (λ (u : Tree). X F D (record { entries = entries u.nodes; counts = map (λ (n : TreeNode). n.count) u.nodes; report = u.report })) is (each F D l some s g)

  pub of-every-tree : OfEveryTree X
  unfolding one_tree_at params_of
  of-every-tree = (
    (λ W K C R r held h.
        let a : TreeAnswered K C R r = tree-answered K C R r h in
        let l = tree-listed K C R held a.passed in
        subst (X (one_tree_of C) C.given.inputs)
        (λ i. record { entries = sym (tree-left K C R r a) i; counts = sym (ap (λ (b : Behind). b.count) (beside-left K C R r a)) i; report = a.reported i })
        (grown-left (one_tree_of C) C.given.inputs l.0 l.1 a.tree a.grew)),
    (λ W K C R held h t l.
        let a : ForestAnswered K C R = forest-answered K C R h in
        let p : ForestPassed K C R = forest-right K C R a in
        let u : GrewAt (fit (one_tree_at C t) C.given.inputs) a.trees t = tree-at K C R a t l in
        subst (X (one_tree_at C t) C.given.inputs)
        (λ i. record { entries = sym (nodes-left K C R a t l) i; counts = sym (ap (λ (b : Behind). b.count) (behind-left K C R a t l)) i; report = sym (report-left K C R a t l) i })
        (grown-left (one_tree_at C t) C.given.inputs (listed-right C.shape C.trees C.given p.passed (one_tree_at C t) (forest-framed C p.passed t) held) p.passed.some_features
        u.tree u.grew)),
  )
