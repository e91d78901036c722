-- Every split of a fit that answers leaves both sides filled, and with the least leaf: in the tree that was grown, each of a split's two children has a count of at
-- least 1 and at least the least leaf, and together they have the split's. Assumes nothing.
use Rattle.std.specs.Prelude.{◌≡◌, Ok}
use Rattle.rules.specs.declared.Report.{Report}
use Rattle.rules.specs.Lent.{WaitingForm, TreeRooms, ForestRooms}
use Rattle.rules.specs.Draws.{ok}
use Rattle.rules.specs.Fit.{Tree, fit, params_of, TreeCall, one_tree_of, grown_tree, fit_tree}
use Rattle.rules.specs.Forest.{ForestCall, tried_of, one_tree_at, fit_forest}
use Rattle.lemmas.specs.Lists.{Every}
use Rattle.lemmas.specs.Outs.{then-of}
use Rattle.lemmas.specs.Splits.{Stands}
use Rattle.lemmas.specs.Root.{fit-stands}
use Rattle.lemmas.specs.Passed.{Binary64}
use Rattle.lemmas.specs.Answered.{tree-answered, tree-listed, forest-answered, trees-each}

abbrev pub TreeFilled : Type 1
TreeFilled =
    (W : Type 0) (K : WaitingForm W) (C : TreeCall) (R : TreeRooms W) (r : Report) → Binary64 C.given.inputs.values → (fit_tree K C R).answer ≡ Ok r
    → (t : Tree) → grown_tree C ≡ ok t → Stands (one_tree_of C).params t.nodes

abbrev pub ForestFilled : Type 1
ForestFilled =
    (W : Type 0) (K : WaitingForm W) (C : ForestCall) (R : ForestRooms W) (h : (fit_forest K C R).answer ≡ (Ok tt)) → Binary64 C.given.inputs.values
    → Every (λ (t : Tree). Stands (params_of C.settings (tried_of C.shape.features C.tried) C.shape.features) t.nodes) (forest-answered K C R h).trees

pub tree-filled : TreeFilled
unfolding grown_tree
tree-filled W K C R r held h t e =
    then-of (λ (u : Tree). Stands (one_tree_of C).params u.nodes) (fit (one_tree_of C) C.given.inputs) t e
    (fit-stands (one_tree_of C) C.given.inputs (tree-listed K C R held (tree-answered K C R r h).passed).0)

pub forest-filled : ForestFilled
unfolding one_tree_at
forest-filled W K C R h held =
    trees-each K C R (forest-answered K C R h) (λ (t : Tree). Stands (params_of C.settings (tried_of C.shape.features C.tried) C.shape.features) t.nodes) held
    (λ t l. fit-stands (one_tree_at C t) C.given.inputs l)
