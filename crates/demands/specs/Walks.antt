-- The walk of a good table ends: at a leaf, inside the tree, within as many steps as it has nodes. And what a fit that answers leaves is a good table,
-- of the trees that it grew, so that every reader can go on from it. Assumes nothing.
use Rattle.std.specs.Prelude.{ℕ, ◌<◌, ◌≡◌, true, List, length, get_or, T, Float, Ok}
use Rattle.std.proofs.Common.{sym, ap, ◌∙◌, subst}
use Rattle.rules.specs.declared.Report.{Report}
use Rattle.rules.specs.Lent.{Entry, WaitingForm, TreeRooms, ForestRooms, entries_at}
use Rattle.rules.specs.Draws.{ok}
use Rattle.rules.specs.Fit.{Tree, fit, entries, params_of, TreeCall, one_tree_of, fit_tree}
use Rattle.rules.specs.Table.{is_leaf, good_tree, ForestTable, table_of, good_forest}
use Rattle.rules.specs.Reading.{no_entry, walked}
use Rattle.rules.specs.Forest.{ForestCall, one_tree_at, fit_forest}
use Rattle.lemmas.specs.Outs.{then-of}
use Rattle.lemmas.specs.Nodes.{behind_each}
use Rattle.lemmas.specs.Root.{fit-reported}
use Rattle.lemmas.specs.Passed.{six-of-eight, Binary64}
use Rattle.lemmas.specs.Tables.{fit-good}
use Rattle.lemmas.specs.Tables as Tables
use Rattle.lemmas.specs.Written.{tree-written, written-good}
use Rattle.lemmas.specs.Beside.{behind_at, behind-written}
use Rattle.lemmas.specs.Answered.{TreeAnswered, tree-answered, tree-listed, ForestAnswered, forest-answered, trees-length, trees-each, forest-room}

-- ---- the statements

abbrev pub WalkEnds : Type 0
WalkEnds =
    (features : ℕ) (rs : List Entry) → T (good_tree features rs) → (xs : List Float)
    → (walked (length rs) rs xs 0 < length rs) × (is_leaf (get_or rs (walked (length rs) rs xs 0) no_entry) ≡ true)

-- a tree's table is its first entries, as many as it reports nodes
abbrev pub TreeGood : Type 1
TreeGood =
    (W : Type 0) (K : WaitingForm W) (C : TreeCall) (R : TreeRooms W) (r : Report) → Binary64 C.given.inputs.values → (fit_tree K C R).answer ≡ Ok r
    → T (good_tree C.shape.features (entries_at (fit_tree K C R).rooms.nodes 0 r.nodes))

-- a forest's is its nodes and starts
abbrev pub table_after : {W : Type 0} → ForestCall → ForestRooms W → ForestTable
table_after C R = table_of C.trees R.starts R.nodes

abbrev pub ForestGood : Type 1
ForestGood =
    (W : Type 0) (K : WaitingForm W) (C : ForestCall) (R : ForestRooms W) → Binary64 C.given.inputs.values → (fit_forest K C R).answer ≡ Ok tt
    → T (good_forest C.shape.features (table_after C (fit_forest K C R).rooms))

-- ---- walks

pub walk_ends : WalkEnds
walk_ends features rs good xs = let e = Tables.walk_ends features rs good xs in (e.inside, e.leaf)

-- ---- one tree

-- the node count reported is the number of nodes
pub reported-nodes : (C : TreeCall) (t : Tree) → fit (one_tree_of C) C.given.inputs ≡ ok t → t.report.nodes ≡ length t.nodes
reported-nodes C t e = then-of (λ (u : Tree). u.report.nodes ≡ length u.nodes) (fit (one_tree_of C) C.given.inputs) t e (fit-reported (one_tree_of C) C.given.inputs)

-- the entries that are left are those of the nodes that grew
pub tree-left : {W : Type 0} (K : WaitingForm W) (C : TreeCall) (R : TreeRooms W) (r : Report) (a : TreeAnswered K C R r)
    → entries_at (fit_tree K C R).rooms.nodes 0 r.nodes ≡ entries a.tree.nodes
tree-left K C R r a =
    (λ i. entries_at (a.after i).nodes 0 (sym a.reported i).nodes) ∙ tree-written a.tree R.nodes (reported-nodes C a.tree a.grew)

-- and so are the counts and masses beside them
pub beside-left : {W : Type 0} (K : WaitingForm W) (C : TreeCall) (R : TreeRooms W) (r : Report) (a : TreeAnswered K C R r)
    → behind_at (fit_tree K C R).rooms.behind 0 r.nodes ≡ behind_each a.tree.nodes
beside-left K C R r a =
    (λ i. behind_at (a.after i).behind 0 r.nodes)
    ∙ behind-written a.tree.nodes R.behind r.nodes (ap (λ (x : Report). x.nodes) (sym a.reported) ∙ reported-nodes C a.tree a.grew)

pub tree-good : TreeGood
unfolding one_tree_of params_of
tree-good W K C R r held h =
    subst (λ rs. T (good_tree C.shape.features rs)) (sym (tree-left K C R r a))
    (then-of (λ t. T (good_tree C.shape.features (entries t.nodes))) (fit (one_tree_of C) C.given.inputs) a.tree a.grew
    (fit-good (one_tree_of C) C.given.inputs (tree-listed K C R held a.passed).0))
  where
    a : TreeAnswered K C R r
    a = tree-answered K C R r h

-- ---- a forest

pub forest-good : ForestGood
unfolding one_tree_at params_of
forest-good W K C R held h =
    subst (λ (r : ForestRooms W). T (good_forest C.shape.features (table_after C r))) (sym a.after)
    (written-good C.shape.features C.trees R.nodes R.starts a.trees (trees-length K C R a)
    (trees-each K C R a (λ (t : Tree). T (good_tree C.shape.features (entries t.nodes))) held (λ t l. fit-good (one_tree_at C t) C.given.inputs l))
    (six-of-eight _ R.nodes R.behind (forest-room K C R a held)))
  where
    a : ForestAnswered K C R
    a = forest-answered K C R h
