-- A fit that is lent a list of waiting nodes is the fit that is lent the list's columns: from the same call it gives the same answer, and leaves the
-- same rooms. So growth over the list needs no definition of its own.
-- Assumes nothing.
use Rattle.std.specs.Prelude.{ℕ, ◌≡◌, refl, List, Ok, Err}
use Rattle.std.proofs.Common.{sym, ap, ◌∙◌}
use Rattle.rules.specs.Results.{Checked, TreeAnswer, ForestAnswer}
use Rattle.rules.specs.Lent.{WaitingForm, WaitingRoom, waiting_room, Work, TreeRooms, ForestRooms, Outcome}
use Rattle.rules.specs.Checks.{checked, work_enough}
use Rattle.rules.specs.Draws.{Out, bad, ok}
use Rattle.rules.specs.Fit.{Tree, TreeCall, grown_tree, tree_tests, tree_done, tree_ends, fit_tree}
use Rattle.rules.specs.Forest.{Forest, stopped, grown_all, ForestCall, grown_forest, rooms_good, forest_tests, forest_done, forest_ends, fit_forest}
use Rattle.lent_forms.specs.declared.Waiting.{Waiting}
use Rattle.lent_forms.specs.WaitingList.{listed}
use Rattle.lent_forms.specs.Flat.{flat, places-agree, zeroed-agrees}

-- ---- rooms with a list, as rooms with its columns

-- the work room
abbrev pub flat_work : Work (List Waiting) → Work WaitingRoom
flat_work w = record { order = w.order; scratch = w.scratch; flags = w.flags; waiting = flat w.waiting }

-- one tree's rooms
abbrev pub flat_tree : TreeRooms (List Waiting) → TreeRooms WaitingRoom
flat_tree R = record { nodes = R.nodes; behind = R.behind; work = flat_work R.work }

-- a forest's rooms
abbrev pub flat_forest : ForestRooms (List Waiting) → ForestRooms WaitingRoom
flat_forest R = record { nodes = R.nodes; behind = R.behind; starts = R.starts; reports = R.reports; work = flat_work R.work }

-- a form with so many places, that is v when all are zero
abbrev form : {W : Type 0} → ℕ → W → WaitingForm W
form k v = record { places = λ _. k; zeroed = λ _. v }

-- ---- one tree

-- what a fit of one tree leaves
abbrev pub flat_tree_left : Outcome TreeAnswer (TreeRooms (List Waiting)) → Outcome TreeAnswer (TreeRooms WaitingRoom)
flat_tree_left o = record { answer = o.answer; rooms = flat_tree o.rooms }

tree-tests : (C : TreeCall) (R : TreeRooms (List Waiting)) → tree_tests listed C R ≡ tree_tests waiting_room C (flat_tree R)
unfolding tree_tests work_enough
tree-tests C R = ap (λ k. tree_tests (form k R.work.waiting) C R) (sym (places-agree R.work.waiting))

tree-ends : (c : Checked) (o : Out Tree) (R : TreeRooms (List Waiting)) → flat_tree_left (tree_ends listed c o R) ≡ tree_ends waiting_room c o (flat_tree R)
unfolding tree_ends tree_done
tree-ends (Ok _) (bad s) R = ap (λ v. tree_ends (form 0 v) (Ok tt) (bad s) (flat_tree R)) (sym (zeroed-agrees R.work.waiting))
tree-ends (Ok _) (ok t) R = ap (λ v. tree_ends (form 0 v) (Ok tt) (ok t) (flat_tree R)) (sym (zeroed-agrees R.work.waiting))
tree-ends (Err r) o R = refl

pub fit-tree-agrees : (C : TreeCall) (R : TreeRooms (List Waiting)) → flat_tree_left (fit_tree listed C R) ≡ fit_tree waiting_room C (flat_tree R)
unfolding fit_tree
fit-tree-agrees C R =
    tree-ends (checked (tree_tests listed C R)) (grown_tree C) R
    ∙ ap (λ ts. tree_ends waiting_room (checked ts) (grown_tree C) (flat_tree R)) (tree-tests C R)

-- ---- a forest

-- what a fit of a forest leaves
abbrev pub flat_forest_left : Outcome ForestAnswer (ForestRooms (List Waiting)) → Outcome ForestAnswer (ForestRooms WaitingRoom)
flat_forest_left o = record { answer = o.answer; rooms = flat_forest o.rooms }

forest-tests : (C : ForestCall) (R : ForestRooms (List Waiting)) → forest_tests listed C R ≡ forest_tests waiting_room C (flat_forest R)
unfolding forest_tests rooms_good work_enough
forest-tests C R = ap (λ k. forest_tests (form k R.work.waiting) C R) (sym (places-agree R.work.waiting))

forest-ends : (c : Checked) (f : Forest) (R : ForestRooms (List Waiting)) → flat_forest_left (forest_ends listed c f R) ≡ forest_ends waiting_room c f (flat_forest R)
unfolding forest_ends forest_done
forest-ends (Ok _) (stopped d) R = ap (λ v. forest_ends (form 0 v) (Ok tt) (stopped d) (flat_forest R)) (sym (zeroed-agrees R.work.waiting))
forest-ends (Ok _) (grown_all ts) R = ap (λ v. forest_ends (form 0 v) (Ok tt) (grown_all ts) (flat_forest R)) (sym (zeroed-agrees R.work.waiting))
forest-ends (Err r) f R = refl

pub fit-forest-agrees : (C : ForestCall) (R : ForestRooms (List Waiting)) → flat_forest_left (fit_forest listed C R) ≡ fit_forest waiting_room C (flat_forest R)
unfolding fit_forest
fit-forest-agrees C R =
    forest-ends (checked (forest_tests listed C R)) (grown_forest C) R
    ∙ ap (λ ts. forest_ends waiting_room (checked ts) (grown_forest C) (flat_forest R)) (forest-tests C R)
