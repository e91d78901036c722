-- What R10.3 and R10.4 state of a fit's numbers. The root mass is the sum of all rows' masses by number, and the root's totals run likewise. The choice words used are
-- features times searches, and searches never exceed nodes. The node room that is asked is enough: a tree has at most max(1, 2 x kept rows - 1) nodes, and each of the eight
-- columns has at least as many places.
-- The same of a forest, by the columns that it leaves: at each tree's place its root mass, words and searches; and the starts tell trees that lie one behind another,
-- the sum of whose nodes is within the room. It holds of a forest because each of its trees is what the fit of that tree alone gives. Assumes nothing.
use Rattle.std.specs.Prelude.{ℕ, zero, suc, ◌+◌, ◌-◌, ◌*◌, ◌<◌, ◌≤◌, ◌≡◌, refl, List, ◌++◌, map, length, get_or, T, eqb, Ok}
use Rattle.std.proofs.Common.{add-zero, zero-add, arith, sym, ap, ◌∙◌, subst, append-nil, drop_of_length-le, eqb→eq}
use Rattle.std.proofs.lemmas.Simd.{map-map}
use Rattle.std.proofs.lemmas.List.{length-map}
use Rattle.std.specs.Float.{nan}
use Rattle.rules.specs.declared.Totals.{Totals}
use Rattle.rules.specs.declared.Report.{Report}
use Rattle.rules.specs.Words.{from, front, total}
use Rattle.rules.specs.Totals.{empty, take_in}
use Rattle.rules.specs.Lent.{Data, Given, OneTree, Reports, WaitingForm, TreeRooms, ForestRooms, shortest_of_eight, mass_in}
use Rattle.rules.specs.Checks.{room_for, reports_exact}
use Rattle.rules.specs.Draws.{tape}
use Rattle.rules.specs.Search.{totals_of, search}
use Rattle.rules.specs.Growth.{from_root}
use Rattle.rules.specs.Fit.{element_in, element, root, Tree, tree_of, grow_from, fit, params_of, TreeCall, one_tree_of, fit_tree}
use Rattle.rules.specs.Forest.{ForestCall, one_tree_at, starts_from, forest_entries, fit_forest}
use Rattle.lemmas.specs.Lists.{Every, map_same}
use Rattle.lemmas.specs.Outs.{Then, then-then, then-of}
use Rattle.lemmas.specs.Root.{fit-reported, fit-mass, fit-nodes}
use Rattle.lemmas.specs.Spent.{growth-spent}
use Rattle.lemmas.specs.Passed.{and2, and5, tree-passed, Binary64}
use Rattle.lemmas.specs.Written.{first-start, last-start, next_start, length-forest}
use Rattle.lemmas.specs.Answered.{TreeAnswered, tree-answered, tree-listed, ForestAnswered, forest-answered, forest-right, trees-length, trees-each, forest-room}
use Rattle.demands.specs.Walks.{reported-nodes}
use Rattle.demands.specs.ItsTrees.{tree_call_at, report_at, own_rooms, tree-alone}

-- ---- the statements

-- the totals of rows 0 to n - 1, the last taken in last
pub totals_to : Given → ℕ → Totals
totals_to G zero = empty
totals_to G (suc n) = take_in (totals_to G n) (get_or G.inputs.targets n nan) (mass_in G.weights G.counts n)

-- what a tree of frame F over D is given
abbrev pub given_by : OneTree → Data → Given
given_by F D = record { inputs = D; weights = F.weights; counts = F.counts }

abbrev pub RootByNumber : Type 0
RootByNumber = (F : OneTree) (D : Data) → (root F D).totals ≡ totals_to (given_by F D) F.rows

abbrev pub RootMass : Type 1
RootMass =
    (W : Type 0) (K : WaitingForm W) (C : TreeCall) (R : TreeRooms W) (r : Report) → (fit_tree K C R).answer ≡ Ok r
    → r.mass ≡ (totals_to C.given C.shape.rows).mass

-- of a tree that reports r, over so many features
pub record Counted (features : ℕ) (r : Report) : Type 0 where
  pub words : r.words ≡ features * r.searches
  pub searches : r.searches ≤ r.nodes

abbrev pub TreeNumbers : Type 1
TreeNumbers = (W : Type 0) (K : WaitingForm W) (C : TreeCall) (R : TreeRooms W) (r : Report) → (fit_tree K C R).answer ≡ Ok r → Counted C.shape.features r

abbrev pub TreeRoom : Type 1
TreeRoom =
    (W : Type 0) (K : WaitingForm W) (C : TreeCall) (R : TreeRooms W) (r : Report) → Binary64 C.given.inputs.values → (fit_tree K C R).answer ≡ Ok r
    → (r.nodes ≤ room_for (one_tree_of C)) × (room_for (one_tree_of C) ≤ shortest_of_eight R.nodes R.behind)

-- the same of a forest, by what its columns hold at each tree's place
abbrev pub ForestMass : Type 1
ForestMass =
    (W : Type 0) (K : WaitingForm W) (C : ForestCall) (R : ForestRooms W) → (fit_forest K C R).answer ≡ Ok tt → (t : ℕ) → t < C.trees
    → get_or (fit_forest K C R).rooms.reports.mass t nan ≡ (totals_to (tree_call_at C t).given C.shape.rows).mass

abbrev pub ForestNumbers : Type 1
ForestNumbers =
    (W : Type 0) (K : WaitingForm W) (C : ForestCall) (R : ForestRooms W) → (fit_forest K C R).answer ≡ Ok tt → (t : ℕ) → t < C.trees
    → Counted C.shape.features (report_at (fit_forest K C R).rooms.reports t)

-- the trees lie one behind another from the first place on, each as long as the node column says, all of them together within the room
pub record Lies (trees room : ℕ) (starts nodes : List ℕ) : Type 0 where
  pub first : get_or starts 0 1 ≡ 0
  pub next : (t : ℕ) → t < trees → get_or starts (suc t) 0 ≡ get_or starts t 0 + get_or nodes t 0
  pub sum : get_or starts trees 0 ≡ total (λ n. n) nodes
  pub enough : total (λ n. n) nodes ≤ room

abbrev pub ForestRoom : Type 1
ForestRoom =
    (W : Type 0) (K : WaitingForm W) (C : ForestCall) (R : ForestRooms W) → Binary64 C.given.inputs.values → (fit_forest K C R).answer ≡ Ok tt
    → Lies C.trees (shortest_of_eight R.nodes R.behind) (fit_forest K C R).rooms.starts (fit_forest K C R).rooms.reports.nodes

-- ---- the root

-- the rows after the first n, taken in one by one
totals-from : (F : OneTree) (D : Data) (n k : ℕ) → totals_of (totals_to (given_by F D) n) (map (element F D) (from n k)) ≡ totals_to (given_by F D) (n + k)
unfolding totals_of from element element_in totals_to
totals-from F D n zero = ap (totals_to (given_by F D)) (sym (add-zero n))
totals-from F D n (suc k) = totals-from F D (suc n) k ∙ ap (totals_to (given_by F D)) (shift n k)
  where
    shift : (n k : ℕ) → suc n + k ≡ n + suc k
    shift n k = omega arith

pub root-by-number : RootByNumber
unfolding root totals_to
root-by-number F D = totals-from F D 0 F.rows ∙ ap (totals_to (given_by F D)) (zero-add F.rows)

pub root-mass : RootMass
unfolding one_tree_of
root-mass W K C R r h =
    let a : TreeAnswered K C R r = tree-answered K C R r h in
    ap (λ (x : Report). x.mass) (sym a.reported)
    ∙ then-of (λ (t : Tree). t.report.mass ≡ (root (one_tree_of C) C.given.inputs).totals.mass) (fit (one_tree_of C) C.given.inputs) a.tree a.grew
    (fit-mass (one_tree_of C) C.given.inputs)
    ∙ ap (λ (t : Totals). t.mass) (root-by-number (one_tree_of C) C.given.inputs)

-- ---- of a fit

pub fit-counted : (F : OneTree) (D : Data) → Then (fit F D) (λ t. Counted F.params.features t.report)
unfolding fit grow_from tree_of
fit-counted F D =
    then-then (from_root F.params (search (tape F.params.features) F.params) (root F D) _) _ _ _ (growth-spent F.params (root F D) _ refl)
    (λ s h. record { words = less (length F.words) (length s.left.words) (F.params.features * s.left.searches) h.words; searches = h.searches })
  where
    less : (a b c : ℕ) → b + c ≡ a → a - b ≡ c
    less a b c h = omega arith

pub tree-numbers : TreeNumbers
unfolding one_tree_of params_of
tree-numbers W K C R r h =
    let a : TreeAnswered K C R r = tree-answered K C R r h in
    subst (Counted C.shape.features) a.reported (then-of (λ t. Counted C.shape.features t.report) (fit (one_tree_of C) C.given.inputs) a.tree a.grew
    (fit-counted (one_tree_of C) C.given.inputs))

pub tree-room : TreeRoom
tree-room W K C R r held h =
    let a : TreeAnswered K C R r = tree-answered K C R r h in
    let (l, some) = tree-listed K C R held a.passed in (
      subst (λ n. n ≤ room_for (one_tree_of C)) (sym (reported-nodes C a.tree a.grew) ∙ ap (λ (x : Report). x.nodes) a.reported)
          (then-of (λ t. length t.nodes ≤ room_for (one_tree_of C)) (fit (one_tree_of C) C.given.inputs) a.tree a.grew (fit-nodes (one_tree_of C) C.given.inputs l some)),
      (tree-passed K C R a.passed).room,
    )

-- ---- of a forest: what its columns hold is what the fit of each tree alone reports

pub forest-mass : ForestMass
forest-mass W K C R g t h = root-mass W K (tree_call_at C t) (own_rooms R) _ (tree-alone K C R g t h).answer

pub forest-numbers : ForestNumbers
forest-numbers W K C R g t h = tree-numbers W K (tree_call_at C t) (own_rooms R) _ (tree-alone K C R g t h).answer

-- where the node column is as long as there are trees, it holds what they are long and no more
nodes-written : (ts : List Tree) (old : List ℕ) → length old ≡ length ts → Every (λ (t : Tree). t.report.nodes ≡ length t.nodes) ts
    → front (map (λ (r : Report). r.nodes) (map (λ (t : Tree). t.report) ts)) old ≡ map (λ (t : Tree). length t.nodes) ts
nodes-written ts old n e =
    let none : length old ≤ length told = omega (arith, n, length-map told_of (λ (r : Report). r.nodes), length-map ts (λ (t : Tree). t.report)) in
    ap (λ l. told ++ l) (drop_of_length-le old none) ∙ append-nil told ∙ map-map (λ (r : Report). r.nodes) (λ (t : Tree). t.report) ts
    ∙ map_same (λ (t : Tree). t.report.nodes) (λ (t : Tree). length t.nodes) ts e
  where
    told_of : List Report
    told_of = map (λ (t : Tree). t.report) ts

    told : List ℕ
    told = map (λ (r : Report). r.nodes) told_of

-- a column has a place a tree; nodes, words and thresholds used
pub columns-long : (trees : ℕ) (c : Reports) → T (reports_exact trees c) → (length c.nodes ≡ trees) × (length c.words ≡ trees) × (length c.thresholds ≡ trees)
unfolding reports_exact
columns-long trees c e =
    let (n, rest) = and2 (eqb (length c.nodes) trees) _ e in
    let (d, m, s, w, t) = and5 (eqb (length c.depth) trees) (eqb (length c.mass) trees) (eqb (length c.searches) trees) (eqb (length c.words) trees)
    (eqb (length c.thresholds) trees) rest in
    (eqb→eq _ _ n, eqb→eq _ _ w, eqb→eq _ _ t)

lies : (trees room : ℕ) (ts : List Tree) (starts : List ℕ) → length ts ≡ trees → length (forest_entries ts) ≤ room
    → Lies trees room (front (starts_from 0 ts) starts) (map (λ (t : Tree). length t.nodes) ts)
lies trees room ts starts n h =
    record {
      first = first-start 0 ts _ 1;
      next = λ t l. next_start 0 ts _ t (subst (λ k. t < k) (sym n) l);
      sum = ap (λ k. get_or (front (starts_from 0 ts) starts) k 0) (sym n) ∙ last-start 0 ts _ 0 ∙ zero-add (length (forest_entries ts)) ∙ length-forest ts;
      enough = subst (λ k. k ≤ room) (length-forest ts) h;
    }

pub forest-room-enough : ForestRoom
forest-room-enough W K C R held g =
    subst (λ (r : ForestRooms W). Lies C.trees (shortest_of_eight R.nodes R.behind) r.starts r.reports.nodes) (sym a.after)
    (subst (Lies C.trees (shortest_of_eight R.nodes R.behind) _)
    (sym (nodes-written a.trees R.reports.nodes ((columns-long C.trees R.reports (forest-right K C R a).reports).0 ∙ sym n)
    (trees-each K C R a (λ (t : Tree). t.report.nodes ≡ length t.nodes) held (λ t l. fit-reported (one_tree_at C t) C.given.inputs))))
    (lies C.trees (shortest_of_eight R.nodes R.behind) a.trees R.starts n (forest-room K C R a held)))
  where
    a : ForestAnswered K C R
    a = forest-answered K C R g

    n : length a.trees ≡ C.trees
    n = trees-length K C R a
