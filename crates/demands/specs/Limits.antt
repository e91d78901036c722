-- What holds a tree back. No limit grows what the greatest limit grows, whatever call it stands in. The depth that is reported is within the limit, and is 0 exactly
-- where the tree is one node; and a tree that stays below its limit would have been the same, draw by draw, under any other that it stays below. Where no row is kept,
-- nothing is searched: whatever the limit, the least split, the splitter and the tapes are, the tree is one leaf of value 0, count 0 and mass 0, and it uses no draw.
-- Assumes nothing.
use Rattle.std.specs.Prelude.{ℕ, ◌+◌, ◌<◌, ◌≤◌, max, ◌≡◌, ◌⊎◌, false, length, Ok, Some, None, Option}
use Rattle.std.proofs.Common.{zero-add, sym, ◌∙◌, inr}
use Rattle.std.proofs.Math.Nat.{sub_self}
use native.Mathlib.Omega.{arith}
use Rattle.std.proofs.Math.Path.{refl, ap, subst}
use Rattle.std.proofs.Math.Logic.{inl}
use mathlib.Core.List.{List, [], ◌∷◌, ◌++◌, map}
use Rattle.std.specs.Float.Ieee.{lt, of_bits}
use Rattle.rules.specs.Results.{TreeAnswer}
use Rattle.rules.specs.declared.Params.{Params}
use Rattle.rules.specs.declared.Settings.{Settings}
use Rattle.rules.specs.declared.Report.{Report}
use Rattle.rules.specs.Words.{nought, from, front, total}
use Rattle.rules.specs.Totals.{empty, value_of}
use Rattle.rules.specs.Lent.{Data, OneTree, behind_of, WaitingForm, TreeRooms, ForestRooms, Outcome, kept, count_in, kept_rows, leaf_entry, write_entries, zero_work}
use Rattle.rules.specs.Checks.{checked, room_for}
use Rattle.rules.specs.Draws.{Out, ok, bind, Tapes, tape}
use Rattle.rules.specs.Search.{NodeRows, Found, no_cut, cut_found, totals_of, search}
use Rattle.rules.specs.Growth.{Waiting, State, joins, search_if, runs, expand, grow_all, from_root, leaf_of}
use Rattle.rules.specs.Fit.{element, element_in, listing, column, root, Tree, tree_of, grow_from, fit, entry_of, entries, limit_of, params_of, TreeCall, one_tree_of, grown_tree, tree_tests, tree_done, tree_ends, fit_tree}
use Rattle.rules.specs.Forest.{ForestCall, one_tree_at, each_tree, grown_forest, rooms_good, tapes_good, forest_tests, fit_forest}
use Rattle.lemmas.specs.Lists.{Every, every-imp, every_append, keep-none, from-below}
use Rattle.lemmas.specs.Outs.{Then, then-then, then-both, then-after, always, then-of}
use Rattle.lemmas.specs.WaitingOrder.{children-length, search_if-joins, expand-nodes, expand-depth, expand-level, root-keep}
use Rattle.lemmas.specs.Unmet.{relimit, search-same, root-unmet}
use Rattle.lemmas.specs.Passed.{tree-passed, tree-framed}
use Rattle.lemmas.specs.Answered.{TreeAnswered, tree-answered}
use Rattle.demands.specs.LeftOut.{Accepted, clean-start, idle, accepted}
use Rattle.demands.specs.Refusals.{Unrefused, tree-passes}

-- ---- the statements

abbrev pub limited : Option ℕ → Settings → Settings
limited d G = record { depth = d; leaf = G.leaf; split = G.split; splitter = G.splitter; height = G.height }

-- the same call under another limit
abbrev pub tree_under : Option ℕ → TreeCall → TreeCall
tree_under d C =
    record { shape = C.shape; settings = limited d C.settings; tried = C.tried; given = C.given; words = C.words; thresholds = C.thresholds }

abbrev pub forest_under : Option ℕ → ForestCall → ForestCall
forest_under d C =
    record {
      shape = C.shape;
      trees = C.trees;
      settings = limited d C.settings;
      tried = C.tried;
      given = C.given;
      words = C.words;
      thresholds = C.thresholds;
      word_starts = C.word_starts;
      threshold_starts = C.threshold_starts;
    }

abbrev pub NoLimit : Type 1
NoLimit =
    (W : Type 0) (K : WaitingForm W)
    → ((C : TreeCall) (R : TreeRooms W) → fit_tree K (tree_under None C) R ≡ fit_tree K (tree_under (Some 65535) C) R)
    × ((C : ForestCall) (R : ForestRooms W) → fit_forest K (forest_under None C) R ≡ fit_forest K (forest_under (Some 65535) C) R)

-- what a limit comes to
abbrev pub most : Option ℕ → ℕ
most None = 65535
most (Some d) = d

-- one node at depth 0, or a split
abbrev pub OneOrSplit : ℕ → ℕ → Type 0
OneOrSplit nodes depth = ((nodes ≡ 1) × (depth ≡ 0)) ⊎ ((3 ≤ nodes) × (2 ≤ depth))

-- of a tree that reports r
pub record Within (limit : ℕ) (r : Report) : Type 0 where
  pub depth : r.depth ≤ limit
  pub nodes : OneOrSplit r.nodes r.depth

abbrev pub WithinLimit : Type 1
WithinLimit =
    (W : Type 0) (K : WaitingForm W) (C : TreeCall) (R : TreeRooms W) (r : Report) → (fit_tree K C R).answer ≡ Ok r → Within (most C.settings.depth) r

-- the root has level 1, so that a limit of 1 is met by a tree of one node
abbrev pub LimitUnmet : Type 1
LimitUnmet =
    (W : Type 0) (K : WaitingForm W) (C : TreeCall) (R : TreeRooms W) (r : Report) (d : Option ℕ) → (fit_tree K C R).answer ≡ Ok r
    → max 1 r.depth < most C.settings.depth → max 1 r.depth < most d → fit_tree K (tree_under d C) R ≡ fit_tree K C R

-- one leaf of value 0 with nothing behind it, and nothing searched or drawn
abbrev pub one_leaf : {W : Type 0} → WaitingForm W → TreeRooms W → Outcome TreeAnswer (TreeRooms W)
one_leaf K R =
    record {
      answer = Ok (record { nodes = 1; depth = 0; mass = nought; searches = 0; words = 0; thresholds = 0 });
      rooms = record {
        nodes = write_entries (leaf_entry nought ∷ []) R.nodes;
        behind = behind_of (front (0 ∷ []) R.behind.count) (front (nought ∷ []) R.behind.mass);
        work = zero_work K R.work;
      };
    }

abbrev pub NothingKept : Type 1
NothingKept =
    (W : Type 0) (K : WaitingForm W) (C : TreeCall) (R : TreeRooms W) → ((i : ℕ) → i < C.shape.rows → kept (one_tree_of C) i ≡ false)
    → Unrefused (fit_tree K C R).answer → fit_tree K C R ≡ one_leaf K R

-- ---- no limit

pub no-limit : NoLimit
unfolding fit_tree tree_tests one_tree_of grown_tree fit_forest forest_tests rooms_good tapes_good grown_forest each_tree one_tree_at params_of limit_of
no-limit W K = ((λ C R. refl), (λ C R. refl))

-- ---- within the limit

module _ (P : Params) {S : Type 0} (choose : S → NodeRows → Out (Found × S)) where
  abbrev Deep : List Waiting → State S → Type 0
  Deep ws s = Every (λ w. 1 ≤ w.level) ws × (s.depth ≤ P.limit) × OneOrSplit (length s.nodes) s.depth

  expand-deep : (w : Waiting) (ws : List Waiting) (s : State S) → w.level < P.limit → Deep (w ∷ ws) s → Then (expand P choose w s) (λ r. Deep (r.0 ++ ws) r.1)
  expand-deep w ws s b h =
      then-after (expand P choose w s) _ _
      (then-both (expand P choose w s) _ _ (expand-level P choose w s) (then-both (expand P choose w s) _ _ (expand-nodes P choose w s) (expand-depth P choose w s)))
      (λ r q.
      let more : length r.1.nodes ≡ length s.nodes + 2 = ap length q.1.0 ∙ children-length w s.nodes in (
        every_append _ r.0 ws (every-imp _ _ (λ v l. omega (arith, l.0)) r.0 q.0) h.0.1,
        omega (arith, b, h.1, q.1.1),
        inr (some (length s.nodes) (length r.1.nodes) more h.2, omega (arith, h.0.0, q.1.1)),
      ))
    where
      some : (n m : ℕ) → m ≡ n + 2 → OneOrSplit n s.depth → 3 ≤ m
      some n m q (inl p) = omega (arith, p.0)
      some n m q (inr p) = omega (arith, p.0)

  growth-deep : (root : NodeRows) (s : S) → Then (from_root P choose root s) (λ s'. Deep [] s')
  unfolding joins
  growth-deep root s =
      root-keep P choose Deep expand-deep root s
      (λ b. then-after (search_if P choose b 0 1 root s) _ _
      (search_if-joins P choose _ b 0 1 root s (λ t. always (choose s root) _ (λ r. first r.0)))
      (λ r l. (l, omega arith, inl (refl, refl))))
    where
      first : (f : Found) → Every (λ w. 1 ≤ w.level) (joins 0 1 root f)
      first no_cut = tt
      first (cut_found c) = (omega arith, tt)

pub fit-within : (F : OneTree) (D : Data) → Then (fit F D) (λ t. Within F.params.limit t.report)
unfolding fit grow_from tree_of
fit-within F D =
    then-then (from_root F.params (search (tape F.params.features) F.params) (root F D) _) _ _ _ (growth-deep F.params _ (root F D) _)
    (λ s h. record { depth = h.1; nodes = h.2 })

limit-most : (d : Option ℕ) → limit_of d ≡ most d
unfolding limit_of
limit-most None = refl
limit-most (Some d) = refl

pub within-limit : WithinLimit
unfolding one_tree_of params_of
within-limit W K C R r h =
    let a : TreeAnswered K C R r = tree-answered K C R r h in
    subst (λ n. Within n r) (limit-most C.settings.depth)
    (subst (Within (limit_of C.settings.depth)) a.reported
    (then-of (λ t. Within (limit_of C.settings.depth) t.report) (fit (one_tree_of C) C.given.inputs) a.tree a.grew (fit-within (one_tree_of C) C.given.inputs)))

-- ---- a limit that is not met

abbrev one_tree_under : ℕ → OneTree → OneTree
one_tree_under n F = record { rows = F.rows; params = relimit n F.params; weights = F.weights; counts = F.counts; words = F.words; thresholds = F.thresholds }

fit-unmet : (F : OneTree) (D : Data) (n b : ℕ) → 1 ≤ b → b < F.params.limit → b < n → Then (fit F D) (λ t. t.report.depth ≤ b → fit (one_tree_under n F) D ≡ ok t)
unfolding fit grow_from tree_of root column listing element kept kept_rows bind
fit-unmet F D n b h u u' =
    then-then (from_root P (choose P) node start) _ _ _ (root-unmet P n b u u' (choose P) node start h)
    (λ s g k. (λ i. ends (from_root (relimit n P) (λ d t. sym (search-same P n (tape P.features) d t) i) node start)) ∙ ap ends (g k))
  where
    P : Params
    P = F.params

    node : NodeRows
    node = root F D

    start : Tapes
    start = record { words = F.words; thresholds = F.thresholds; searches = 0 }

    choose : Params → Tapes → NodeRows → Out (Found × Tapes)
    choose Q = search (tape Q.features) Q

    ends : Out (State Tapes) → Out Tree
    ends m = bind m (λ s. ok (tree_of F node s))

pub limit-unmet : LimitUnmet
unfolding fit_tree tree_tests room_for kept_rows kept one_tree_of params_of grown_tree
limit-unmet W K C R r d h u u' =
    let a : TreeAnswered K C R r = tree-answered K C R r h in
    let same : grown_tree (tree_under d C) ≡ ok a.tree =
    then-of (λ t. t.report.depth ≤ max 1 r.depth → grown_tree (tree_under d C) ≡ ok t) (grown_tree C) a.tree a.grew
    (fit-unmet (one_tree_of C) C.given.inputs (limit_of d) (max 1 r.depth) (omega arith) (below C.settings.depth u) (below d u'))
    (omega (arith, ap (λ (x : Report). x.depth) a.reported)) in
    λ i. tree_ends K (checked (tree_tests K C R)) ((same ∙ sym a.grew) i) R
  where
    below : (d : Option ℕ) → max 1 r.depth < most d → max 1 r.depth < limit_of d
    below d l = subst (λ n. max 1 r.depth < n) (sym (limit-most d)) l

-- ---- nothing kept

module _ (F : OneTree) (D : Data) (a : Accepted F D) (none : (i : ℕ) → i < F.rows → kept F i ≡ false) where
  rows_none : Every (λ i. kept F i ≡ false) (from 0 F.rows)
  rows_none = every-imp _ _ (λ i h. none i (subst (λ n. i < n) (zero-add F.rows) h)) (from 0 F.rows) (from-below 0 F.rows)

  -- every row adds a zero
  sweep : (l : List ℕ) → Every (λ i. i < 0 + F.rows) l → totals_of empty (map (element F D) l) ≡ empty
  unfolding totals_of element element_in
  sweep [] b = refl
  sweep (i ∷ l) b =
      let h : i < F.rows = subst (λ n. i < n) (zero-add F.rows) b.0 in
      ap (λ t. totals_of t (map (element F D) l)) (idle F D a empty i h clean-start (none i h)) ∙ sweep l b.1

  root-empty : root F D ≡ record { columns = (root F D).columns; totals = empty; count = 0 }
  unfolding root kept_rows total
  root-empty =
      λ i.
      record {
        columns = (root F D).columns;
        totals = sweep (from 0 F.rows) (from-below 0 F.rows) i;
        count = total (count_in F.counts) (keep-none (kept F) (from 0 F.rows) rows_none i);
      }

pub nothing-kept : NothingKept
unfolding fit_tree grown_tree tree_ends tree_done entries entry_of value_of lt of_bits fit grow_from from_root search_if grow_all runs bind tree_of leaf_of one_tree_of
nothing-kept W K C R none h = λ i. tree_ends K (q i) ((ap (grow_from F) (root-empty F D accepts none) ∙ unused) i) R
  where
    F : OneTree
    F = one_tree_of C

    D : Data
    D = C.given.inputs

    q : checked (tree_tests K C R) ≡ Ok tt
    q = tree-passes K C R h

    accepts : Accepted F D
    accepts = let p = (tree-passed K C R q).passed in accepted C.shape 1 C.given p F (tree-framed C p)

    bare : NodeRows
    bare = record { columns = (root F D).columns; totals = empty; count = 0 }

    unused : grow_from F bare ≡ ok (record { nodes = leaf_of bare ∷ []; report = record { nodes = 1; depth = 0; mass = nought; searches = 0; words = 0; thresholds = 0 } })
    unused =
        λ i.
        ok (record {
          nodes = leaf_of bare ∷ [];
          report = record { nodes = 1; depth = 0; mass = nought; searches = 0; words = sub_self (length F.words) i; thresholds = sub_self (length F.thresholds) i };
        })
