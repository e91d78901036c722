-- No fit answers in short rooms. Where a fit is not refused before growth, every slice that is lent to it is as long as R3.11 to R3.13 and R11.8 require: the order features x rows, the scratch
-- rows, the flags as many as the rows and as many as the features, both slices of the waiting list rows, each of the eight node columns what the trees may come to,
-- max(1, 2 x kept rows - 1) a tree, the starts trees + 1; and each report column is as long as there are trees, no longer. And no fit is refused by 6 whose rooms are so.
-- It holds because the last test says just that. Assumes nothing.
use Rattle.std.specs.Prelude.{ℕ, suc, ◌+◌, ◌-◌, ◌*◌, ◌≤◌, min, max, ◌≡◌, ◌≢◌, Bool, true, not, ◌&&◌, length, T, leb, eqb, Err}
use Rattle.std.proofs.Common.{arith, sym, ◌∙◌, subst, leb→le, le→leb, eqb→eq}
use Rattle.rules.specs.declared.Shape.{Shape}
use Rattle.rules.specs.declared.Refusal.{Refusal}
use Rattle.rules.specs.Words.{from, total}
use Rattle.rules.specs.Lent.{OneTree, Columns, Behind, Reports, WaitingRoom, waiting_room, Work, TreeRooms, ForestRooms, kept_rows, shortest, shortest_of_eight}
use Rattle.rules.specs.Checks.{room_for, work_enough, reports_exact}
use Rattle.rules.specs.Fit.{TreeCall, one_tree_of, tree_tests, fit_tree}
use Rattle.rules.specs.Forest.{ForestCall, one_tree_at, each_tree, rooms_good, forest_tests, fit_forest}
use Rattle.lemmas.specs.Lists.{is_true, total-map}
use Rattle.lemmas.specs.Once.{eqb_yes}
use Rattle.lemmas.specs.Passed.{and2, tree-passed, forest-passed}
use Rattle.demands.specs.Refusals.{Unrefused, ForestUnrefused, tree-refused, forest-refused, tree-passes, forest-passes}
use Rattle.demands.specs.Refused.{tree-number, forest-number}
use Rattle.rules.specs.declared.FitError.{FitError}

-- ---- the statements

-- each column of the node room, the six and the two, has so many places
pub record NodesLong (n : ℕ) (c : Columns) (b : Behind) : Type 0 where
  pub value : n ≤ length c.value
  pub feature : n ≤ length c.feature
  pub threshold : n ≤ length c.threshold
  pub score : n ≤ length c.score
  pub true_child : n ≤ length c.true_child
  pub false_child : n ≤ length c.false_child
  pub count : n ≤ length b.count
  pub mass : n ≤ length b.mass

pub record WorkLong (S : Shape) (w : Work WaitingRoom) : Type 0 where
  pub order : S.features * S.rows ≤ length w.order
  pub scratch : S.rows ≤ length w.scratch
  pub flags_by_rows : S.rows ≤ length w.flags
  pub flags_by_features : S.features ≤ length w.flags
  pub wholes : S.rows ≤ length w.waiting.wholes
  pub reals : S.rows ≤ length w.waiting.reals

pub record ReportsLong (trees : ℕ) (c : Reports) : Type 0 where
  pub nodes : length c.nodes ≡ trees
  pub depth : length c.depth ≡ trees
  pub mass : length c.mass ≡ trees
  pub searches : length c.searches ≡ trees
  pub words : length c.words ≡ trees
  pub thresholds : length c.thresholds ≡ trees

-- what a tree may come to, by its kept rows
abbrev pub nodes_at_most : OneTree → ℕ
nodes_at_most F = max 1 (2 * length (kept_rows F) - 1)

pub record TreeLong (C : TreeCall) (R : TreeRooms WaitingRoom) : Type 0 where
  pub nodes : NodesLong (nodes_at_most (one_tree_of C)) R.nodes R.behind
  pub work : WorkLong C.shape R.work

pub record ForestLong (C : ForestCall) (R : ForestRooms WaitingRoom) : Type 0 where
  pub nodes : NodesLong (total (λ t. nodes_at_most (one_tree_at C t)) (from 0 C.trees)) R.nodes R.behind
  pub starts : C.trees + 1 ≤ length R.starts
  pub reports : ReportsLong C.trees R.reports
  pub work : WorkLong C.shape R.work

abbrev pub TreeRoomsLong : Type 0
TreeRoomsLong = (C : TreeCall) (R : TreeRooms WaitingRoom) → Unrefused (fit_tree waiting_room C R).answer → TreeLong C R

abbrev pub TreeRoomsTaken : Type 0
TreeRoomsTaken = (C : TreeCall) (R : TreeRooms WaitingRoom) → TreeLong C R → (r : Refusal) → (fit_tree waiting_room C R).answer ≡ Err (FitError.Refused r) → r.number ≢ 6

abbrev pub ForestRoomsLong : Type 0
ForestRoomsLong = (C : ForestCall) (R : ForestRooms WaitingRoom) → ForestUnrefused (fit_forest waiting_room C R).answer → ForestLong C R

abbrev pub ForestRoomsTaken : Type 0
ForestRoomsTaken = (C : ForestCall) (R : ForestRooms WaitingRoom) → ForestLong C R → (r : Refusal) → (fit_forest waiting_room C R).answer ≡ Err (FitError.Refused r) → r.number ≢ 6

-- ---- what the tests say

parts : {a b : Bool} → a && b ≡ true → (a ≡ true) × (b ≡ true)
parts {a} {b} h = let (x, y) = and2 a b (subst T (sym h) tt) in (is_true a x, is_true b y)

both : {a b : Bool} → a ≡ true → b ≡ true → a && b ≡ true
both p q = λ i. p i && q i

least : {m n : ℕ} → leb m n ≡ true → m ≤ n
least {m} {n} h = leb→le m n (subst T (sym h) tt)

enough : {m n : ℕ} → m ≤ n → leb m n ≡ true
enough {m} {n} h = is_true (leb m n) (le→leb m n h)

same : {m n : ℕ} → eqb m n ≡ true → m ≡ n
same {m} {n} h = eqb→eq m n (subst T (sym h) tt)

exact : {m n : ℕ} → m ≡ n → eqb m n ≡ true
exact {m} {n} h = eqb_yes m n h

-- the shorter of the two
abbrev shorter : Behind → ℕ
shorter b = min (length b.count) (length b.mass)

each_long : (n : ℕ) (c : Columns) (b : Behind) → n ≤ shortest c → n ≤ shorter b → NodesLong n c b
each_long n c b six two =
    record {
      value = omega (arith, six);
      feature = omega (arith, six);
      threshold = omega (arith, six);
      score = omega (arith, six);
      true_child = omega (arith, six);
      false_child = omega (arith, six);
      count = omega (arith, two);
      mass = omega (arith, two);
    }

nodes-long : (n : ℕ) (c : Columns) (b : Behind) → n ≤ shortest_of_eight c b → NodesLong n c b
nodes-long n c b h = each_long n c b (first (shortest c) (shorter b) h) (last (shortest c) (shorter b) h)
  where
    first : (x y : ℕ) → n ≤ min x y → n ≤ x
    first x y h = omega arith

    last : (x y : ℕ) → n ≤ min x y → n ≤ y
    last x y h = omega arith

nodes-fit : (n : ℕ) (c : Columns) (b : Behind) → NodesLong n c b → n ≤ shortest_of_eight c b
nodes-fit n c b h =
    let six : n ≤ shortest c = omega (arith, h.value, h.feature, h.threshold, h.score, h.true_child, h.false_child) in
    let two : n ≤ shorter b = omega (arith, h.count, h.mass) in
    all (shortest c) (shorter b) six two
  where
    all : (x y : ℕ) → n ≤ x → n ≤ y → n ≤ min x y
    all x y h k = omega arith

work-long : (S : Shape) (w : Work WaitingRoom) → work_enough waiting_room S w ≡ true → WorkLong S w
unfolding work_enough
work-long S w t =
    let (order, t₂) = parts t in let (scratch, t₃) = parts t₂ in let (flags, places) = parts t₃ in
    let f : max S.rows S.features ≤ length w.flags = least flags in
    let p : S.rows ≤ waiting_room.places w.waiting = least places in
    record {
      order = least order;
      scratch = least scratch;
      flags_by_rows = omega (arith, f);
      flags_by_features = omega (arith, f);
      wholes = omega (arith, p);
      reals = omega (arith, p);
    }

work-fits : (S : Shape) (w : Work WaitingRoom) → WorkLong S w → work_enough waiting_room S w ≡ true
unfolding work_enough
work-fits S w h =
    let flags : max S.rows S.features ≤ length w.flags = omega (arith, h.flags_by_rows, h.flags_by_features) in
    let places : S.rows ≤ waiting_room.places w.waiting = omega (arith, h.wholes, h.reals) in
    both (enough h.order) (both (enough h.scratch) (both (enough flags) (enough places)))

reports-long : (trees : ℕ) (c : Reports) → reports_exact trees c ≡ true → ReportsLong trees c
unfolding reports_exact
reports-long trees c t =
    let (n, t₂) = parts t in let (d, t₃) = parts t₂ in let (m, t₄) = parts t₃ in let (s, t₅) = parts t₄ in let (w, h) = parts t₅ in
    record { nodes = same n; depth = same d; mass = same m; searches = same s; words = same w; thresholds = same h }

reports-fit : (trees : ℕ) (c : Reports) → ReportsLong trees c → reports_exact trees c ≡ true
unfolding reports_exact
reports-fit trees c h =
    both (exact h.nodes) (both (exact h.depth) (both (exact h.mass) (both (exact h.searches) (both (exact h.words) (exact h.thresholds)))))

-- the number of a test that is not the last
other : (n : ℕ) → T (not (eqb n 6)) → n ≢ 6
other n t q = subst (λ k. T (not (eqb k 6))) q t

-- ---- one tree

pub tree-rooms-long : TreeRoomsLong
unfolding room_for
tree-rooms-long C R un =
    let p = tree-passed waiting_room C R (tree-passes waiting_room C R un) in
    record { nodes = nodes-long (nodes_at_most (one_tree_of C)) R.nodes R.behind p.room; work = work-long C.shape R.work (is_true (work_enough waiting_room C.shape R.work) p.work) }

pub tree-rooms-taken : TreeRoomsTaken
unfolding tree_tests room_for
tree-rooms-taken C R long r h =
    tree-number (λ n. n ≢ 6) (other 11 tt) (other 12 tt) (other 13 tt) waiting_room (other 1 tt) (other 2 tt) (other 3 tt) (other 4 tt) C R (λ f. absurd (subst T (sym passes ∙ f) tt))
    r (tree-refused WaitingRoom waiting_room C R r h).1
  where
    passes : leb (nodes_at_most (one_tree_of C)) (shortest_of_eight R.nodes R.behind) && work_enough waiting_room C.shape R.work ≡ true
    passes = both (enough (nodes-fit (nodes_at_most (one_tree_of C)) R.nodes R.behind long.nodes)) (work-fits C.shape R.work long.work)

-- ---- a forest

-- what all the trees may come to
room-same : (C : ForestCall) → total room_for (each_tree C) ≡ total (λ t. nodes_at_most (one_tree_at C t)) (from 0 C.trees)
unfolding each_tree room_for
room-same C = total-map room_for (one_tree_at C) (from 0 C.trees)

pub forest-rooms-long : ForestRoomsLong
forest-rooms-long C R un =
    let p = forest-passed waiting_room C R (forest-passes waiting_room C R un) in
    record {
      nodes = nodes-long (total (λ t. nodes_at_most (one_tree_at C t)) (from 0 C.trees)) R.nodes R.behind (subst (λ n. n ≤ shortest_of_eight R.nodes R.behind) (room-same C) p.room);
      starts = omega (arith, p.starts_room);
      reports = reports-long C.trees R.reports (is_true (reports_exact C.trees R.reports) p.reports);
      work = work-long C.shape R.work (is_true (work_enough waiting_room C.shape R.work) p.work);
    }

pub forest-rooms-taken : ForestRoomsTaken
unfolding forest_tests rooms_good
forest-rooms-taken C R long r h =
    forest-number (λ n. n ≢ 6) (other 11 tt) (other 12 tt) (other 13 tt) waiting_room (other 1 tt) (other 2 tt) (other 3 tt) (other 4 tt) C R (λ f. absurd (subst T (sym passes ∙ f) tt))
    r (forest-refused WaitingRoom waiting_room C R r h).1
  where
    passes : leb (total room_for (each_tree C)) (shortest_of_eight R.nodes R.behind) && rooms_good waiting_room C R ≡ true
    passes =
        let starts : suc C.trees ≤ length R.starts = omega (arith, long.starts) in
        both (enough (subst (λ n. n ≤ shortest_of_eight R.nodes R.behind) (sym (room-same C)) (nodes-fit _ R.nodes R.behind long.nodes)))
        (both (work-fits C.shape R.work long.work) (both (enough starts) (reports-fit C.trees R.reports long.reports)))
