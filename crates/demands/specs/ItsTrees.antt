-- A forest is its trees. Tree t of a forest fit that answers is the tree that the fit of one tree gives for the same data, settings and weights, t's own counts and
-- t's own parts of both tapes, in any rooms that are not too small: its nodes in all eight columns, and all six reports. No check but that of the room refuses that fit,
-- and the forest's own rooms are enough for it. So trees can be grown some at a time: two forests over the same data, settings and weights that have a tree with the
-- same counts and draws have the same tree. It holds because nothing is handed on from one tree to the next. Assumes nothing.
use Rattle.std.specs.Prelude.{ℕ, suc, ◌-◌, ◌*◌, ◌<◌, ◌≤◌, ◌≡◌, refl, ◌≢◌, Bool, ◌&&◌, ◌||◌, length, take, drop, T, eqb, Ok, Err}
use Rattle.std.proofs.Common.{zero-add, one-mul, suc-mul, le_trans, arith, ◌∙◌, subst, le→leb}
use Rattle.std.proofs.Math.Path.{sym, ap}
use Rattle.std.proofs.Math.Bool.{true, false, cond}
use mathlib.Core.List.{List, [], ◌∷◌, ◌++◌, map, map-map, append-nil}
use Rattle.std.proofs.Math.ListN.{get_or}
use Rattle.std.proofs.Math.Dec.{leb}
use Rattle.std.specs.Float.{nan}
use Rattle.std.specs.Float.Ieee.Fits.{and_l, and_i}
use Rattle.rules.specs.Results.{TreeAnswer}
use Rattle.rules.specs.declared.Report.{Report}
use Rattle.rules.specs.Words.{front, total}
use Rattle.rules.specs.Lent.{OneTree, behind_of, Reports, WaitingForm, TreeRooms, ForestRooms, Outcome, unweighted, shortest_of_eight, entries_at}
use Rattle.rules.specs.Checks.{Test, test, numbered, checked, shape_in, trees_in, values_long, listings_long, lengths, numbers_good, counts_good, counts_one, room_for, work_enough}
use Rattle.rules.specs.Draws.{Out, bad, ok}
use Rattle.rules.specs.Listing.{order_tests}
use Rattle.rules.specs.Fit.{Tree, fit, entries, params_of, TreeCall, one_tree_of, grown_tree, tree_tests, tree_done, tree_ends, fit_tree}
use Rattle.rules.specs.Table.{tree_at, trees_of}
use Rattle.rules.specs.Forest.{ForestCall, tried_of, part, one_tree_at, each_tree, tapes_good, forest_tests, fit_forest}
use Rattle.lemmas.specs.Lists.{is_true, each, all_pass, every_take, every_drop, drop-take, total-from, get_d-from}
use Rattle.lemmas.specs.Once.{eqb_yes}
use Rattle.lemmas.specs.Outs.{then-of}
use Rattle.lemmas.specs.Nodes.{behind_each}
use Rattle.lemmas.specs.Root.{fit-reported}
use Rattle.lemmas.specs.Tests.{goes_on, all-go-on}
use Rattle.lemmas.specs.Passed.{past-test, past_all, ForestPassed, forest-passed}
use Rattle.lemmas.specs.Written.{tree-written, tables, trees-written}
use Rattle.lemmas.specs.Beside.{behind_at, behind_tree, behind-written, tree-behind}
use Rattle.lemmas.specs.Answered.{report_or, GrewAt, ForestAnswered, forest-answered, trees-length, tree-at}
use Rattle.demands.specs.Refusals.{Unrefused, ForestUnrefused, forest-passes}
use Rattle.demands.specs.Parts.{tree-parts}
use Rattle.rules.specs.declared.FitError.{FitError}

-- ---- the statements

-- the entries from place a up to place b
abbrev pub between {ℓ} : {A : Type ℓ} → ℕ → ℕ → List A → List A
between a b l = drop a (take b l)

-- the call that fits tree t alone
abbrev pub tree_call_at : ForestCall → ℕ → TreeCall
tree_call_at C t =
    record {
      shape = C.shape;
      settings = C.settings;
      tried = tried_of C.shape.features C.tried;
      given = record {
        inputs = C.given.inputs;
        weights = C.given.weights;
        counts = between (t * C.shape.rows) (suc t * C.shape.rows) C.given.counts;
      };
      words = between (get_or C.word_starts t 0) (get_or C.word_starts (suc t) 0) C.words;
      thresholds = between (get_or C.threshold_starts t 0) (get_or C.threshold_starts (suc t) 0) C.thresholds;
    }

-- place t of the six report columns
abbrev pub report_at : Reports → ℕ → Report
report_at c t =
    record {
      nodes = get_or c.nodes t 0;
      depth = get_or c.depth t 0;
      mass = get_or c.mass t nan;
      searches = get_or c.searches t 0;
      words = get_or c.words t 0;
      thresholds = get_or c.thresholds t 0;
    }

-- what the fit of one tree leaves is tree t of what a forest fit left: the report, and between two starts the nodes, with their counts and masses
pub record IsTree {W X : Type 0} (left : ForestRooms W) (t : ℕ) (o : Outcome TreeAnswer (TreeRooms X)) : Type 0 where
  pub answer : o.answer ≡ Ok (report_at left.reports t)
  pub nodes : entries_at o.rooms.nodes 0 (get_or left.reports.nodes t 0) ≡ tree_at left.nodes left.starts t
  pub behind : behind_at o.rooms.behind 0 (get_or left.reports.nodes t 0) ≡ behind_tree left.behind left.starts t

-- in any rooms that are not too small
abbrev pub ItsTrees : Type 1
ItsTrees =
    (W X : Type 0) (K : WaitingForm W) (L : WaitingForm X) (C : ForestCall) (R : ForestRooms W) → (fit_forest K C R).answer ≡ Ok tt
    → (t : ℕ) → t < C.trees → (Q : TreeRooms X) → (fit_tree L (tree_call_at C t) Q).answer ≢ Err (FitError.Refused (numbered 6))
    → IsTree (fit_forest K C R).rooms t (fit_tree L (tree_call_at C t) Q)

-- what is lent to a forest is not too small for any of its trees
abbrev pub own_rooms : {W : Type 0} → ForestRooms W → TreeRooms W
own_rooms R = record { nodes = R.nodes; behind = R.behind; work = R.work }

abbrev pub RoomForEach : Type 1
RoomForEach =
    (W : Type 0) (K : WaitingForm W) (C : ForestCall) (R : ForestRooms W) → ForestUnrefused (fit_forest K C R).answer
    → (t : ℕ) → t < C.trees → Unrefused (fit_tree K (tree_call_at C t) (own_rooms R)).answer

-- two forest fits that answer, one tree of each: where the calls that fit these trees alone are one, so are reports and nodes, and what stands beside them
pub record SameTree {W X : Type 0} (left : ForestRooms W) (t : ℕ) (other : ForestRooms X) (u : ℕ) : Type 0 where
  pub report : report_at left.reports t ≡ report_at other.reports u
  pub nodes : tree_at left.nodes left.starts t ≡ tree_at other.nodes other.starts u
  pub behind : behind_tree left.behind left.starts t ≡ behind_tree other.behind other.starts u

abbrev pub SomeAtATime : Type 1
SomeAtATime =
    (W X : Type 0) (K : WaitingForm W) (L : WaitingForm X) (C E : ForestCall) (R : ForestRooms W) (Q : ForestRooms X)
    → (fit_forest K C R).answer ≡ Ok tt → (fit_forest L E Q).answer ≡ Ok tt
    → (t u : ℕ) → t < C.trees → u < E.trees → tree_call_at C t ≡ tree_call_at E u → SameTree (fit_forest K C R).rooms t (fit_forest L E Q).rooms u

-- ---- a tree's frame

pub frame_same : (C : ForestCall) (t : ℕ) → one_tree_of (tree_call_at C t) ≡ one_tree_at C t
unfolding one_tree_of one_tree_at part
frame_same C t =
    λ i.
    record {
      rows = C.shape.rows;
      params = params_of C.settings (tried_of C.shape.features C.tried) C.shape.features;
      weights = C.given.weights;
      counts =
          (drop-take (t * C.shape.rows) (suc t * C.shape.rows) C.given.counts
          ∙ ap (λ n. take n (drop (t * C.shape.rows) C.given.counts)) (wide t C.shape.rows)) i;
      words = drop-take (get_or C.word_starts t 0) (get_or C.word_starts (suc t) 0) C.words i;
      thresholds = drop-take (get_or C.threshold_starts t 0) (get_or C.threshold_starts (suc t) 0) C.thresholds i;
    }
  where
    wide : (t n : ℕ) → suc t * n - t * n ≡ n
    wide t n = omega (arith, suc-mul t n)

-- ---- its checks

skips : (t : Test) (ts : List Test) → T t.passes → checked (t ∷ ts) ≡ checked ts
skips t ts h = sym (goes_on t ts (is_true t.passes h) refl)

last-check : (n : ℕ) (b : Bool) → checked (test n b ∷ []) ≡ cond b (Ok tt) (Err (numbered n))
unfolding checked
last-check n b = refl

lengths-own : (C : ForestCall) (t : ℕ) → t < C.trees → length C.given.counts ≡ C.trees * C.shape.rows
    → T (lengths C.shape C.trees C.given && tapes_good C) → T (lengths C.shape 1 (tree_call_at C t).given)
unfolding lengths one_tree_of
lengths-own C t h long g =
    subst (λ b. T (values_long C.shape C.given.inputs.values && (eqb (length C.given.inputs.targets) C.shape.rows
    && ((unweighted C.given.weights || eqb (length C.given.weights) C.shape.rows) && (b && listings_long C.shape C.given.inputs.listings)))))
    (eqb_yes (length C.given.counts) (C.trees * C.shape.rows) long
    ∙ sym (eqb_yes (length (tree_call_at C t).given.counts) (1 * C.shape.rows)
    (ap (λ (F : OneTree). length F.counts) (frame_same C t) ∙ (tree-parts C g).counts.sizes t h ∙ sym (one-mul C.shape.rows))))
    (and_l (lengths C.shape C.trees C.given) (tapes_good C) g)

module _ {W X : Type 0} (K : WaitingForm W) (L : WaitingForm X) (C : ForestCall) (R : ForestRooms W) (q : checked (forest_tests K C R) ≡ (Ok tt)) (t : ℕ) (h : t < C.trees) where
  abbrev enough : TreeRooms X → Bool
  enough Q = leb (room_for (one_tree_of (tree_call_at C t))) (shortest_of_eight Q.nodes Q.behind) && work_enough L C.shape Q.work

  -- all but the last pass
  but-one : (Q : TreeRooms X) → checked (tree_tests L (tree_call_at C t) Q) ≡ cond (enough Q) (Ok tt) (Err (numbered 6))
  unfolding forest_tests tree_tests numbers_good counts_good
  but-one Q =
      let (t₁, q₂) = past-test _ _ q in let (t₂, q₃) = past-test _ _ q₂ in let (t₃, q₄) = past-test _ _ q₃ in
      let (t₄, q₅) = past-test _ _ q₄ in let (t₅, q₆) = past_all _ _ q₅ in
      skips _ _ (and_l (shape_in C.shape) (trees_in C.trees) t₁)
      ∙ skips _ _ (lengths-own C t h (forest-passed K C R q).passed.counts_long t₂)
      ∙ skips _ _ t₃
      ∙ skips _ _ (all_pass (λ c. leb c 65535) _ (every_drop _ (t * C.shape.rows) _ (every_take _ (suc t * C.shape.rows) C.given.counts
      (each (λ c. leb c 65535) C.given.counts (and_l (counts_good C.given) (counts_one C.given) t₄)))))
      ∙ sym (all-go-on (order_tests C.shape C.given.inputs.values C.given.inputs.listings) _ t₅ refl)
      ∙ last-check 6 (enough Q)

  -- so in rooms that are not too small it is the growth of the forest's frame
  pub own-fit : (Q : TreeRooms X) → (fit_tree L (tree_call_at C t) Q).answer ≢ Err (FitError.Refused (numbered 6))
      → fit_tree L (tree_call_at C t) Q ≡ tree_done L (fit (one_tree_at C t) C.given.inputs) Q
  unfolding fit_tree tree_ends grown_tree
  own-fit Q n = go (enough Q) (but-one Q)
    where
      go : (b : Bool) → checked (tree_tests L (tree_call_at C t) Q) ≡ cond b (Ok tt) (Err (numbered 6))
          → fit_tree L (tree_call_at C t) Q ≡ tree_done L (fit (one_tree_at C t) C.given.inputs) Q
      go true e = λ i. tree_ends L (e i) (fit (frame_same C t i) C.given.inputs) Q
      go false e = absurd (n (λ i. (tree_ends L (e i) (grown_tree (tree_call_at C t)) Q).answer))

-- ---- what the forest left of it

module _ {W : Type 0} (K : WaitingForm W) (C : ForestCall) (R : ForestRooms W) (a : ForestAnswered K C R) (t : ℕ) (h : t < C.trees) where
  abbrev grown : Tree
  grown = (tree-at K C R a t h).tree

  pub report-left : report_at (fit_forest K C R).rooms.reports t ≡ grown.report
  report-left =
      (λ i. report_at (a.after i).reports t)
      ∙ (λ i.
      record {
        nodes = one (λ r. r.nodes) R.reports.nodes 0 i;
        depth = one (λ r. r.depth) R.reports.depth 0 i;
        mass = one (λ r. r.mass) R.reports.mass nan i;
        searches = one (λ r. r.searches) R.reports.searches 0 i;
        words = one (λ r. r.words) R.reports.words 0 i;
        thresholds = one (λ r. r.thresholds) R.reports.thresholds 0 i;
      })
    where
      reports : List Report
      reports = map (λ (u : Tree). u.report) a.trees

      one : {A : Type 0} (f : Report → A) (old : List A) (d : A) → get_or (front (map f reports) old) t d ≡ f grown.report
      one f old d =
          ap (λ l. get_or (l ++ drop (length (map f reports)) old) t d) (map-map f (λ (u : Tree). u.report) a.trees)
          ∙ (tree-at K C R a t h).at (λ u. f u.report) (drop (length (map f reports)) old) d

  pub nodes-left : tree_at (fit_forest K C R).rooms.nodes (fit_forest K C R).rooms.starts t ≡ entries grown.nodes
  unfolding trees_of
  nodes-left =
      (λ i. tree_at (a.after i).nodes (a.after i).starts t)
      ∙ ap (tree_at _ _) (sym (zero-add t))
      ∙ sym (get_d-from (tree_at _ _) 0 C.trees t [] h)
      ∙ ap (λ l. get_or l t []) (trees-written R.nodes R.starts a.trees C.trees (trees-length K C R a) ∙ sym (append-nil (tables a.trees)))
      ∙ (tree-at K C R a t h).at (λ u. entries u.nodes) [] []

  pub behind-left : behind_tree (fit_forest K C R).rooms.behind (fit_forest K C R).rooms.starts t ≡ behind_each grown.nodes
  behind-left =
      (λ i. behind_tree (a.after i).behind (a.after i).starts t)
      ∙ tree-behind a.trees R.behind R.starts t (subst (λ n. t < n) (sym (trees-length K C R a)) h)
      ∙ ap (λ l. get_or l t (behind_of [] [])) (sym (append-nil (map (λ (u : Tree). behind_each u.nodes) a.trees)))
      ∙ (tree-at K C R a t h).at (λ u. behind_each u.nodes) [] (behind_of [] [])

pub its-trees : ItsTrees
unfolding tree_done
its-trees W X K L C R g t h Q n =
    record {
      answer = ap (λ (o : Outcome TreeAnswer (TreeRooms X)). o.answer) done ∙ ap Ok (sym (report-left K C R a t h));
      nodes =
          (λ i. entries_at (done i).rooms.nodes 0 (report-left K C R a t h i).nodes)
          ∙ tree-written u.tree Q.nodes long
          ∙ sym (nodes-left K C R a t h);
      behind =
          (λ i. behind_at (done i).rooms.behind 0 (report-left K C R a t h i).nodes)
          ∙ behind-written u.tree.nodes Q.behind u.tree.report.nodes long
          ∙ sym (behind-left K C R a t h);
    }
  where
    a : ForestAnswered K C R
    a = forest-answered K C R g

    u : GrewAt (fit (one_tree_at C t) C.given.inputs) a.trees t
    u = tree-at K C R a t h

    long : u.tree.report.nodes ≡ length u.tree.nodes
    long = then-of (λ (x : Tree). x.report.nodes ≡ length x.nodes) (fit (one_tree_at C t) C.given.inputs) u.tree u.grew (fit-reported (one_tree_at C t) C.given.inputs)

    done : fit_tree L (tree_call_at C t) Q ≡ tree_done L (ok u.tree) Q
    done = own-fit K L C R a.passed t h Q n ∙ ap (λ o. tree_done L o Q) u.grew

-- ---- a forest that is not refused

done-unrefused : {W : Type 0} (K : WaitingForm W) (o : Out Tree) (Q : TreeRooms W) → Unrefused (tree_done K o Q).answer
unfolding tree_done
done-unrefused K (bad s) Q = tt
done-unrefused K (ok x) Q = tt

pub room-for-each : RoomForEach
unfolding fit_tree tree_ends each_tree
room-for-each W K C R g t h =
    subst (λ n. Unrefused (tree_ends K n (grown_tree (tree_call_at C t)) (own_rooms R)).answer)
    (sym (but-one K K C R q t h (own_rooms R) ∙ ap (λ b. cond b (Ok tt) (Err (numbered 6))) (is_true (enough K K C R q t h (own_rooms R)) all)))
    (done-unrefused K (grown_tree (tree_call_at C t)) (own_rooms R))
  where
    q : checked (forest_tests K C R) ≡ Ok tt
    q = forest-passes K C R g

    p : ForestPassed K C R
    p = forest-passed K C R q

    room : room_for (one_tree_of (tree_call_at C t)) ≤ shortest_of_eight R.nodes R.behind
    room =
        le_trans (subst (λ F. room_for F ≤ total room_for (each_tree C)) (ap (one_tree_at C) (zero-add t) ∙ sym (frame_same C t)) (total-from room_for (one_tree_at C) 0 C.trees t h))
        p.room

    all : T (enough K K C R q t h (own_rooms R))
    all = and_i (leb (room_for (one_tree_of (tree_call_at C t))) (shortest_of_eight R.nodes R.behind)) (work_enough K C.shape R.work) (le→leb _ _ room) p.work

-- ---- so each tree of a forest that answers is had in the forest's own rooms

pub not-6 : (a : TreeAnswer) → Unrefused a → a ≢ Err (FitError.Refused (numbered 6))
not-6 a h e = subst Unrefused e h

pub tree-alone : {W : Type 0} (K : WaitingForm W) (C : ForestCall) (R : ForestRooms W) → (fit_forest K C R).answer ≡ Ok tt → (t : ℕ) → t < C.trees
    → IsTree (fit_forest K C R).rooms t (fit_tree K (tree_call_at C t) (own_rooms R))
tree-alone {W} K C R g t h =
    its-trees W W K K C R g t h (own_rooms R) (not-6 _ (room-for-each W K C R (subst ForestUnrefused (sym g) tt) t h))

-- where what one fit left is a tree of two forests, these are the same
pub same-tree : {W X Y : Type 0} (left : ForestRooms W) (t : ℕ) (other : ForestRooms X) (u : ℕ) (o : Outcome TreeAnswer (TreeRooms Y)) → IsTree left t o → IsTree other u o
    → SameTree left t other u
same-tree left t other u o one two =
    record {
      report = report;
      nodes = sym one.nodes ∙ (λ i. entries_at o.rooms.nodes 0 (report i).nodes) ∙ two.nodes;
      behind = sym one.behind ∙ (λ i. behind_at o.rooms.behind 0 (report i).nodes) ∙ two.behind;
    }
  where
    report : report_at left.reports t ≡ report_at other.reports u
    report = ap (report_or (report_at left.reports t)) (sym one.answer ∙ two.answer)

pub some-at-a-time : SomeAtATime
some-at-a-time W X K L C E R Q g k t u h l e = same-tree _ t _ u (fit_tree K (tree_call_at C t) (own_rooms R)) one other
  where
    one : IsTree (fit_forest K C R).rooms t (fit_tree K (tree_call_at C t) (own_rooms R))
    one = tree-alone K C R g t h

    other : IsTree (fit_forest L E Q).rooms u (fit_tree K (tree_call_at C t) (own_rooms R))
    other =
        subst (λ (c : TreeCall). IsTree (fit_forest L E Q).rooms u (fit_tree K c (own_rooms R))) (sym e)
        (its-trees X W L K E Q k u l (own_rooms R) (not-6 _ (subst (λ (c : TreeCall). Unrefused (fit_tree K c (own_rooms R)).answer) e (subst Unrefused (sym one.answer) tt))))
