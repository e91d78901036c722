-- How a fit of one tree ends: from the passed checks to what growth asks, and from what growth leaves to the outcome of the rules. Assumes nothing.
use Rattle.std.specs.Prelude.{ℕ, ◌*◌, ◌≤◌, min, ◌≡◌, refl, length, Result, Ok, Err, MatchResult}
use Rattle.std.specs.Result.{IsErrAnd}
use Rattle.std.proofs.lemmas.Result.{err_from_is_err_and}
use Rattle.std.proofs.Math.Nat.{one-mul}
use Rattle.std.proofs.Common.{mul-le-mul, sym, ◌∙◌}
use Rattle.std.proofs.Math.Path.{ap, subst}
use Rattle.rules.specs.declared.Shape.{Shape}
use Rattle.rules.specs.declared.Settings.{Settings}
use Rattle.rules.specs.declared.Input.{Input}
use Rattle.rules.specs.declared.Tapes.{Tapes}
use Rattle.rules.specs.declared.NodeRoom as N
use Rattle.rules.specs.declared.WorkRoom as W
use Rattle.rules.specs.declared.Params.{Params}
use Rattle.rules.specs.declared.Refusal.{Refusal}
use Rattle.rules.specs.Results.{Checked, TreeAnswer}
use Rattle.rules.specs.Lent.{OneTree, TreeRooms, Outcome, WaitingRoom, waiting_room, tree_rooms_of, outcome_of, zero_columns, zero_behind, zero_work, shortest_of_eight}
use Rattle.rules.specs.Slices.{given_in, nodes_in, behind_in, work_in}
use Rattle.rules.specs.Checks.{checked}
use Rattle.rules.specs.Fit.{params_of, TreeCall, tree_call, one_tree_of, grown_tree, tree_tests, tree_done, tree_ends, fit_tree}
use Rattle.lemmas.specs.Passed.{TreePassed, tree-passed, Binary64}
use Rattle.lemmas.specs.Answered.{tree-listed}
use Rattle.checks.specs.Verdicts.{TreeHas}
use Rattle.params.specs.Params.{ParamsMade}
use Rattle.rooms.specs.Zero.{NodesLong, BehindLong, WorkLong, nodes-zero, behind-zero, work-zero}
use Rattle.rooms.specs.Enough.{WorkRoom, work-room}
use Rattle.work_columns.specs.Setup.{counted-passed}
use Rattle.node_entries.specs.Entries.{NodeRoom, node_lengths}
use Rattle.tree_report.specs.Report.{Planted, bad_draw}
use Rattle.tree_build.specs.Plant.{one_tree_in, PlantAsks, Answers, PlantDone}
use Rattle.rules.specs.declared.FitError.{FitError}

-- what a tree that was grown, or a bad draw, leaves of the rooms
abbrev pub finished : Planted → TreeRooms WaitingRoom → Outcome TreeAnswer (TreeRooms WaitingRoom)
finished (Err k) R = outcome_of (bad_draw k) (tree_rooms_of (zero_columns R.nodes) (zero_behind R.behind) (zero_work waiting_room R.work))
finished (Ok r) R = outcome_of (Ok r) (tree_rooms_of R.nodes R.behind (zero_work waiting_room R.work))

-- the call and the rooms, as they are lent
abbrev pub call_in : Shape → Settings → ℕ → Input → Tapes → TreeCall
call_in S s tried d t = tree_call S s tried (given_in d) t.words.now t.thresholds.now

-- the rooms that are lent
abbrev pub rooms_in : N.NodeRoom → W.WorkRoom → TreeRooms WaitingRoom
rooms_in n w = tree_rooms_of (nodes_in n) (behind_in n) (work_in w)

-- the eight columns that growth is lent
abbrev eight : TreeRooms WaitingRoom → NodeRoom
eight R = record { nodes = R.nodes; behind = R.behind }

-- what the tree of a call grows by
abbrev pub frame : TreeCall → Params → OneTree
frame C p = one_tree_in C.shape.rows p C.given.weights C.given.counts C.words C.thresholds

-- the parameters of a call
abbrev pub Made : TreeCall → Params → Type 0
Made C p = ParamsMade C.settings C.tried C.shape.features p

module _ (C : TreeCall) (R : TreeRooms WaitingRoom) where
  pub fit_refused : (r : Refusal) → Err r ≡ checked (tree_tests waiting_room C R) → outcome_of (Err (FitError.Refused r)) R ≡ fit_tree waiting_room C R
  unfolding fit_tree tree_ends
  fit_refused r e = ap (λ k. tree_ends waiting_room k (grown_tree C) R) e

  module _ (R' : TreeRooms WaitingRoom) (l : node_lengths (eight R') ≡ node_lengths (eight R)) (lw : WorkLong R.work R'.work) where
    ln : NodesLong R.nodes R'.nodes
    ln =
        record {
          value = ap (λ z. z.value) l;
          feature = ap (λ z. z.feature) l;
          threshold = ap (λ z. z.threshold) l;
          score = ap (λ z. z.score) l;
          truechild = ap (λ z. z.truechild) l;
          falsechild = ap (λ z. z.falsechild) l;
        }

    lb : BehindLong R.behind R'.behind
    lb = record { count = ap (λ z. z.count) l; mass = ap (λ z. z.mass) l }

    finished-is : (r : Planted) → Answers (one_tree_of C) C.given.inputs (eight R) (eight R') r → finished r R' ≡ tree_done waiting_room (grown_tree C) R
    unfolding tree_done grown_tree
    finished-is (Err k) a =
        (λ i. outcome_of (bad_draw k) (tree_rooms_of (nodes-zero R.nodes R'.nodes ln i) (behind-zero R.behind R'.behind lb i) (work-zero R.work R'.work lw i)))
        ∙ ap (λ o. tree_done waiting_room o R) (sym a)
    finished-is (Ok r) a =
        (λ i. outcome_of (Ok (sym a.report i)) (tree_rooms_of (a.written i).nodes (a.written i).behind (work-zero R.work R'.work lw i)))
        ∙ ap (λ o. tree_done waiting_room o R) (sym a.same)

    pub fit-finished : (Ok tt) ≡ checked (tree_tests waiting_room C R) → (p : Params) → Made C p → (r : Planted)
        → PlantDone (frame C p) C.given.inputs (eight R) (eight R') r → finished r R' ≡ fit_tree waiting_room C R
    unfolding fit_tree tree_ends one_tree_of
    fit-finished e p m r d =
        finished-is r (subst (λ q. PlantDone (frame C q) C.given.inputs (eight R) (eight R') r) m.same d).done
        ∙ ap (λ k. tree_ends waiting_room k (grown_tree C) R) e

  -- ---- what growth asks

  module _ (e : (Ok tt) ≡ checked (tree_tests waiting_room C R)) where
    all-passed : TreePassed waiting_room C R
    all-passed = tree-passed waiting_room C R (sym e)

    room : WorkRoom C.shape R.work
    room = work-room C.shape R.work all-passed.work

    pub few-features : C.shape.features ≤ 1024
    few-features = all-passed.passed.few_features

    pub size_low : C.shape.features * C.shape.rows ≤ 1024 * 65535
    size_low = mul-le-mul few-features all-passed.passed.few_rows

    pub size_room : C.shape.features * C.shape.rows ≤ length R.work.order
    size_room = room.order

    pub plant-asks : Binary64 C.given.inputs.values → (p : Params) → Made C p
        → PlantAsks C.shape.features (frame C p) C.given.inputs (eight R)
        (C.shape.features * C.shape.rows) (length R.work.scratch) (length R.work.flags) (length R.work.waiting.wholes) (length R.work.waiting.reals)
    unfolding one_tree_of params_of
    plant-asks held p m =
        let q = all-passed.passed in
        subst (λ p'. PlantAsks C.shape.features (frame C p') C.given.inputs (eight R)
        (C.shape.features * C.shape.rows) (length R.work.scratch) (length R.work.flags) (length R.work.waiting.wholes) (length R.work.waiting.reals)) (sym m.same)
        (record {
          listed = (tree-listed waiting_room C R held (sym e)).0;
          same = refl;
          rows = q.some_rows;
          few = q.few_rows;
          some = q.some_features;
          wide = q.values_long;
          targeted = q.targets_long;
          tables = counted-passed C.shape.rows C.given.weights C.given.counts (q.counts_long ∙ one-mul C.shape.rows) q.weights_long;
          low = q.counts_low;
          listings = q.listings_long;
          features-few = few-features;
          deep = subst (λ (p' : Params). p'.limit ≤ 65535) m.same m.deep;
          col-room = refl;
          scratch-room = room.scratch;
          flag-room = room.flags;
          whole_room = room.wholes;
          real-room = room.reals;
          node-room = all-passed.room;
        })

-- ---- the verdict, and what it is passed on as

-- a refusal passed on as a fit's
passed-on : (Q : Refusal → FitError → Type 0) (v : Checked) (u : Result (Unit {0}) FitError) → MatchResult v (λ x. u ≡ Ok x) (λ r. IsErrAnd u (Q r)) → (x : Unit {0}) → u ≡ Ok x → v ≡ Ok tt
passed-on Q (Ok x) u m y e = refl
passed-on Q (Err r) u m y e = let z = err_from_is_err_and u m in let n = z.1 in cc

pub refused-on : (Q : Refusal → FitError → Type 0) (v : Checked) (u : Result (Unit {0}) FitError) → MatchResult v (λ x. u ≡ Ok x) (λ r. IsErrAnd u (Q r))
    → (d : FitError) → u ≡ Err d → (r : Refusal) × (v ≡ Err r) × Q r d
refused-on Q (Ok x) u m d e = absurd (let n : u ≡ Ok x = m in cc)
refused-on Q (Err r) u m d e = (r, refl, subst (λ u. IsErrAnd u (Q r)) e m)

module _ (S : Shape) (s : Settings) (tried : ℕ) (d : Input) (t : Tapes) (n : N.NodeRoom) (w : W.WorkRoom) {k m : ℕ} {v : Checked}
    (h : (C : TreeCall) (R : TreeRooms WaitingRoom)
    → TreeHas S (given_in d) (record { nodes = k; order = length w.order.now; scratch = length w.scratch.now; flags = length w.flags.now; waiting = m }) C R
    → v ≡ checked (tree_tests waiting_room C R))
    (ek : k ≡ shortest_of_eight (nodes_in n) (behind_in n)) (em : m ≡ min (length w.wholes.now) (length w.reals.now)) where
  pub verdict-is : v ≡ checked (tree_tests waiting_room (call_in S s tried d t) (rooms_in n w))
  verdict-is =
      h (call_in S s tried d t) (rooms_in n w)
      (record { shape = refl; given = refl; nodes = ek; work = record { order = refl; scratch = refl; flags = refl; waiting = sym em } })

  pub verdict-passed : (Q : Refusal → FitError → Type 0) {u : Result (Unit {0}) FitError} {x : Unit {0}} → MatchResult v (λ x. u ≡ Ok x) (λ r. IsErrAnd u (Q r)) → u ≡ Ok x
      → Ok tt ≡ checked (tree_tests waiting_room (call_in S s tried d t) (rooms_in n w))
  verdict-passed Q {u} {x} q e = sym (passed-on Q v u q x e) ∙ verdict-is
