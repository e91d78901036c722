-- How a fit of a forest ends: from what its trees leave to the outcome of the rules. Assumes nothing.
use Rattle.std.specs.Prelude.{ℕ, min, ◌≡◌, refl, length, List, Option, Result, Ok, Err, MatchResult, IsErrAnd}
use Rattle.std.proofs.lemmas.Result.{err_from_is_err_and}
use Rattle.std.proofs.Common.{sym, ◌∙◌, subst}
use Rattle.std.proofs.Math.Path.{ap}
use Rattle.rules.specs.declared.Params.{Params}
use Rattle.rules.specs.declared.Shape.{Shape}
use Rattle.rules.specs.declared.Settings.{Settings}
use Rattle.rules.specs.declared.Input.{Input}
use Rattle.rules.specs.declared.Tapes.{Tapes}
use Rattle.rules.specs.declared.TapeStarts.{TapeStarts}
use Rattle.rules.specs.declared.NodeRoom as N
use Rattle.rules.specs.declared.ReportRoom.{ReportRoom}
use Rattle.rules.specs.declared.WorkRoom.{WorkRoom}
use Rattle.rules.specs.declared.Refusal.{Refusal}
use Rattle.rules.specs.Words.{front, filled}
use Rattle.rules.specs.Lent.{shortest_of_eight, Work, ForestRooms, WaitingRoom, waiting_room, forest_rooms_of, outcome_of, write_reports, zero_reports, zero_work}
use Rattle.rules.specs.Slices.{given_in, nodes_in, behind_in, reports_in, work_in}
use Rattle.rules.specs.Checks.{checked}
use Rattle.rules.specs.Forest.{ForestCall, forest_call, one_tree_at, each_tree, grow_trees, grown_forest, forest_tests, forest_done, forest_ends, fit_forest}
use Rattle.node_entries.specs.Entries.{NodeRoom}
use Rattle.checks.specs.declared.Lengths.{Lengths}
use Rattle.checks.specs.declared.ReportLengths.{ReportLengths}
use Rattle.checks.specs.Verdicts.{ForestHas}
use Rattle.forest_build.specs.Told.{Told}
use Rattle.forest_build.specs.Lot.{Lot, lot_of, lot_trees}
use Rattle.forest_reports.specs.Reports.{Left, leaves}
use Rattle.forest_grow.specs.Grown.{LeftBy, GrowDone}
use Rattle.forest_ready.specs.Ready.{Made, Grows, Ready}
use Rattle.forest_ready.specs.declared.Growing.{Growing}
use Rattle.rules.specs.declared.FitError.{FitError}

-- the call, as it is lent
abbrev pub call_in : Input → Tapes → TapeStarts → Shape → ℕ → Settings → Option ℕ → ForestCall
call_in d w p shape trees settings tried =
    forest_call shape trees settings tried (given_in d) w.words.now w.thresholds.now p.words.now p.thresholds.now

-- and the rooms
abbrev pub rooms_in : N.NodeRoom → List ℕ → ReportRoom → WorkRoom → ForestRooms WaitingRoom
rooms_in n starts p w = forest_rooms_of (nodes_in n) (behind_in n) starts (reports_in p) (work_in w)

-- what the trees of a call are grown from
abbrev pub lot : ForestCall → Params → Lot
lot C p =
    lot_of C.shape.rows C.shape.features p C.given.weights C.given.counts C.words C.thresholds C.word_starts C.threshold_starts C.given.inputs

-- and the node room that they are grown in
abbrev pub node_room : ForestRooms WaitingRoom → NodeRoom
node_room R = record { nodes = R.nodes; behind = R.behind }

module _ (C : ForestCall) (R : ForestRooms WaitingRoom) where
  pub fit_refused : (r : Refusal) → Err r ≡ checked (forest_tests waiting_room C R) → outcome_of (Err (FitError.Refused r)) R ≡ fit_forest waiting_room C R
  unfolding fit_forest forest_ends
  fit_refused r e = ap (λ k. forest_ends waiting_room k (grown_forest C) R) e

  trees-same : (p : Params) → Made C p → grow_trees 0 (lot_trees C.trees (lot C p)) C.given.inputs ≡ grown_forest C
  unfolding grown_forest each_tree one_tree_at
  trees-same p m = ap (λ q. grow_trees 0 (lot_trees C.trees (lot C q)) C.given.inputs) m.same

  module _ (p : Params) (m : Made C p) (c : NodeRoom) (w : Work WaitingRoom) (ew : w ≡ zero_work waiting_room R.work) where
    left_is : (told : Told) → LeftBy C.trees (lot C p) (node_room R) c told
        → (let l = leaves C.trees told R.starts R.reports in outcome_of l.answer (forest_rooms_of c.nodes c.behind l.starts l.reports w))
        ≡ forest_done waiting_room (grown_forest C) R
    unfolding forest_done
    left_is (Err d) (a, ec) =
        (λ i. outcome_of (Err (FitError.BadDraw d)) (forest_rooms_of (ec i).nodes (ec i).behind (filled 0 R.starts) (zero_reports R.reports) (ew i)))
        ∙ ap (λ f. forest_done waiting_room f R) (sym a ∙ trees-same p m)
    left_is (Ok gs) a =
        (λ i. outcome_of (Ok tt)
        (forest_rooms_of (a.nodes i).nodes (a.nodes i).behind (front (a.starts i) R.starts) (write_reports (a.reports i) R.reports) (ew i)))
        ∙ ap (λ f. forest_done waiting_room f R) (sym a.same ∙ trees-same p m)

  pub fit-finished : checked (forest_tests waiting_room C R) ≡ (Ok tt) → (p : Params) → Made C p → (c : NodeRoom) (w : Work WaitingRoom) (told : Told)
      → GrowDone C.trees (lot C p) (node_room R) c R.work w told
      → (l : Left) → l ≡ leaves C.trees told R.starts R.reports
      → outcome_of l.answer (forest_rooms_of c.nodes c.behind l.starts l.reports w) ≡ fit_forest waiting_room C R
  unfolding fit_forest forest_ends
  fit-finished e p m c w told d l el =
      (λ i. outcome_of (el i).answer (forest_rooms_of c.nodes c.behind (el i).starts (el i).reports w))
      ∙ left_is p m c w d.work told d.left
      ∙ ap (λ k. forest_ends waiting_room k (grown_forest C) R) (sym e)

-- ---- readiness, and the refusal as the fit's answer

-- what readiness comes to in the fit
abbrev pub refused : Result Growing Refusal → Result Growing FitError
refused (Ok g) = Ok g
refused (Err r) = Err (FitError.Refused r)

-- whatever the code makes of a refusal, if it is that
pub refused-is : (o : Result Growing Refusal) (m : Result Growing FitError) (Q : Refusal → FitError → Type 0) → MatchResult o (λ g. m ≡ Ok g) (λ r. IsErrAnd m (Q r))
    → ((r : Refusal) (e : FitError) → Q r e → e ≡ FitError.Refused r) → m ≡ refused o
refused-is (Ok g) m Q h s = h
refused-is (Err r) m Q h s = let (e, is, q) = err_from_is_err_and m h in is ∙ ap Err (s r e q)

-- how long the rooms are, as the checks are handed it
abbrev pub room_lengths : N.NodeRoom → WorkRoom → Lengths
room_lengths n w =
    record {
      nodes = shortest_of_eight (nodes_in n) (behind_in n);
      order = length w.order.now;
      scratch = length w.scratch.now;
      flags = length w.flags.now;
      waiting = min (length w.wholes.now) (length w.reals.now);
    }

-- and the report columns
abbrev pub report_lengths : ReportRoom → ReportLengths
report_lengths r =
    record {
      nodes = length r.nodes.now;
      depth = length r.depth.now;
      mass = length r.mass.now;
      searches = length r.searches.now;
      words = length r.words.now;
      thresholds = length r.thresholds.now;
    }

-- the call and the rooms are as long as the checks are handed
has : (d : Input) (w : Tapes) (p : TapeStarts) (shape : Shape) (trees : ℕ) (settings : Settings) (tried : Option ℕ) (n : N.NodeRoom) (starts : List ℕ) (r : ReportRoom)
    (k : WorkRoom)
    → ForestHas shape trees (given_in d) (length w.words.now) (length w.thresholds.now) p (room_lengths n k) (length starts) (report_lengths r)
    (call_in d w p shape trees settings tried) (rooms_in n starts r k)
has d w p shape trees settings tried n starts r k =
    record {
      shape = refl;
      trees = refl;
      given = refl;
      words = refl;
      thresholds = refl;
      word_starts = refl;
      threshold_starts = refl;
      nodes = refl;
      work = record { order = refl; scratch = refl; flags = refl; waiting = refl };
      starts = refl;
      reports = record { nodes = refl; depth = refl; mass = refl; searches = refl; words = refl; thresholds = refl };
    }

module _ (C : ForestCall) (R : ForestRooms WaitingRoom) where
  ready-grows : (o : Result Growing Refusal) → Ready C R o → (g : Growing) → Ok g ≡ refused o → Grows C R g
  ready-grows (Ok x) h g e = let is : x ≡ g = cc in subst (Grows C R) is h
  ready-grows (Err r) h g e = absurd cc

  ready-refused : (o : Result Growing Refusal) → Ready C R o → (e : FitError) → Err e ≡ refused o → outcome_of (Err e) R ≡ fit_forest waiting_room C R
  ready-refused (Ok x) h e is = absurd cc
  ready-refused (Err r) h e is = let same : FitError.Refused r ≡ e = cc in subst (λ z. outcome_of (Err z) R ≡ fit_forest waiting_room C R) same (fit_refused C R r h)

-- readiness is told of every call and rooms that are as long as the checks are handed, so of those that are lent
module _ (d : Input) (w : Tapes) (p : TapeStarts) (shape : Shape) (trees : ℕ) (settings : Settings) (tried : Option ℕ) (n : N.NodeRoom) (starts : List ℕ) (r : ReportRoom)
    (k : WorkRoom)
    (L : Lengths) (el : L ≡ room_lengths n k) (P : ReportLengths) (ep : P ≡ report_lengths r) (o : Result Growing Refusal)
    (h : (C : ForestCall) (R : ForestRooms WaitingRoom) → ForestHas shape trees (given_in d) (length w.words.now) (length w.thresholds.now) p L (length starts) P C R → settings
    ≡ C.settings → tried ≡ C.tried → Ready C R o) where
  told : Ready (call_in d w p shape trees settings tried) (rooms_in n starts r k) o
  told =
      h (call_in d w p shape trees settings tried) (rooms_in n starts r k)
      (subst (λ z. ForestHas shape trees (given_in d) (length w.words.now) (length w.thresholds.now) p z (length starts) P (call_in d w p shape trees settings tried)
      (rooms_in n starts r k)) (sym el)
      (subst (λ z. ForestHas shape trees (given_in d) (length w.words.now) (length w.thresholds.now) p (room_lengths n k) (length starts) z
      (call_in d w p shape trees settings tried) (rooms_in n starts r k)) (sym ep)
      (has d w p shape trees settings tried n starts r k))) refl refl

  pub grows-in : {a : Result Growing FitError} → a ≡ refused o → {g : Growing} → a ≡ Ok g → Grows (call_in d w p shape trees settings tried) (rooms_in n starts r k) g
  grows-in is {g} was = ready-grows (call_in d w p shape trees settings tried) (rooms_in n starts r k) o told g (sym was ∙ is)

  pub refused-in : {a : Result Growing FitError} → a ≡ refused o → {z : FitError} → a ≡ Err z
      → outcome_of (Err z) (rooms_in n starts r k) ≡ fit_forest waiting_room (call_in d w p shape trees settings tried) (rooms_in n starts r k)
  refused-in is {z} was = ready-refused (call_in d w p shape trees settings tried) (rooms_in n starts r k) o told z (sym was ∙ is)
