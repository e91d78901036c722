-- Draws used are exact, of a forest. Each tree of a forest fit that answers uses of its own parts of both tapes exactly what its place of the report columns says. Over
-- any tapes in which each tree's parts begin with as much, and the same, it is the same fit: so over tapes laid anew from each tree's parts, cut to what it used or longer;
-- cut to just that, the new starts in the tapes are the sums of the report columns. Where one tree's words or thresholds are cut shorter than it used, and no tree's before it,
-- it is refusal 7 at that tree, whatever is left to those after it. It holds because a forest is its trees and each looks at no more than it uses; of the checks one alone
-- asks for a tape, that of the starts in the tapes, and what is laid anew has good ones. Assumes nothing.
use Rattle.std.specs.Prelude.{ℕ, suc, ◌-◌, ◌<◌, ◌≤◌, ◌≡◌, refl, ◌≢◌, ◌&&◌, get_or, set, take, leb, Float, Ok, Err}
use Rattle.std.proofs.Common.{le_refl, zero-add, arith, ap, ◌∙◌, take-take, length-take-le, get_or-set_same, get_or-set_other, ext_get_or}
use Rattle.std.proofs.Math.Path.{sym, subst}
use mathlib.Core.List.{List, [], ◌∷◌, map, flatten}
use Rattle.std.proofs.Math.ListN.{length, get_or-map}
use Rattle.std.proofs.lemmas.List.{length-map}
use Rattle.std.proofs.Math.Dec.{T}
use Rattle.std.specs.Float.Ieee.Fits.{and_l, and_i}
use Rattle.rules.specs.declared.Refusal.{Refusal}
use Rattle.rules.specs.Results.{Checked, ForestAnswer}
use Rattle.rules.specs.declared.Report.{Report}
use Rattle.rules.specs.declared.Place.{Place}
use Rattle.rules.specs.Words.{from, front, filled, total}
use Rattle.rules.specs.Lent.{Data, OneTree, Reports, WaitingForm, TreeRooms, ForestRooms, Outcome, kept, kept_rows, shortest_of_eight, zero_columns, zero_behind, zero_reports, zero_work}
use Rattle.rules.specs.Checks.{numbered, checked, lengths, good_tape_starts, room_for}
use Rattle.rules.specs.Listing.{order_tests}
use Rattle.rules.specs.Fit.{Tree, fit, one_tree_of, fit_tree}
use Rattle.rules.specs.Forest.{ForestCall, forest_call, part, one_tree_at, each_tree, Forest, stopped, grown_all, next_tree, grow_trees, grown_forest, tapes_good, rooms_good, forest_tests, forest_done, forest_ends, fit_forest}
use Rattle.rules.specs.Answers.{forest_told, told}
use Rattle.lemmas.specs.Lists.{is_true, Every, every-imp, from-below, drop-take, total-map, length_from, get_d-from}
use Rattle.lemmas.specs.Outs.{then-of}
use Rattle.lemmas.specs.Tapes.{Begins}
use Rattle.lemmas.specs.Passed.{past-test, past_all}
use Rattle.lemmas.specs.Tests.{goes_on, all-go-on, none_left}
use Rattle.lemmas.specs.Laid.{front_length}
use Rattle.lemmas.specs.Answered.{TreeAnswered, tree-answered, ForestAnswered, forest-answered, forest-right, trees-length}
use Rattle.demands.specs.Pieces.{sums, cuts_of, piece-at, tape-starts-good}
use Rattle.demands.specs.Numbers.{columns-long}
use Rattle.demands.specs.ItsTrees.{between, tree_call_at, report_at, own_rooms, frame_same, its-trees, tree-alone}
use Rattle.demands.specs.Refusals.{ForestUnrefused, forest-passes}
use Rattle.demands.specs.Refused.{forest-some}
use Rattle.demands.specs.FirstBad.{first-bad-alone}
use Rattle.demands.specs.DrawsUsed.{cut_to, Refusal7, Exact, fit-again, Within, fit-within, draws-used}
use Rattle.rules.specs.declared.FitError.{FitError}

-- ---- the statements

-- each tree alone, in any rooms that are not too small
abbrev pub EachExact : Type 1
EachExact =
    (W X : Type 0) (K : WaitingForm W) (L : WaitingForm X) (C : ForestCall) (R : ForestRooms W) → (fit_forest K C R).answer ≡ Ok tt
    → (t : ℕ) → t < C.trees → (Q : TreeRooms X) → (fit_tree L (tree_call_at C t) Q).answer ≢ Err (FitError.Refused (numbered 6))
    → Exact L (tree_call_at C t) Q (report_at (fit_forest K C R).rooms.reports t)

-- tree t's parts of both tapes
abbrev pub words_at : ForestCall → ℕ → List ℕ
words_at C t = (tree_call_at C t).words

abbrev pub thresholds_at : ForestCall → ℕ → List Float
thresholds_at C t = (tree_call_at C t).thresholds

-- the same call over other tapes
abbrev pub retaped : ForestCall → List ℕ → List Float → List ℕ → List ℕ → ForestCall
retaped C ws ts word_starts threshold_starts = forest_call C.shape C.trees C.settings C.tried C.given ws ts word_starts threshold_starts

-- of each part as many as place t of ns says
abbrev pub shortened : {A : Type 0} → ℕ → List ℕ → (ℕ → List A) → List (List A)
shortened trees ns part = map (λ t. take (get_or ns t 0) (part t)) (from 0 trees)

-- over tapes laid anew from each tree's parts, cut to ns words and ms thresholds
abbrev pub forest_cut : List ℕ → List ℕ → ForestCall → ForestCall
forest_cut ns ms C =
    let ws = shortened C.trees ns (words_at C) in
    let ts = shortened C.trees ms (thresholds_at C) in
    retaped C (flatten ws) (flatten ts) (cuts_of ws) (cuts_of ts)

-- each tree's parts begin with what it used, and the same
abbrev pub Begun : Reports → ForestCall → ForestCall → Type 0
Begun c C E =
    (t : ℕ) → t < C.trees
    → Begins (get_or c.words t 0) (words_at C t) (words_at E t) × Begins (get_or c.thresholds t 0) (thresholds_at C t) (thresholds_at E t)

-- at least what was used, of the first n trees
abbrev pub Enough : ℕ → List ℕ → List ℕ → Type 0
Enough n used ns = (t : ℕ) → t < n → get_or used t 0 ≤ get_or ns t 0

-- a bad draw at tree t, with all rooms zero
abbrev pub BadAt : {W : Type 0} → WaitingForm W → ForestRooms W → ℕ → Outcome ForestAnswer (ForestRooms W) → Type 0
BadAt K R t o =
    (s : ℕ)
    × (o ≡ record {
      answer = Err (FitError.BadDraw (record { tree = t; search = s }));
      rooms = record {
        nodes = zero_columns R.nodes;
        behind = zero_behind R.behind;
        starts = filled 0 R.starts;
        reports = zero_reports R.reports;
        work = zero_work K R.work;
      };
    })

-- what the report columns c of a fit say of its tapes
pub record ForestExact {W : Type 0} (K : WaitingForm W) (C : ForestCall) (R : ForestRooms W) (c : Reports) : Type 0 where
  pub begun : (ws : List ℕ) (ts : List Float) (word_starts threshold_starts : List ℕ) → T (tapes_good (retaped C ws ts word_starts threshold_starts)) → Begun c C
      (retaped C ws ts word_starts threshold_starts)
      → fit_forest K (retaped C ws ts word_starts threshold_starts) R ≡ fit_forest K C R
  pub cut : (ns ms : List ℕ) → Enough C.trees c.words ns → Enough C.trees c.thresholds ms → fit_forest K (forest_cut ns ms C) R ≡ fit_forest K C R
  pub fewer_words : (ns ms : List ℕ) (t : ℕ) → t < C.trees → Enough t c.words ns → Enough t c.thresholds ms → get_or ns t 0 < get_or c.words t 0
      → BadAt K R t (fit_forest K (forest_cut ns ms C) R)
  pub fewer_thresholds : (ns ms : List ℕ) (t : ℕ) → t < C.trees → Enough t c.words ns → Enough t c.thresholds ms → get_or ms t 0 < get_or c.thresholds t 0
      → BadAt K R t (fit_forest K (forest_cut ns ms C) R)
  pub word_starts : (ms : List ℕ) → (forest_cut c.words ms C).word_starts ≡ 0 ∷ sums 0 c.words
  pub threshold_starts : (ns : List ℕ) → (forest_cut ns c.thresholds C).threshold_starts ≡ 0 ∷ sums 0 c.thresholds

abbrev pub ForestDraws : Type 1
ForestDraws =
    (W : Type 0) (K : WaitingForm W) (C : ForestCall) (R : ForestRooms W) → (fit_forest K C R).answer ≡ Ok tt → ForestExact K C R (fit_forest K C R).rooms.reports

-- one less at place t
abbrev pub less_at : ℕ → List ℕ → List ℕ
less_at t ns = set ns t (get_or ns t 0 - 1)

-- refusal 7 at tree t, as it is told
abbrev pub ToldBad : {W : Type 0} → ℕ → Outcome Refusal (ForestRooms W) → Type 0
ToldBad t y = (y.answer.number ≡ 7) × (y.answer.part ≡ t)

-- x is what a call left, the columns c among it, y what the call left with its tapes cut to what c says was used, or with one tree's words or thresholds one shorter
pub record ForestCutExact {W : Type 0} (K : WaitingForm W) (C : ForestCall) (R : ForestRooms W) (x : Outcome Refusal (ForestRooms W)) (c : Reports) : Type 0 where
  pub same : (y : Outcome Refusal (ForestRooms W)) → y ≡ told forest_told (fit_forest K (forest_cut c.words c.thresholds C) R) → y ≡ x
  pub word_less : (t : ℕ) → t < C.trees → 0 < get_or c.words t 0
      → (y : Outcome Refusal (ForestRooms W)) → y ≡ told forest_told (fit_forest K (forest_cut (less_at t c.words) c.thresholds C) R) → ToldBad t y
  pub threshold_less : (t : ℕ) → t < C.trees → 0 < get_or c.thresholds t 0
      → (y : Outcome Refusal (ForestRooms W)) → y ≡ told forest_told (fit_forest K (forest_cut c.words (less_at t c.thresholds) C) R) → ToldBad t y

-- of a call that told no refusal
abbrev pub ForestCallsExact : Type 1
ForestCallsExact =
    (W : Type 0) (K : WaitingForm W) (C : ForestCall) (R : ForestRooms W) (x : Outcome Refusal (ForestRooms W)) → x ≡ told forest_told (fit_forest K C R) → x.answer.number ≡ 0
    → ForestCutExact K C R x x.rooms.reports

-- ---- each tree

pub each-exact : EachExact
each-exact W X K L C R g t h Q n = draws-used X L (tree_call_at C t) Q _ (its-trees W X K L C R g t h Q n).answer

-- ---- what is laid anew

module _ {A : Type 0} (trees : ℕ) (ns : List ℕ) (p : ℕ → List A) where
  abbrev pieces : List (List A)
  pieces = shortened trees ns p

  as_many : length pieces ≡ trees
  as_many = length-map (from 0 trees) (λ t. take (get_or ns t 0) (p t)) ∙ length_from 0 trees

  -- its table is good
  good-anew : T (good_tape_starts trees (length (flatten pieces)) (cuts_of pieces))
  good-anew = subst (λ n. T (good_tape_starts n (length (flatten pieces)) (cuts_of pieces))) as_many (tape-starts-good pieces)

  piece : (t : ℕ) → t < trees → get_or pieces t [] ≡ take (get_or ns t 0) (p t)
  piece t h = get_d-from (λ t. take (get_or ns t 0) (p t)) 0 trees t [] h ∙ ap (λ t. take (get_or ns t 0) (p t)) (zero-add t)

  -- and a tree's part of it is that tree's part cut
  own-part : (t : ℕ) → t < trees → between (get_or (cuts_of pieces) t 0) (get_or (cuts_of pieces) (suc t) 0) (flatten pieces) ≡ take (get_or ns t 0) (p t)
  unfolding part
  own-part t h =
      drop-take (get_or (cuts_of pieces) t 0) (get_or (cuts_of pieces) (suc t) 0) (flatten pieces)
      ∙ piece-at pieces t (subst (λ n. t < n) (sym as_many) h)
      ∙ piece t h

  begins-anew : (t : ℕ) → t < trees → (n : ℕ) → n ≤ get_or ns t 0 → Begins n (p t) (between (get_or (cuts_of pieces) t 0) (get_or (cuts_of pieces) (suc t) 0) (flatten pieces))
  begins-anew t h n l = ap (take n) (own-part t h) ∙ take-take n (get_or ns t 0) (p t) l

  -- where each part is long enough, the table is made of ns alone
  sums-anew : length ns ≡ trees → ((t : ℕ) → t < trees → get_or ns t 0 ≤ length (p t)) → cuts_of pieces ≡ 0 ∷ sums 0 ns
  sums-anew n long = ap (λ l. 0 ∷ sums 0 l) (ext_get_or 0 (map length pieces) ns (many ∙ sym n) (λ t h. size t (subst (λ k. t < k) many h)))
    where
      many : length (map length pieces) ≡ trees
      many = length-map pieces length ∙ as_many

      size : (t : ℕ) → t < trees → get_or (map length pieces) t 0 ≡ get_or ns t 0
      size t h = get_or-map length pieces t [] ∙ ap length (piece t h) ∙ length-take-le (get_or ns t 0) (p t) (long t h)

call-cut : (C : ForestCall) (ns ms : List ℕ) (t : ℕ) → t < C.trees → tree_call_at (forest_cut ns ms C) t ≡ cut_to (get_or ns t 0) (get_or ms t 0) (tree_call_at C t)
call-cut C ns ms t h =
    λ i.
    record {
      shape = (tree_call_at C t).shape;
      settings = (tree_call_at C t).settings;
      tried = (tree_call_at C t).tried;
      given = (tree_call_at C t).given;
      words = own-part C.trees ns (words_at C) t h i;
      thresholds = own-part C.trees ms (thresholds_at C) t h i;
    }

cut-good : (C : ForestCall) (ns ms : List ℕ) → T (tapes_good (forest_cut ns ms C))
unfolding tapes_good
cut-good C ns ms =
    let new = forest_cut ns ms C in
    and_i (good_tape_starts C.trees (length new.words) new.word_starts) (good_tape_starts C.trees (length new.thresholds) new.threshold_starts)
    (good-anew C.trees ns (words_at C)) (good-anew C.trees ms (thresholds_at C))

-- ---- other tapes are not refused before growth

done-unrefused : {W : Type 0} (K : WaitingForm W) (f : Forest) (R : ForestRooms W) → ForestUnrefused (forest_done K f R).answer
unfolding forest_done
done-unrefused K (stopped d) R = tt
done-unrefused K (grown_all ts) R = tt

module _ {W : Type 0} (K : WaitingForm W) (C : ForestCall) (R : ForestRooms W) (q : checked (forest_tests K C R) ≡ (Ok tt)) (ws : List ℕ) (ts : List Float) (word_starts threshold_starts : List ℕ)
    (good : T (tapes_good (retaped C ws ts word_starts threshold_starts))) where
  abbrev new : ForestCall
  new = retaped C ws ts word_starts threshold_starts

  still-passes : checked (forest_tests K new R) ≡ Ok tt
  unfolding forest_tests rooms_good each_tree one_tree_at room_for kept_rows kept
  still-passes =
      let (t₁, q₂) = past-test _ _ q in let (t₂, q₃) = past-test _ _ q₂ in let (t₃, q₄) = past-test _ _ q₃ in
      let (t₄, q₅) = past-test _ _ q₄ in let (t₅, q₆) = past_all _ _ q₅ in let (t₆, q₇) = past-test _ _ q₆ in
      let n = lengths C.shape C.trees C.given in
      sym (goes_on _ _ (is_true _ t₁) (goes_on _ _ (is_true _ (and_i n (tapes_good new) (and_l n (tapes_good C) t₂) good)) (goes_on _ _ (is_true _ t₃) (goes_on _ _ (is_true _ t₄)
      (all-go-on (order_tests C.shape C.given.inputs.values C.given.inputs.listings) _ t₅
      (goes_on _ _ (is_true _ (subst (λ k. T (leb k (shortest_of_eight R.nodes R.behind) && rooms_good K C R)) rooms t₆)) none_left))))))
    where
      rooms : total room_for (each_tree C) ≡ total room_for (each_tree new)
      rooms = total-map room_for (one_tree_at C) (from 0 C.trees) ∙ sym (total-map room_for (one_tree_at new) (from 0 C.trees))

  still-unrefused : ForestUnrefused (fit_forest K new R).answer
  unfolding fit_forest forest_ends
  still-unrefused = subst (λ n. ForestUnrefused (forest_ends K n (grown_forest new) R).answer) (sym still-passes) (done-unrefused K (grown_forest new) R)

-- ---- a bad draw leaves all rooms zero

all-zero : {W : Type 0} (K : WaitingForm W) (R : ForestRooms W) (d : Place) (k : Checked) (f : Forest) → (forest_ends K k f R).answer ≡ Err (FitError.BadDraw d)
    → forest_ends K k f R ≡ forest_done K (stopped d) R
unfolding forest_ends forest_done
all-zero K R d (Ok _) (stopped e) h = λ i. record { answer = h i; rooms = (forest_done K (stopped e) R).rooms }
all-zero K R d (Ok _) (grown_all ts) h = let z : ◌≡◌ {A = ℕ} 0 1 = cc in absurd (omega arith)
all-zero K R d (Err r) f h = let z : ◌≡◌ {A = ℕ} 0 1 = cc in absurd (omega arith)

-- ---- growth, tree after tree

grow-same : (F G : ℕ → OneTree) (D : Data) (k : ℕ) (l : List ℕ) → Every (λ t. fit (F t) D ≡ fit (G t) D) l → grow_trees k (map F l) D ≡ grow_trees k (map G l) D
unfolding grow_trees
grow-same F G D k [] h = refl
grow-same F G D k (t ∷ l) h = λ i. next_tree k (h.0 i) (grow-same F G D (suc k) l h.1 i)

module _ {W : Type 0} (K : WaitingForm W) (C : ForestCall) (R : ForestRooms W) (g : (fit_forest K C R).answer ≡ (Ok tt)) where
  abbrev columns : Reports
  columns = (fit_forest K C R).rooms.reports

  passed : checked (forest_tests K C R) ≡ Ok tt
  passed = forest-passes K C R (subst ForestUnrefused (sym g) tt)

  answered : (t : ℕ) → t < C.trees → TreeAnswered K (tree_call_at C t) (own_rooms R) (report_at columns t)
  answered t h = tree-answered K (tree_call_at C t) (own_rooms R) _ (tree-alone K C R g t h).answer

  exact-begun : (ws : List ℕ) (ts : List Float) (word_starts threshold_starts : List ℕ) → T (tapes_good (retaped C ws ts word_starts threshold_starts)) → Begun columns C
      (retaped C ws ts word_starts threshold_starts)
      → fit_forest K (retaped C ws ts word_starts threshold_starts) R ≡ fit_forest K C R
  unfolding fit_forest grown_forest each_tree one_tree_of
  exact-begun ws ts word_starts threshold_starts good b =
      λ i. forest_ends K ((still-passes K C R passed ws ts word_starts threshold_starts good ∙ sym passed) i)
      (grow-same (one_tree_at E) (one_tree_at C) D 0 (from 0 C.trees) (every-imp _ _ (λ t h. same t (omega (arith, h))) (from 0 C.trees) (from-below 0 C.trees)) i) R
    where
      E : ForestCall
      E = retaped C ws ts word_starts threshold_starts

      D : Data
      D = C.given.inputs

      same : (t : ℕ) → t < C.trees → fit (one_tree_at E t) D ≡ fit (one_tree_at C t) D
      same t h =
          let a = answered t h in
          let F : OneTree = one_tree_of (tree_call_at C t) in
          let (w, v) = subst (λ (r : Report). Begins r.words F.words (words_at E t) × Begins r.thresholds F.thresholds (thresholds_at E t)) (sym a.reported) (b t h) in
          (λ i. fit (sym (frame_same E t) i) D) ∙ then-of _ (fit F D) a.tree a.grew (fit-again F D) _ _ w v ∙ sym a.grew ∙ (λ i. fit (frame_same C t i) D)

  exact-cut : (ns ms : List ℕ) → Enough C.trees columns.words ns → Enough C.trees columns.thresholds ms → fit_forest K (forest_cut ns ms C) R ≡ fit_forest K C R
  exact-cut ns ms l m =
      exact-begun _ _ _ _ (cut-good C ns ms) (λ t h. (begins-anew C.trees ns (words_at C) t h _ (l t h), begins-anew C.trees ms (thresholds_at C) t h _ (m t h)))

  alone : (t : ℕ) → t < C.trees → Exact K (tree_call_at C t) (own_rooms R) (report_at columns t)
  alone t h = draws-used W K (tree_call_at C t) (own_rooms R) _ (tree-alone K C R g t h).answer

  -- where tree t so cut meets a bad draw, and those before it have enough
  short : (ns ms : List ℕ) (t : ℕ) → t < C.trees → Enough t columns.words ns → Enough t columns.thresholds ms
      → Refusal7 K (own_rooms R) (fit_tree K (cut_to (get_or ns t 0) (get_or ms t 0) (tree_call_at C t)) (own_rooms R)) → BadAt K R t (fit_forest K (forest_cut ns ms C) R)
  unfolding fit_forest forest_done
  short ns ms t h l m (s, e) = (s, all-zero K R _ (checked (forest_tests K (forest_cut ns ms C) R)) (grown_forest (forest_cut ns ms C)) meets)
    where
      meets : (fit_forest K (forest_cut ns ms C) R).answer ≡ Err (FitError.BadDraw (record { tree = t; search = s }))
      meets =
          (first-bad-alone W K (forest_cut ns ms C) R (still-unrefused K C R passed _ _ _ _ (cut-good C ns ms)) t s).1
          (record {
            inside = h;
            met = (λ i. (fit_tree K (call-cut C ns ms t h i) (own_rooms R)).answer) ∙ (λ i. (e i).answer);
            before = λ u b. let k : u < C.trees = omega (arith, b, h) in (
              report_at columns u,
              (λ i. (fit_tree K (call-cut C ns ms u k i) (own_rooms R)).answer) ∙ (λ i. ((alone u k).cut _ _ (l u b) (m u b) i).answer) ∙ (tree-alone K C R g u k).answer,
            );
          })

  -- no tree uses more than it has
  within : (t : ℕ) → t < C.trees → (get_or columns.words t 0 ≤ length (words_at C t)) × (get_or columns.thresholds t 0 ≤ length (thresholds_at C t))
  unfolding one_tree_of
  within t h =
      let a = answered t h in
      subst (λ (r : Report). (r.words ≤ length (words_at C t)) × (r.thresholds ≤ length (thresholds_at C t))) a.reported
      (then-of (Within (one_tree_of (tree_call_at C t))) _ a.tree a.grew (fit-within (one_tree_of (tree_call_at C t)) C.given.inputs))

  -- the columns have a place a tree
  long : (length columns.words ≡ C.trees) × (length columns.thresholds ≡ C.trees)
  long =
      let (n, w, v) = columns-long C.trees R.reports (forest-right K C R a).reports in (
        (λ i. length (a.after i).reports.words) ∙ one (λ r. r.words) R.reports.words w,
        (λ i. length (a.after i).reports.thresholds) ∙ one (λ r. r.thresholds) R.reports.thresholds v,
      )
    where
      a : ForestAnswered K C R
      a = forest-answered K C R g

      reports : List Report
      reports = map (λ (u : Tree). u.report) a.trees

      one : (f : Report → ℕ) (old : List ℕ) → length old ≡ C.trees → length (front (map f reports) old) ≡ C.trees
      one f old e =
          front_length (map f reports) old (omega (arith, e, length-map reports f, length-map a.trees (λ (u : Tree). u.report), trees-length K C R a)) ∙ e

pub forest-draws : ForestDraws
forest-draws W K C R g =
    record {
      begun = exact-begun K C R g;
      cut = exact-cut K C R g;
      fewer_words = λ ns ms t h l m b. short K C R g ns ms t h l m ((alone K C R g t h).fewer_words (get_or ns t 0) (get_or ms t 0) b);
      fewer_thresholds = λ ns ms t h l m b. short K C R g ns ms t h l m ((alone K C R g t h).fewer_thresholds (get_or ns t 0) (get_or ms t 0) b);
      word_starts = λ ms. sums-anew C.trees (columns K C R g).words (words_at C) (long K C R g).0 (λ t h. (within K C R g t h).0);
      threshold_starts = λ ns. sums-anew C.trees (columns K C R g).thresholds (thresholds_at C) (long K C R g).1 (λ t h. (within K C R g t h).1);
    }

-- no refusal is told of a grown forest alone
told_grown : {W : Type 0} (K : WaitingForm W) (C : ForestCall) (R : ForestRooms W) → (forest_told (fit_forest K C R).answer).number ≡ 0 → (fit_forest K C R).answer ≡ Ok tt
unfolding fit_forest forest_ends forest_done
told_grown K C R h = go (checked (forest_tests K C R)) refl (grown_forest C) h
  where
    go : (k : Checked) → checked (forest_tests K C R) ≡ k → (f : Forest) → (forest_told (forest_ends K k f R).answer).number ≡ 0 → (forest_ends K k f R).answer ≡ Ok tt
    go (Ok _) q (stopped d) h = absurd (omega arith)
    go (Ok _) q (grown_all ts) h = refl
    go (Err r) q f h = absurd (forest-some K C R r q h)

-- one less than there is at place t, and as many elsewhere
less-there : (ns : List ℕ) (t : ℕ) → t < length ns → 0 < get_or ns t 0 → get_or (less_at t ns) t 0 < get_or ns t 0
less-there ns t h l = subst (λ n. n < get_or ns t 0) (sym (get_or-set_same ns t (get_or ns t 0 - 1) 0 h)) (omega arith)

less-before : (ns : List ℕ) (t : ℕ) → Enough t ns (less_at t ns)
less-before ns t u h = subst (λ n. get_or ns u 0 ≤ n) (sym (get_or-set_other ns t u (get_or ns t 0 - 1) 0 (λ e. omega (arith, e, h)))) (le_refl _)

pub forest-calls-exact : ForestCallsExact
unfolding fit_forest
forest-calls-exact W K C R x met none =
    subst (λ (z : Outcome Refusal (ForestRooms W)). ForestCutExact K C R z z.rooms.reports) (sym met)
    (record {
      same = λ y m. m ∙ ap (told forest_told) (d.cut c.words c.thresholds (λ t h. le_refl _) (λ t h. le_refl _));
      word_less = λ t h l y m.
          bad (d.fewer_words (less_at t c.words) c.thresholds t h (less-before c.words t) (λ u b. le_refl _)
          (less-there c.words t (subst (λ n. t < n) (sym (long K C R g).0) h) l)) m;
      threshold_less = λ t h l y m.
          bad (d.fewer_thresholds c.words (less_at t c.thresholds) t h (λ u b. le_refl _) (less-before c.thresholds t)
          (less-there c.thresholds t (subst (λ n. t < n) (sym (long K C R g).1) h) l)) m;
    })
  where
    c : Reports
    c = (fit_forest K C R).rooms.reports

    g : (fit_forest K C R).answer ≡ Ok tt
    g = told_grown K C R ((λ i. (sym met i).answer.number) ∙ none)

    d : ForestExact K C R c
    d = forest-draws W K C R g

    bad : {t : ℕ} {o : Outcome ForestAnswer (ForestRooms W)} {y : Outcome Refusal (ForestRooms W)} → BadAt K R t o → y ≡ told forest_told o → ToldBad t y
    bad (s, e) m = ((λ i. (m i).answer.number) ∙ (λ i. (forest_told (e i).answer).number), (λ i. (m i).answer.part) ∙ (λ i. (forest_told (e i).answer).part))
