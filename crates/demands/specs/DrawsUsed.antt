-- Draws used are exact. Over any tapes that begin with as many words and thresholds as a fit of one tree reports used, and the same ones, it is the same fit: what lies
-- beyond is never looked at, and may be cut off. With either cut to fewer, it is refusal 7. For more tape changes nothing (`growth-again` of crate lemmas), so a fit that
-- answers over cut tapes is the whole fit, and has used no more than they hold. No check before growth looks at a tape. Assumes nothing.
use Rattle.std.specs.Prelude.{ℕ, ◌-◌, ◌<◌, ◌≤◌, ◌≡◌, List, ◌++◌, length, take, drop, Float, Ok, Err}
use Rattle.std.proofs.Common.{le_refl, arith, ◌∙◌, subst, length-take, length-drop, take-take}
use Rattle.std.proofs.Math.Path.{refl, sym, ap}
use Rattle.std.proofs.lemmas.List.{take-append-le}
use Rattle.rules.specs.Results.{Checked, TreeAnswer}
use Rattle.rules.specs.declared.Report.{Report}
use Rattle.rules.specs.Lent.{Data, OneTree, WaitingForm, TreeRooms, Outcome, kept, kept_rows, zero_columns, zero_behind, zero_work}
use Rattle.rules.specs.Checks.{checked, room_for}
use Rattle.rules.specs.Draws.{Out, bad, ok, bind, Tapes}
use Rattle.rules.specs.Growth.{State}
use Rattle.rules.specs.Fit.{element, listing, column, root, Tree, tree_of, grow_from, fit, TreeCall, one_tree_of, grown_tree, tree_tests, tree_done, tree_ends, fit_tree}
use Rattle.rules.specs.Answers.{Told, tree_told, told}
use Rattle.lemmas.specs.Outs.{Then, then-then, then-any, then-both, then-after, then-of}
use Rattle.lemmas.specs.Tapes.{Begins, used, growth, Again, growth-again}
use Rattle.lemmas.specs.Answered.{TreeAnswered, tree-answered}
use Rattle.demands.specs.Refused.{tree-some}
use Rattle.rules.specs.declared.FitError.{FitError}

-- ---- the statements

-- the same call over other tapes
abbrev pub taped : TreeCall → List ℕ → List Float → TreeCall
taped C ws ts = record { shape = C.shape; settings = C.settings; tried = C.tried; given = C.given; words = ws; thresholds = ts }

-- over its own, cut to n words and m thresholds
abbrev pub cut_to : ℕ → ℕ → TreeCall → TreeCall
cut_to n m C = taped C (take n C.words) (take m C.thresholds)

-- a bad draw, with all rooms zero
abbrev pub Refusal7 : {W : Type 0} → WaitingForm W → TreeRooms W → Outcome TreeAnswer (TreeRooms W) → Type 0
Refusal7 K R o =
    (s : ℕ)
    × (o ≡ record {
      answer = Err (FitError.BadDraw (record { tree = 0; search = s }));
      rooms = record { nodes = zero_columns R.nodes; behind = zero_behind R.behind; work = zero_work K R.work };
    })

-- what the report r of a fit says of its tapes
pub record Exact {W : Type 0} (K : WaitingForm W) (C : TreeCall) (R : TreeRooms W) (r : Report) : Type 0 where
  pub begun : (ws : List ℕ) (ts : List Float) → Begins r.words C.words ws → Begins r.thresholds C.thresholds ts → fit_tree K (taped C ws ts) R ≡ fit_tree K C R
  pub longer : (ws : List ℕ) (ts : List Float) → fit_tree K (taped C (C.words ++ ws) (C.thresholds ++ ts)) R ≡ fit_tree K C R
  pub cut : (n m : ℕ) → r.words ≤ n → r.thresholds ≤ m → fit_tree K (cut_to n m C) R ≡ fit_tree K C R
  pub fewer_words : (n m : ℕ) → n < r.words → Refusal7 K R (fit_tree K (cut_to n m C) R)
  pub fewer_thresholds : (n m : ℕ) → m < r.thresholds → Refusal7 K R (fit_tree K (cut_to n m C) R)

abbrev pub DrawsUsed : Type 1
DrawsUsed = (W : Type 0) (K : WaitingForm W) (C : TreeCall) (R : TreeRooms W) (r : Report) → (fit_tree K C R).answer ≡ Ok r → Exact K C R r

-- a bad draw of the one tree, as it is told
abbrev pub Tells7 : {R : Type 0} → Outcome Told R → Type 0
Tells7 y = (y.answer.refusal.number ≡ 7) × (y.answer.refusal.part ≡ 0)

-- x is what a call left that told the report r, y what the call left with its tapes cut to what r says was used, or with either one shorter
pub record CutExact {W : Type 0} (K : WaitingForm W) (C : TreeCall) (R : TreeRooms W) (x : Outcome Told (TreeRooms W)) (r : Report) : Type 0 where
  pub same : (y : Outcome Told (TreeRooms W)) → y ≡ told tree_told (fit_tree K (cut_to r.words r.thresholds C) R) → y ≡ x
  pub word_less : 0 < r.words → (y : Outcome Told (TreeRooms W)) → y ≡ told tree_told (fit_tree K (cut_to (r.words - 1) r.thresholds C) R) → Tells7 y
  pub threshold_less : 0 < r.thresholds → (y : Outcome Told (TreeRooms W)) → y ≡ told tree_told (fit_tree K (cut_to r.words (r.thresholds - 1) C) R) → Tells7 y

-- of a call that told no refusal
abbrev pub CallsExact : Type 1
CallsExact =
    (W : Type 0) (K : WaitingForm W) (C : TreeCall) (R : TreeRooms W) (x : Outcome Told (TreeRooms W)) → x ≡ told tree_told (fit_tree K C R) → x.answer.refusal.number ≡ 0
    → CutExact K C R x x.answer.report

-- ---- of a fit

-- the same frame over other tapes
abbrev over : OneTree → List ℕ → List Float → OneTree
over F ws ts = record { rows = F.rows; params = F.params; weights = F.weights; counts = F.counts; words = ws; thresholds = ts }

-- it grows from the same root, and from the whole of the tapes
fit-over : (F : OneTree) (D : Data) (ws : List ℕ) (ts : List Float)
    → fit (over F ws ts) D ≡ bind (growth F.params (root F D) (record { words = ws; thresholds = ts; searches = 0 })) (λ s. ok (tree_of (over F ws ts) (root F D) s))
unfolding fit grow_from root column element listing kept_rows kept
fit-over F D ws ts = refl

-- as much is used of a tape that begins so
as_many : {A : Type 0} (l b k : List A) → Begins (used l b) l k → used k (drop (used l b) k) ≡ used l b
as_many l b k h = omega (arith, length-drop (used l b) k, length-take (used l b) k, length-take (used l b) l, ap length h)

abbrev SameOver : OneTree → Data → Tree → Type 0
SameOver F D t = (ws : List ℕ) (ts : List Float) → Begins t.report.words F.words ws → Begins t.report.thresholds F.thresholds ts → fit (over F ws ts) D ≡ ok t

pub fit-again : (F : OneTree) (D : Data) → Then (fit F D) (SameOver F D)
unfolding fit grow_from tree_of bind
fit-again F D = then-then (growth F.params (root F D) start) _ _ _ (growth-again F.params (root F D) start) again
  where
    start : Tapes
    start = record { words = F.words; thresholds = F.thresholds; searches = 0 }

    again : (s : State Tapes) → Again F.params (root F D) start s → SameOver F D (tree_of F (root F D) s)
    again s a ws ts h k =
        fit-over F D ws ts
        ∙ ap (λ m. bind m (λ s'. ok (tree_of (over F ws ts) (root F D) s'))) (a ws ts h k)
        ∙ (λ i. ok (record {
          nodes = s.nodes;
          report = record {
            nodes = length s.nodes;
            depth = s.depth;
            mass = (root F D).totals.mass;
            searches = s.left.searches;
            words = as_many F.words s.left.words ws h i;
            thresholds = as_many F.thresholds s.left.thresholds ts k i;
          };
        }))

-- no more is used than there is
abbrev pub Within : OneTree → Tree → Type 0
Within F t = (t.report.words ≤ length F.words) × (t.report.thresholds ≤ length F.thresholds)

pub fit-within : (F : OneTree) (D : Data) → Then (fit F D) (Within F)
unfolding fit grow_from tree_of
fit-within F D = then-any (growth F.params (root F D) _) _ _ (λ s. (omega arith, omega arith))

-- tapes so cut that it still answers hold all that is used
fit_cut : (F : OneTree) (D : Data) (t : Tree) → fit F D ≡ ok t → (n m : ℕ)
    → Then (fit (over F (take n F.words) (take m F.thresholds)) D) (λ u. (t.report.words ≤ n) × (t.report.thresholds ≤ m))
fit_cut F D t e n m = then-after (fit G D) _ _ (then-both (fit G D) _ _ (fit-within G D) (fit-again G D)) whole
  where
    G : OneTree
    G = over F (take n F.words) (take m F.thresholds)

    whole : (u : Tree) → Within G u × SameOver G D u → (t.report.words ≤ n) × (t.report.thresholds ≤ m)
    whole u (within, again) =
        let a : u.report.words ≤ n = omega (arith, length-take n F.words) in
        let b : u.report.thresholds ≤ m = omega (arith, length-take m F.thresholds) in
        let f : fit F D ≡ ok u = again F.words F.thresholds (sym (take-take _ n F.words a)) (sym (take-take _ m F.thresholds b)) in
        let p : u ≡ t = cc in
        subst (λ (v : Tree). (v.report.words ≤ n) × (v.report.thresholds ≤ m)) p (a, b)

-- ---- of a call

module _ {W : Type 0} (K : WaitingForm W) (C : TreeCall) (R : TreeRooms W) (t : Tree) (passed : checked (tree_tests K C R) ≡ (Ok tt)) (grew : fit (one_tree_of C) C.given.inputs ≡ ok t) where
  begins : (ws : List ℕ) (ts : List Float) → Begins t.report.words C.words ws → Begins t.report.thresholds C.thresholds ts → fit_tree K (taped C ws ts) R ≡ fit_tree K C R
  unfolding fit_tree tree_tests grown_tree one_tree_of room_for kept_rows kept
  begins ws ts h k = ap (λ o. tree_ends K (checked (tree_tests K C R)) o R) (then-of (SameOver (one_tree_of C) _) _ t grew (fit-again (one_tree_of C) _) ws ts h k ∙ sym grew)

  short : (n m : ℕ) → ((t.report.words ≤ n) × (t.report.thresholds ≤ m) → ⊥) → Refusal7 K R (fit_tree K (cut_to n m C) R)
  unfolding fit_tree tree_tests tree_ends tree_done grown_tree one_tree_of room_for kept_rows kept
  short n m never = go (grown_tree (cut_to n m C)) refl (fit_cut (one_tree_of C) C.given.inputs t grew n m)
    where
      go : (o : Out Tree) → grown_tree (cut_to n m C) ≡ o → Then o (λ u. (t.report.words ≤ n) × (t.report.thresholds ≤ m)) → Refusal7 K R (fit_tree K (cut_to n m C) R)
      go (bad s) e h = (s, λ i. tree_ends K (passed i) (e i) R)
      go (ok u) e h = absurd (never h)

pub draws-used : DrawsUsed
unfolding one_tree_of
draws-used W K C R r h =
    let a : TreeAnswered K C R r = tree-answered K C R r h in
    let t = a.tree in
    let (w, v) = then-of (Within (one_tree_of C)) _ t a.grew (fit-within (one_tree_of C) _) in
    let again = begins K C R t a.passed a.grew in
    let less = short K C R t a.passed a.grew in
    subst (Exact K C R) a.reported
    (record {
      begun = again;
      longer = λ ws ts. again (C.words ++ ws) (C.thresholds ++ ts) (take-append-le _ C.words ws w) (take-append-le _ C.thresholds ts v);
      cut = λ n m l k. again _ _ (take-take _ n C.words l) (take-take _ m C.thresholds k);
      fewer_words = λ n m l. less n m (λ (x, y). omega arith);
      fewer_thresholds = λ n m l. less n m (λ (x, y). omega arith);
    })

-- no refusal is told of a grown tree alone
told_grown : {W : Type 0} (K : WaitingForm W) (C : TreeCall) (R : TreeRooms W) → (tree_told (fit_tree K C R).answer).refusal.number ≡ 0
    → (fit_tree K C R).answer ≡ Ok (tree_told (fit_tree K C R).answer).report
unfolding fit_tree tree_ends tree_done
told_grown K C R h = go (checked (tree_tests K C R)) refl (grown_tree C) h
  where
    go : (k : Checked) → checked (tree_tests K C R) ≡ k → (o : Out Tree) → (tree_told (tree_ends K k o R).answer).refusal.number ≡ 0
        → (tree_ends K k o R).answer ≡ Ok (tree_told (tree_ends K k o R).answer).report
    go (Ok _) q (bad s) h = absurd (omega arith)
    go (Ok _) q (ok t) h = refl
    go (Err r) q o h = absurd (tree-some K C R r q h)

pub calls-exact : CallsExact
unfolding fit_tree
calls-exact W K C R x met none =
    subst (λ (z : Outcome Told (TreeRooms W)). CutExact K C R z z.answer.report) (sym met)
    (record {
      same = λ y m. m ∙ ap (told tree_told) (d.cut _ _ (le_refl _) (le_refl _));
      word_less = λ l y m. seven (m ∙ ap (told tree_told) (d.fewer_words (r.words - 1) r.thresholds (omega arith)).1);
      threshold_less = λ l y m. seven (m ∙ ap (told tree_told) (d.fewer_thresholds r.words (r.thresholds - 1) (omega arith)).1);
    })
  where
    seven : {y z : Outcome Told (TreeRooms W)} → y ≡ z → (y.answer.refusal.number ≡ z.answer.refusal.number) × (y.answer.refusal.part ≡ z.answer.refusal.part)
    seven e = ((λ i. (e i).answer.refusal.number), (λ i. (e i).answer.refusal.part))

    r : Report
    r = (tree_told (fit_tree K C R).answer).report

    d : Exact K C R r
    d = draws-used W K C R r (told_grown K C R ((λ i. (sym met i).answer.refusal.number) ∙ none))
