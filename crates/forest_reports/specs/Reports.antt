-- The start table and the report columns: one tree more, and all of them. Assumes nothing.
use Rattle.std.specs.Prelude.{ℕ, suc, ◌+◌, ◌<◌, ◌≤◌, ◌≡◌, List, [], ◌∷◌, ◌++◌, map, length, get_or, set, take, drop, Ok, Err}
use Rattle.std.proofs.Common.{add-one, arith, sym, ap, ◌∙◌, subst, append_assoc, length-append, length-set, drop-cons, take-suc, length-take-le}
use Rattle.std.proofs.lemmas.List.{map-append, length-map, set_at}
use Rattle.std.specs.Float.{nan}
use Rattle.rules.specs.declared.Report.{Report}
use Rattle.rules.specs.declared.FitError.{FitError}
use Rattle.rules.specs.Results.{ForestAnswer}
use Rattle.rules.specs.Words.{front, filled}
use Rattle.rules.specs.Lent.{Reports, write_reports, zero_reports}
use Rattle.forest_build.specs.declared.GrownTree.{GrownTree}
use Rattle.forest_build.specs.Told.{Told, report_of, end_of}

-- the report columns with tree t's report
abbrev pub put_report : ℕ → Report → Reports → Reports
put_report t r p =
    record {
      nodes = set p.nodes t r.nodes;
      depth = set p.depth t r.depth;
      mass = set p.mass t r.mass;
      searches = set p.searches t r.searches;
      words = set p.words t r.words;
      thresholds = set p.thresholds t r.thresholds;
    }

-- report columns for n trees
pub record ReportsLong (n : ℕ) (p : Reports) : Type 0 where
  pub nodes : length p.nodes ≡ n
  pub depth : length p.depth ≡ n
  pub mass : length p.mass ≡ n
  pub searches : length p.searches ≡ n
  pub words : length p.words ≡ n
  pub thresholds : length p.thresholds ≡ n

-- tree t is one of those that the columns have room for
pub record NextAsks (t : ℕ) (s : List ℕ) (p : Reports) : Type 0 where
  pub trees : ℕ
  pub known : t < trees
  pub starts : t + 1 < length s
  pub reports : ReportsLong trees p

-- room for all trees
pub record AllAsk (gs : List GrownTree) (s : List ℕ) (p : Reports) : Type 0 where
  pub starts : length gs < length s
  pub reports : ReportsLong (length gs) p

-- room for as many trees as are told of
pub record TellAsks (trees : ℕ) (s : List ℕ) (p : Reports) : Type 0 where
  pub few : trees ≤ 1024
  pub starts : trees < length s
  pub reports : ReportsLong trees p

-- what grown trees, or a bad draw, leave of the start table and the report columns
pub record Left : Type 0 where
  pub answer : ForestAnswer
  pub starts : List ℕ
  pub reports : Reports

-- an answer, and what is left
abbrev pub left_of : ForestAnswer → List ℕ → Reports → Left
left_of a s p = record { answer = a; starts = s; reports = p }

-- of what the growth of the trees tells
abbrev pub leaves : ℕ → Told → List ℕ → Reports → Left
leaves trees (Err d) s p = left_of (Err (FitError.BadDraw d)) (filled 0 s) (zero_reports p)
leaves trees (Ok gs) s p = left_of (Ok tt) (front (0 ∷ map end_of (take trees gs)) s) (write_reports (map report_of (take trees gs)) p)

-- ---- one tree more

-- an entry written behind what stands at the front
front-set {ℓ} : {A : Type ℓ} (k old : List A) (x d : A) (n : ℕ) → length k ≡ n → n < length old → set (front k old) n x ≡ front (k ++ (x ∷ [])) old
front-set k old x d n e h =
    ap (λ z. set (k ++ z) n x) (ap (λ m. drop m old) e ∙ drop-cons old n d h)
    ∙ set_at k (get_or old n d) (drop (suc n) old) x n e
    ∙ sym (append_assoc k (x ∷ []) (drop (suc n) old))
    ∙ ap (λ m. (k ++ (x ∷ [])) ++ drop m old) (sym (length-append k (x ∷ []) ∙ ap (λ m. m + 1) e ∙ add-one n))

report-next : (n : ℕ) (p : Reports) (rs : List Report) (r : Report) → ReportsLong n p → length rs < n
    → put_report (length rs) r (write_reports rs p) ≡ write_reports (rs ++ (r ∷ [])) p
report-next n p rs r l h = λ i.
    record {
      nodes = one (λ (x : Report). x.nodes) p.nodes 0 l.nodes i;
      depth = one (λ (x : Report). x.depth) p.depth 0 l.depth i;
      mass = one (λ (x : Report). x.mass) p.mass nan l.mass i;
      searches = one (λ (x : Report). x.searches) p.searches 0 l.searches i;
      words = one (λ (x : Report). x.words) p.words 0 l.words i;
      thresholds = one (λ (x : Report). x.thresholds) p.thresholds 0 l.thresholds i;
    }
  where
    one : {A : Type 0} (f : Report → A) (old : List A) (d : A) → length old ≡ n → set (front (map f rs) old) (length rs) (f r) ≡ front (map f (rs ++ (r ∷ []))) old
    one f old d e = front-set (map f rs) old (f r) d (length rs) (length-map rs f) (omega (arith, e)) ∙ ap (λ z. front z old) (sym (map-append f rs (r ∷ [])))

-- ---- the loop

-- t trees are noted
pub record Noting (s₀ : List ℕ) (p₀ : Reports) (gs : List GrownTree) (t : ℕ) (s : List ℕ) (p : Reports) : Type 0 where
  pub asks : AllAsk gs s₀ p₀
  pub starts : s ≡ front (0 ∷ map end_of (take t gs)) s₀
  pub reports : p ≡ write_reports (map report_of (take t gs)) p₀
  pub starts-long : length s ≡ length s₀
  pub reports-long : ReportsLong (length gs) p

-- columns as long as they were are written by a report
report-long : (n t : ℕ) (r : Report) (p : Reports) → ReportsLong n p → ReportsLong n (put_report t r p)
report-long n t r p h =
    record {
      nodes = length-set p.nodes t r.nodes ∙ h.nodes;
      depth = length-set p.depth t r.depth ∙ h.depth;
      mass = length-set p.mass t r.mass ∙ h.mass;
      searches = length-set p.searches t r.searches ∙ h.searches;
      words = length-set p.words t r.words ∙ h.words;
      thresholds = length-set p.thresholds t r.thresholds ∙ h.thresholds;
    }

module _ (s₀ : List ℕ) (p₀ : Reports) (gs : List GrownTree) (t : ℕ) (s : List ℕ) (p : Reports) (g : Noting s₀ p₀ gs t s p) where
  module _ (h : t < length gs) where
    -- so many are noted
    noted : {A : Type 0} (f : GrownTree → A) → length (map f (take t gs)) ≡ t
    noted f = length-map (take t gs) f ∙ length-take-le t gs (omega arith)

    -- and one more
    more : {A : Type 0} (f : GrownTree → A) (x : GrownTree) → map f (take t gs) ++ (f (get_or gs t x) ∷ []) ≡ map f (take (t + 1) gs)
    more f x = sym (map-append f (take t gs) (get_or gs t x ∷ [])) ∙ ap (map f) (sym (take-suc gs t x h) ∙ ap (λ k. take k gs) (sym (add-one t)))

    pub noting-on : (x d : GrownTree) → x ≡ get_or gs t d → (s' : List ℕ) → s' ≡ set s (t + 1) x.end → (p' : Reports) → p' ≡ put_report t x.report p → Noting s₀ p₀ gs (t + 1) s' p'
    noting-on x d e s' es p' ep =
        record {
          asks = g.asks;
          starts =
              es ∙ (λ i. set (g.starts i) (t + 1) (e i).end)
              ∙ front-set (0 ∷ map end_of (take t gs)) s₀ (get_or gs t d).end 0 (t + 1) (ap suc (noted end_of) ∙ sym (add-one t)) (omega (arith, g.asks.starts))
              ∙ ap (λ l. front (0 ∷ l) s₀) (more end_of d);
          reports =
              ep ∙ (λ i. put_report (sym (noted report_of) i) (e i).report (g.reports i))
              ∙ report-next (length gs) p₀ (map report_of (take t gs)) (get_or gs t d).report g.asks.reports (subst (λ k. k < length gs) (sym (noted report_of)) h)
              ∙ ap (λ l. write_reports l p₀) (more report_of d);
          starts-long = ap length es ∙ length-set s (t + 1) x.end ∙ g.starts-long;
          reports-long = subst (ReportsLong (length gs)) (sym ep) (report-long (length gs) t x.report p g.reports-long);
        }
