-- What importances must be. No tree of a forest has more say for larger scores: two forests of as many trees, of which each two have the same normalised importances
-- when they are lent alone, have the same importances, however large the scores of the one and small those of the other. No importance of a tree stands on the other
-- side of 0 than the scores of its feature: added, they are divided by what is above 0 or by nothing. And a tree without a split gives every feature 0, by any scale. Assumes nothing.
use Rattle.std.specs.Prelude.{ℕ, zero, suc, ◌<◌, min, ◌≡◌, Bool, true, false, not, length, get_or, replicate, T, Float, Ok}
use Rattle.std.proofs.Common.{zero-add, arith, sym, ◌∙◌, subst}
use Rattle.std.proofs.Math.Path.{refl, ap}
use mathlib.Core.List.{List, [], ◌∷◌, ◌++◌, map, append-nil}
use Rattle.std.proofs.lemmas.List.{length-map, length-replicate}
use Rattle.std.proofs.Math.ListN.{get_or-map}
use Rattle.std.proofs.Math.Seq.{drop-nil}
use Rattle.std.specs.Float.{nan, binary64}
use Rattle.std.specs.Float.Ieee.{div, lt, of_bits}
use Rattle.std.specs.Float.Ieee.Fits.{and_l, and_r, eq→eqb}
use Rattle.floats.specs.Zero.{zero-div64}
use Rattle.floats.specs.Count.{lt_above}
use Rattle.floats.specs.Sign.{div-side, not-below, not-above, below-side, above-side}
use Rattle.rules.specs.declared.Scale.{Scale}
use Rattle.rules.specs.declared.Scale.TheVariants.{Normalised, ByMass}
use Rattle.rules.specs.Results.{Reply}
use Rattle.rules.specs.Words.{nought, float, from, every, front}
use Rattle.rules.specs.Lent.{Columns, Entry, Outcome, shortest, entries_at, write_entries}
use Rattle.rules.specs.Checks.{first_failed, features_in, trees_in}
use Rattle.rules.specs.Table.{is_leaf, good_tree, tree_in, ForestTable, starts_good, tree_at, trees_of, good_forest}
use Rattle.rules.specs.Reading.{reads, scored, add_scores, scores_of, sum_from, divided_if, normalised, scaled, tree_importance_tests, tree_importances}
use Rattle.rules.specs.Reading.{add_each, add_importances, forest_importance_tests, forest_importances}
use Rattle.lemmas.specs.Lists.{Every, each, every-imp, from-below}
use Rattle.lemmas.specs.Passed.{past, goes_on, none-fails}
use Rattle.lemmas.specs.Laid.{entries-written}
use Rattle.demands.specs.Means.{reads-done}

-- ---- the statements

abbrev no_columns : Columns
no_columns = record { value = []; feature = []; threshold = []; score = []; true_child = []; false_child = [] }

-- tree t of a forest, lent alone
abbrev pub alone : ForestTable → ℕ → Columns
alone F t = write_entries (tree_at F.nodes F.starts t) no_columns

-- and its own importances
abbrev pub own_importances : ℕ → ForestTable → ℕ → Outcome Reply (List Float)
own_importances features F t = tree_importances features Normalised (alone F t) (replicate features nought)

abbrev pub SameSay : Type 0
SameSay =
    (features : ℕ) (F G : ForestTable) (out : List Float)
    → (forest_importances features F out).answer ≡ Ok tt → (forest_importances features G out).answer ≡ Ok tt
    → F.trees ≡ G.trees → ((t : ℕ) → t < F.trees → own_importances features F t ≡ own_importances features G t)
    → forest_importances features F out ≡ forest_importances features G out

-- feature j's scores, added in node order
abbrev pub score_of : ℕ → Columns → ℕ → Float
score_of features c j = get_or (scores_of features (tree_in c)) j nan

-- x does not stand on the other side of 0 than s
pub record Beside (s x : Float) : Type 0 where
  pub below : T (lt s nought) → lt nought x ≡ false
  pub above : T (lt nought s) → lt x nought ≡ false

abbrev pub SameSide : Type 0
SameSide =
    (features : ℕ) (by : Scale) (c : Columns) (out : List Float) → (tree_importances features by c out).answer ≡ Ok tt → (j : ℕ)
    → Beside (score_of features c j) (get_or (tree_importances features by c out).rooms j nan)

abbrev pub NoSplit : Type 0
NoSplit =
    (features : ℕ) (by : Scale) (c : Columns) (out : List Float) → (tree_importances features by c out).answer ≡ Ok tt → Every (λ e. is_leaf e ≡ true) (tree_in c)
    → (tree_importances features by c out).rooms ≡ replicate features nought

-- ---- the same say

-- a tree's entries, written alone, are the tree
alone-read : (es : List Entry) → tree_in (write_entries es no_columns) ≡ es
unfolding tree_in
alone-read es =
    ap (entries_at (write_entries es no_columns) 0) long ∙ entries-written es no_columns es [] [] (sym (append-nil es))
  where
    one : {A : Type 0} (f : Entry → A) → length (front (map f es) []) ≡ length es
    one f = ap length (ap (λ l. map f es ++ l) (drop-nil (length (map f es))) ∙ append-nil (map f es)) ∙ length-map es f

    all : (n a b c d e f : ℕ) → a ≡ n → b ≡ n → c ≡ n → d ≡ n → e ≡ n → f ≡ n → min a (min b (min c (min d (min e f)))) ≡ n
    all n a b c d e f p₁ p₂ p₃ p₄ p₅ p₆ = omega arith

    long : shortest (write_entries es no_columns) ≡ length es
    long =
        all (length es) _ _ _ _ _ _ (one (λ (e : Entry). e.value)) (one (λ (e : Entry). e.feature)) (one (λ (e : Entry). e.threshold)) (one (λ (e : Entry). e.score))
        (one (λ (e : Entry). e.true_child)) (one (λ (e : Entry). e.false_child))

-- a good tree's own importances
own-are : (features : ℕ) (F : ForestTable) (t : ℕ) → T (features_in features) → T (good_tree features (tree_at F.nodes F.starts t))
    → (own_importances features F t).rooms ≡ normalised (scores_of features (tree_at F.nodes F.starts t))
unfolding tree_importances tree_importance_tests reads scaled
own-are features F t wide good =
    (λ i. (reads (passed i) (scaled Normalised (scores_of features (tree_in (alone F t)))) (replicate features nought)).rooms)
    ∙ ap (λ es. normalised (scores_of features es)) (alone-read (tree_at F.nodes F.starts t))
  where
    passed : first_failed (tree_importance_tests features (alone F t) (replicate features nought)) ≡ 0
    passed =
        goes_on 1 _ _ wide (goes_on 6 _ _ (eq→eqb (length-replicate features nought))
        (goes_on 8 _ _ (subst (λ es. T (good_tree features es)) (sym (alone-read (tree_at F.nodes F.starts t))) good) none-fails))

-- what a forest's checks say
record Read (features : ℕ) (F : ForestTable) (out : List Float) : Type 0 where
  passed : first_failed (forest_importance_tests features F out) ≡ 0
  wide : T (features_in features)
  good : Every (λ es. T (good_tree features es)) (trees_of F)

forest-read : (features : ℕ) (F : ForestTable) (out : List Float) → (forest_importances features F out).answer ≡ Ok tt → Read features F out
unfolding forest_importances forest_importance_tests good_forest
forest-read features F out done =
    let q = reads-done (first_failed (forest_importance_tests features F out)) _ out done in
    let (t₁, q₂) = past 0 _ _ q in let (t₂, q₃) = past 5 _ _ q₂ in let (t₃, q₄) = past 7 _ _ q₃ in
    record {
      passed = q;
      wide = and_l (features_in features) (trees_in F.trees) t₁;
      good = each (good_tree features) (trees_of F) (and_r (starts_good F) (every (good_tree features) (trees_of F)) t₃);
    }

module _ (features : ℕ) (F G : ForestTable) (wide : T (features_in features)) where
  same-adds : (l : List ℕ) → Every (λ es. T (good_tree features es)) (map (tree_at F.nodes F.starts) l) → Every (λ es. T (good_tree features es)) (map (tree_at G.nodes G.starts) l)
      → Every (λ t. own_importances features F t ≡ own_importances features G t) l → (v : List Float)
      → add_importances features v (map (tree_at F.nodes F.starts) l) ≡ add_importances features v (map (tree_at G.nodes G.starts) l)
  unfolding add_importances
  same-adds [] a b h v = refl
  same-adds (t ∷ l) a b h v =
      ap (λ x. add_importances features (add_each v x) (map (tree_at F.nodes F.starts) l))
      (sym (own-are features F t wide a.0) ∙ ap (λ (o : Outcome Reply (List Float)). o.rooms) h.0 ∙ own-are features G t wide b.0)
      ∙ same-adds l a.1 b.1 h.1 _

pub same-say : SameSay
unfolding forest_importances trees_of
same-say features F G out done done' number own =
    (λ i. reads (f.passed i) (normalised (map (λ x. div binary64 x (float F.trees)) (adds F))) out)
    ∙ (λ i. reads 0 (normalised (map (λ x. div binary64 x (float (number i))) (same i))) out)
    ∙ sym (λ i. reads (g.passed i) (normalised (map (λ x. div binary64 x (float G.trees)) (adds G))) out)
  where
    f : Read features F out
    f = forest-read features F out done

    g : Read features G out
    g = forest-read features G out done'

    adds : ForestTable → List Float
    adds H = add_importances features (replicate features nought) (trees_of H)

    same : adds F ≡ adds G
    same =
        same-adds features F G f.wide (from 0 F.trees) f.good (subst (λ n. Every (λ es. T (good_tree features es)) (map (tree_at G.nodes G.starts) (from 0 n))) (sym number) g.good)
        (every-imp _ _ (λ t b. own t (subst (λ n. t < n) (zero-add F.trees) b)) (from 0 F.trees) (from-below 0 F.trees)) (replicate features nought)
        ∙ ap (λ n. add_importances features (replicate features nought) (map (tree_at G.nodes G.starts) (from 0 n))) number

-- ---- the side of 0

beside-self : (x : Float) → Beside x x
unfolding of_bits
beside-self x = record { below = λ h. not-above x (below-side x h); above = λ h. not-below x (above-side x h) }

beside-over : (x s : Float) → T (lt nought s) → Beside x (div binary64 x s)
unfolding of_bits
beside-over x s p =
    record {
      below = λ h. not-above (div binary64 x s) (div-side binary64 true x s (below-side x h) (above-side s p));
      above = λ h. not-below (div binary64 x s) (div-side binary64 false x s (above-side x h) (above-side s p));
    }

beside-divided : (s : Float) (v : List Float) (j : ℕ) → Beside (get_or v j nan) (get_or (divided_if s v) j nan)
unfolding divided_if div
beside-divided s v j = go (lt nought s) refl
  where
    go : (b : Bool) → lt nought s ≡ b → Beside (get_or v j nan) (get_or (divided_if s v) j nan)
    go true q = rw (q, get_or-map (λ x. div binary64 x s) v j nan) (beside-over (get_or v j nan) s (subst T (sym q) tt))
    go false q = rw q (beside-self (get_or v j nan))

beside-scaled : (by : Scale) (v : List Float) (j : ℕ) → Beside (get_or v j nan) (get_or (scaled by v) j nan)
unfolding scaled normalised
beside-scaled Normalised v j = beside-divided (sum_from nought v) v j
beside-scaled (ByMass m) v j = beside-divided m v j

-- what an answer leaves
left : (features : ℕ) (by : Scale) (c : Columns) (out : List Float) → (tree_importances features by c out).answer ≡ Ok tt
    → (tree_importances features by c out).rooms ≡ scaled by (scores_of features (tree_in c))
unfolding tree_importances reads
left features by c out done =
    λ i. (reads (reads-done (first_failed (tree_importance_tests features c out)) _ out done i) (scaled by (scores_of features (tree_in c))) out).rooms

pub same-side : SameSide
same-side features by c out done j =
    subst (λ l. Beside (score_of features c j) (get_or l j nan)) (sym (left features by c out done)) (beside-scaled by (scores_of features (tree_in c)) j)

-- ---- no split

no-scores : (v : List Float) (es : List Entry) → Every (λ e. is_leaf e ≡ true) es → add_scores v es ≡ v
unfolding add_scores scored
no-scores v [] h = refl
no-scores v (e ∷ es) h = ap (λ b. add_scores (scored (not b) e v) es) h.0 ∙ no-scores v es h.1

none-divided : (s : Float) (n : ℕ) → divided_if s (replicate n nought) ≡ replicate n nought
unfolding divided_if of_bits
none-divided s n = go (lt nought s) refl
  where
    each : T (lt nought s) → (n : ℕ) → map (λ x. div binary64 x s) (replicate n nought) ≡ replicate n nought
    each p zero = refl
    each p (suc n) = λ i. zero-div64 s (lt_above s p) i ∷ each p n i

    go : (b : Bool) → lt nought s ≡ b → divided_if s (replicate n nought) ≡ replicate n nought
    go true q = rw q (each (subst T (sym q) tt) n)
    go false q = rw q refl

none-scaled : (by : Scale) (n : ℕ) → scaled by (replicate n nought) ≡ replicate n nought
unfolding scaled normalised
none-scaled Normalised n = none-divided (sum_from nought (replicate n nought)) n
none-scaled (ByMass m) n = none-divided m n

pub no-split : NoSplit
unfolding scores_of
no-split features by c out done h = left features by c out done ∙ ap (scaled by) (no-scores (replicate features nought) (tree_in c) h) ∙ none-scaled by features
