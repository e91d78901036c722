-- Demand 3. Two fits of one tree, neither refused before growth, that are alike except in the targets and features of rows that the tree leaves out, each listing
-- reading the same with those rows struck, grow the same nodes, with the same counts and masses, and report the same depth, root mass, searches and draws used, or meet the same bad draw.
-- It holds because a left-out row adds a zero, of either sign, to totals that never come to -0. Assumes nothing.
use Rattle.std.specs.Prelude.{ℕ, zero, suc, ◌+◌, ◌*◌, ◌<◌, ◌≤◌, ◌≡◌, Bool, not, ◌&&◌, ◌||◌, cond, get_or, T, ltb, Float, Ok}
use Rattle.std.proofs.Common.{mul-pos, zero-lt-suc, le_trans, zero-add, arith, ◌∙◌, subst, true≢false, leb→le, lt→ltb, nltb→le, lit≤}
use Rattle.std.proofs.Math.Path.{refl, sym, ap}
use Rattle.std.proofs.Math.Bool.{true, false}
use mathlib.Core.List.{List, [], ◌∷◌, map}
use Rattle.std.specs.Float.{nan, inf, fin, binary64}
use Rattle.std.specs.Float.Ieee.{fits, lt, add, mul, of_bits, up, down}
use Rattle.std.specs.Float.Ieee.Scale.{finite}
use Rattle.std.specs.Float.Ieee.Fits.{add-fits, mul-fits, of_int-fits, up_pos, and_l, and_r}
use Rattle.floats.specs.Zero.{is_zero, is_minus_zero, add-zero64, mul-zero64, count-zero, add-not-minus}
use Rattle.floats.specs.Count.{mass-none, mass-weightless, above-lt}
use Rattle.rules.specs.declared.Shape.{Shape}
use Rattle.rules.specs.declared.Totals.{Totals}
use Rattle.rules.specs.Words.{nought, float, from, keep}
use Rattle.rules.specs.Totals.{empty, take_in}
use Rattle.rules.specs.Lent.{Data, Given, OneTree, WaitingForm, TreeRooms, unweighted, kept, values_at, count_in, mass_in, kept_in}
use Rattle.rules.specs.Checks.{checked, good_weight}
use Rattle.rules.specs.Draws.{Out, bad, ok}
use Rattle.rules.specs.Search.{totals_of}
use Rattle.rules.specs.Listing.{order_tests}
use Rattle.rules.specs.Fit.{element_in, listing, element, column, root, Tree, grow_from, fit, TreeCall, one_tree_of, grown_tree, tree_tests, tree_done, tree_ends, fit_tree}
use Rattle.lemmas.specs.Lists.{is_true, is_false, Every, every-imp, every-at, every-or, kept-pass, map_same, every-all, from-below}
use Rattle.lemmas.specs.Tests.{goes_on, all-go-on, none_left}
use Rattle.lemmas.specs.Passed.{past-test, past_all, Passed, Framed, tree-passed, tree-framed}
use Rattle.demands.specs.Refusals.{Unrefused, tree-passes}

-- ---- the statement

-- D and E agree at the rows that are kept, and their listings read the same with the others struck
pub record Alike (F : OneTree) (D E : Data) : Type 0 where
  pub targets : (i : ℕ) → kept F i ≡ true → get_or D.targets i nan ≡ get_or E.targets i nan
  pub values : (i : ℕ) → kept F i ≡ true → values_at F.params.features D.values i ≡ values_at F.params.features E.values i
  pub listings : (j : ℕ) → keep (kept F) (listing F D j) ≡ keep (kept F) (listing F E j)

-- the same call over other features, targets and listings
abbrev pub over : TreeCall → Data → TreeCall
over C E =
    record {
      shape = C.shape;
      settings = C.settings;
      tried = C.tried;
      given = record { inputs = E; weights = C.given.weights; counts = C.given.counts };
      words = C.words;
      thresholds = C.thresholds;
    }

-- the growths are one: nodes and report, or the bad draw; so are the answers, whatever rooms were lent; and in the same rooms so is all that is left
pub record SameFit {W : Type 0} (K : WaitingForm W) (C C' : TreeCall) (R R' : TreeRooms W) : Type 0 where
  pub grown : grown_tree C ≡ grown_tree C'
  pub answers : (fit_tree K C R).answer ≡ (fit_tree K C' R').answer
  pub outcomes : fit_tree K C R ≡ fit_tree K C' R

abbrev pub Demand3 : Type 1
Demand3 =
    (W : Type 0) (K : WaitingForm W) (C : TreeCall) (E : Data) (R R' : TreeRooms W) → Alike (one_tree_of C) C.given.inputs E
    → Unrefused (fit_tree K C R).answer → Unrefused (fit_tree K (over C E) R').answer → SameFit K C (over C E) R R'

-- ---- a left-out row adds a zero

-- of what refusals 3 and 4 keep out, the part that is used
pub record Accepted (F : OneTree) (D : Data) : Type 0 where
  pub targets : (i : ℕ) → i < F.rows → T (finite (get_or D.targets i nan))
  pub weights : unweighted F.weights ≡ false → (i : ℕ) → i < F.rows → T (finite (get_or F.weights i nan)) × (lt (get_or F.weights i nan) nought ≡ false)
  pub counts : (i : ℕ) → i < F.rows → count_in F.counts i ≤ 65535

-- neither below nor above 0
nonneg-zero : (w : Float) → T (finite w) → lt w nought ≡ false → lt nought w ≡ false → T (is_zero w)
unfolding lt of_bits
nonneg-zero nan g a b = g
nonneg-zero (inf s) g a b = g
nonneg-zero (fin s zero e) g a b = tt
nonneg-zero (fin false (suc m) e) g a b = absurd (subst T b (above-lt (fin false (suc m) e) (lt→ltb 0 (suc m) (zero-lt-suc m))))
nonneg-zero (fin true (suc m) e) g a b =
    absurd (subst T a (lt→ltb 0 (suc m * up e * 1 + 0 * 1 * down e) (more (suc m * up e * 1) (0 * 1 * down e) (mul-pos (mul-pos (zero-lt-suc m) (up_pos e)) (zero-lt-suc 0)))))
  where
    more : (x y : ℕ) → 0 < x → 0 < x + y
    more x y h = omega arith

no-count : (n : ℕ) → ltb 0 n ≡ false → n ≡ 0
no-count n h = zeros n (nltb→le 0 n (subst (λ b. T (not b)) (sym h) tt))
  where
    zeros : (n : ℕ) → n ≤ 0 → n ≡ 0
    zeros n h = omega arith

mass-fits : (F : OneTree) (i : ℕ) → T (fits binary64 (mass_in F.weights F.counts i))
unfolding mass_in
mass-fits F i = go (unweighted F.weights)
  where
    go : (u : Bool) → T (fits binary64 (cond u (float (count_in F.counts i)) (mul binary64 (float (count_in F.counts i)) (get_or F.weights i nan))))
    go true = of_int-fits binary64 _
    go false = mul-fits binary64 (float (count_in F.counts i)) (get_or F.weights i nan)

mass-zero : (F : OneTree) (D : Data) → Accepted F D → (i : ℕ) → i < F.rows → kept F i ≡ false → T (is_zero (mass_in F.weights F.counts i))
unfolding kept kept_in mass_in
mass-zero F D a i h k = go (unweighted F.weights) refl (ltb 0 (count_in F.counts i)) refl (lt nought w) refl k
  where
    w : Float
    w = get_or F.weights i nan

    go : (u : Bool) → unweighted F.weights ≡ u → (n : Bool) → ltb 0 (count_in F.counts i) ≡ n → (b : Bool) → lt nought w ≡ b → (n && (u || b)) ≡ false
        → T (is_zero (cond u (float (count_in F.counts i)) (mul binary64 (float (count_in F.counts i)) w)))
    go true q true qa b qb k = absurd (true≢false k)
    go true q false qa b qb k = subst (λ n. T (is_zero (float n))) (sym (no-count (count_in F.counts i) qa)) count-zero
    go false q false qa b qb k = subst (λ n. T (is_zero (mul binary64 (float n) w))) (sym (no-count (count_in F.counts i) qa)) (mass-none w (a.weights q i h).0)
    go false q true qa true qb k = absurd (true≢false k)
    go false q true qa false qb k =
        mass-weightless (count_in F.counts i) w (le_trans (a.counts i h) (lit≤ tt)) (nonneg-zero w (a.weights q i h).0 (a.weights q i h).1 qb)

-- a number of the format, and not -0
Plain : Float → Type 0
Plain x = T (fits binary64 x) × T (not (is_minus_zero x))

plain-add : (x y : Float) → Plain x → T (fits binary64 y) → Plain (add binary64 x y)
unfolding Plain
plain-add x y p q = (add-fits binary64 x y, add-not-minus binary64 x y p.0 q p.1)

-- totals that a sweep can meet
pub Clean : Totals → Type 0
Clean t = Plain t.sum × Plain t.mass

pub clean-start : Clean empty
unfolding Clean Plain fits of_bits
clean-start = ((tt, tt), (tt, tt))

clean-on : (F : OneTree) (t : Totals) (y : Float) (i : ℕ) → Clean t → Clean (take_in t y (mass_in F.weights F.counts i))
unfolding Clean take_in
clean-on F t y i c = (
  plain-add t.sum (mul binary64 y (mass_in F.weights F.counts i)) c.0 (mul-fits binary64 y (mass_in F.weights F.counts i)),
  plain-add t.mass
      (mass_in F.weights F.counts i) c.1 (mass-fits F i),
)

pub idle : (F : OneTree) (D : Data) → Accepted F D → (t : Totals) (i : ℕ) → i < F.rows → Clean t → kept F i ≡ false → take_in t (get_or D.targets i nan) (mass_in F.weights F.counts i) ≡ t
unfolding Clean Plain take_in
idle F D a t i h c k =
    let z : T (is_zero (mass_in F.weights F.counts i)) = mass-zero F D a i h k in
    λ r.
    record {
      sum =
          add-zero64 binary64 t.sum (mul binary64 (get_or D.targets i nan) (mass_in F.weights F.counts i)) c.0.0 c.0.1
          (mul-zero64 (get_or D.targets i nan) (mass_in F.weights F.counts i) (a.targets i h) z) r;
      mass = add-zero64 binary64 t.mass (mass_in F.weights F.counts i) c.1.0 c.1.1 z r;
    }

-- ---- so the roots are one, and the growths

module _ (F : OneTree) (D E : Data) (d : Accepted F D) (e : Accepted F E) (like : Alike F D E) where
  element-same : (i : ℕ) → kept F i ≡ true → element F D i ≡ element F E i
  unfolding element element_in
  element-same i k = λ r. record { row = i; count = count_in F.counts i; mass = mass_in F.weights F.counts i; target = like.targets i k r; values = like.values i k r }

  column-same : (j : ℕ) → column F D j ≡ column F E j
  unfolding column
  column-same j =
      ap (map (element F D)) (like.listings j)
      ∙ map_same (element F D) (element F E) (keep (kept F) (listing F E j)) (every-imp _ _ (λ i k. element-same i k) (keep (kept F) (listing F E j)) (kept-pass (kept F) (listing F E j)))

  sweep-same : (t : Totals) → Clean t → (l : List ℕ) → Every (λ i. i < F.rows) l → totals_of t (map (element F D) l) ≡ totals_of t (map (element F E) l)
  unfolding totals_of element element_in
  sweep-same t c [] b = refl
  sweep-same t c (i ∷ l) b = go (kept F i) refl (λ u x. sweep-same u x l b.1)
    where
      go : (k : Bool) → kept F i ≡ k → ((u : Totals) → Clean u → totals_of u (map (element F D) l) ≡ totals_of u (map (element F E) l))
          → totals_of (take_in t (get_or D.targets i nan) (mass_in F.weights F.counts i)) (map (element F D) l) ≡ totals_of
          (take_in t (get_or E.targets i nan) (mass_in F.weights F.counts i)) (map (element F E) l)
      go true k h =
          h (take_in t (get_or D.targets i nan) (mass_in F.weights F.counts i)) (clean-on F t (get_or D.targets i nan) i c)
          ∙ ap (λ y. totals_of (take_in t y (mass_in F.weights F.counts i)) (map (element F E) l)) (like.targets i k)
      go false k h =
          ap (λ u. totals_of u (map (element F D) l)) (idle F D d t i b.0 c k) ∙ h t c ∙ ap (λ u. totals_of u (map (element F E) l)) (sym (idle F E e t i b.0 c k))

  root-same : root F D ≡ root F E
  unfolding root
  root-same =
      λ r.
      record {
        columns = map_same (column F D) (column F E) (from 0 F.params.features) (every-all _ column-same (from 0 F.params.features)) r;
        totals = sweep-same empty clean-start (from 0 F.rows) (subst (λ n. Every (λ k. k < n) (from 0 F.rows)) (zero-add F.rows) (from-below 0 F.rows)) r;
        count = (root F E).count;
      }

  pub fit_same : fit F D ≡ fit F E
  unfolding fit
  fit_same = ap (grow_from F) root-same

-- ---- over the call

-- passed checks accept
pub accepted : (S : Shape) (trees : ℕ) (G : Given) → Passed S trees G → (F : OneTree) → Framed S G F → Accepted F G.inputs
unfolding count_in good_weight
accepted S trees G p F f =
    record {
      targets = λ i h. every-at _ G.inputs.targets nan i p.targets_finite (subst (λ n. i < n) (sym p.targets_long) (below i h));
      weights = λ u i h. subst (λ ws. T (finite (get_or ws i nan)) × (lt (get_or ws i nan) nought ≡ false)) (sym f.weights_same) (weigh i (below i h) (ap unweighted (sym f.weights_same) ∙ u));
      counts = λ i h. leb→le (get_or F.counts i 0) 65535 (every-or _ F.counts 0 i f.low tt);
    }
  where
    below : (i : ℕ) → i < F.rows → i < S.rows
    below i h = subst (λ n. i < n) f.rows_same h

    weigh : (i : ℕ) → i < S.rows → unweighted G.weights ≡ false → T (finite (get_or G.weights i nan)) × (lt (get_or G.weights i nan) nought ≡ false)
    weigh i h u =
        let w : Float = get_or G.weights i nan in
        let good : T (good_weight w) = every-at _ G.weights nan i p.weights_good (subst (λ n. i < n) (sym (p.weights_long u)) h) in
        (and_l (finite w) (not (lt w nought)) good, is_false (lt w nought) (and_r (finite w) (not (lt w nought)) good))

module _ {W : Type 0} (K : WaitingForm W) where
  done-same : (o : Out Tree) (R R' : TreeRooms W) → (tree_done K o R).answer ≡ (tree_done K o R').answer
  unfolding tree_done
  done-same (bad s) R R' = refl
  done-same (ok t) R R' = refl

  -- where the one is not refused in R, nor the other in any rooms, the other is not refused in R
  passes-too : (C : TreeCall) (E : Data) (R R' : TreeRooms W) → checked (tree_tests K C R) ≡ Ok tt → checked (tree_tests K (over C E) R') ≡ Ok tt
      → checked (tree_tests K (over C E) R) ≡ Ok tt
  unfolding tree_tests one_tree_of
  passes-too C E R R' c₁ e₁ =
      let (x₁, c₂) = past-test _ _ c₁ in let (x₂, c₃) = past-test _ _ c₂ in let (x₃, c₄) = past-test _ _ c₃ in
      let (x₄, c₅) = past-test _ _ c₄ in let (x₅, c₆) = past_all (order_tests C.shape C.given.inputs.values C.given.inputs.listings) _ c₅ in let (x₆, c₇) = past-test _ _ c₆ in
      let (t₁, e₂) = past-test _ _ e₁ in let (t₂, e₃) = past-test _ _ e₂ in let (t₃, e₄) = past-test _ _ e₃ in
      let (t₄, e₅) = past-test _ _ e₄ in let (t₅, e₆) = past_all (order_tests C.shape E.values E.listings) _ e₅ in
      sym (goes_on _ _ (is_true _ t₁) (goes_on _ _ (is_true _ t₂) (goes_on _ _ (is_true _ t₃) (goes_on _ _ (is_true _ t₄)
      (all-go-on (order_tests C.shape E.values E.listings) _ t₅ (goes_on _ _ (is_true _ x₆) none_left))))))

pub demand3 : Demand3
unfolding fit_tree tree_ends grown_tree one_tree_of
demand3 W K C E R R' like h h' =
    record {
      grown = same;
      answers =
          (λ i. (tree_ends K (q i) (same i) R).answer) ∙ done-same K (grown_tree (over C E)) R R' ∙ (λ i. (tree_ends K (sym q' i) (grown_tree (over C E)) R').answer);
      outcomes = λ i. tree_ends K ((q ∙ sym (passes-too K C E R R' q q')) i) (same i) R;
    }
  where
    q : checked (tree_tests K C R) ≡ Ok tt
    q = tree-passes K C R h

    q' : checked (tree_tests K (over C E) R') ≡ Ok tt
    q' = tree-passes K (over C E) R' h'

    same : grown_tree C ≡ grown_tree (over C E)
    same =
        let p = (tree-passed K C R q).passed in
        let p' = (tree-passed K (over C E) R' q').passed in
        fit_same (one_tree_of C) C.given.inputs E
        (accepted C.shape 1 C.given p (one_tree_of C) (tree-framed C p))
        (accepted C.shape 1 (over C E).given p' (one_tree_of C) (tree-framed (over C E) p'))
        like
