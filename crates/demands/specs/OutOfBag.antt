-- Demand 3's corollary. Two forest fits that both answer and differ in one row's target alone give that row the same out-of-bag mean, read with the fits' own
-- counts and features; neither reading is refused. It holds because the trees that the mean is taken over leave the row out. Assumes nothing.
use Prim.Native.Nat.{ℕ, zero, suc, ◌+◌, ◌*◌, ◌<◌, ◌≤◌}
use Rattle.std.proofs.Common.{mul-pos, zero-add, sym, ◌∙◌, subst, get_or-take, lt→ltb, le→leb, Ok}
use Rattle.std.specs.Prelude.{◌≡◌, ◌≢◌, Bool, ◌&&◌, ◌||◌, length, drop, T, eqb, Float}
use Rattle.std.proofs.Math.Path.{refl, ap}
use Rattle.std.proofs.Math.Bool.{true, false, true≢false}
use mathlib.Core.List.{List, [], ◌∷◌, map}
use Rattle.std.proofs.Math.ListN.{get_or}
use Rattle.std.proofs.Math.Seq.{get_or-drop}
use Rattle.std.proofs.Math.Dec.{ltb, eqb→eq, eqb_refl}
use Rattle.std.specs.Float.Ieee.{nan, lt}
use Rattle.std.specs.Float.Ieee.Fits.{and_i}
use Rattle.rules.specs.Results.{Reply}
use Rattle.rules.specs.Words.{nought, from, put_if}
use Rattle.rules.specs.Lent.{WaitingForm, ForestRooms, Outcome, values_at, unweighted, kept, count_in, kept_in}
use Rattle.rules.specs.Checks.{first_failed}
use Rattle.rules.specs.Draws.{Out, bad, ok}
use Rattle.rules.specs.Fit.{listing, Tree, fit, entries}
use Rattle.rules.specs.Table.{trees_of}
use Rattle.rules.specs.Reading.{mean_of, reads}
use Rattle.rules.specs.Forest.{ForestCall, one_tree_at, each_tree, starts_from, fit_forest}
use Rattle.rules.specs.OutOfBag.{out_trees, out_of_bag_mean, out_tests, out_of_bag_means}
use Rattle.lemmas.specs.Lists.{get_d-from}
use Rattle.lemmas.specs.Passed.{goes_on, none-fails, Passed, ForestPassed, forest-framed, Binary64}
use Rattle.lemmas.specs.Laid.{front_length}
use Rattle.lemmas.specs.Written.{tables, trees-written, starts-length}
use Rattle.lemmas.specs.Answered.{Grew, ForestAnswered, forest-answered, forest-right, trees-length}
use Rattle.demands.specs.LeftOut.{accepted, fit_same}
use Rattle.demands.specs.Walks.{table_after, forest-good}

-- ---- the statement

-- the same call with other targets
abbrev pub retarget : ForestCall → List Float → ForestCall
retarget C ys =
    record {
      shape = C.shape;
      trees = C.trees;
      settings = C.settings;
      tried = C.tried;
      given = record {
        inputs = record { values = C.given.inputs.values; targets = ys; listings = C.given.inputs.listings };
        weights = C.given.weights;
        counts = C.given.counts;
      };
      words = C.words;
      thresholds = C.thresholds;
      word_starts = C.word_starts;
      threshold_starts = C.threshold_starts;
    }

-- the targets agree but at row i
abbrev pub ButOne : ℕ → List Float → List Float → Type 0
ButOne i ys zs = (k : ℕ) → k ≢ i → get_or ys k nan ≡ get_or zs k nan

-- the out-of-bag means of a fit's own table, counts and features
abbrev pub own_means : {W : Type 0} → WaitingForm W → ForestCall → ForestRooms W → List Float → Outcome Reply (List Float)
own_means K C R out =
    out_of_bag_means C.shape C.given.inputs.values C.given.counts (table_after C (fit_forest K C R).rooms) out

pub record SameMean (i : ℕ) (m m' : Outcome Reply (List Float)) : Type 0 where
  pub done : m.answer ≡ Ok tt
  pub done' : m'.answer ≡ Ok tt
  pub mean : get_or m.rooms i nan ≡ get_or m'.rooms i nan

abbrev pub OwnTarget : Type 1
OwnTarget =
    (W : Type 0) (K : WaitingForm W) (C : ForestCall) (ys : List Float) (i : ℕ) → i < C.shape.rows → ButOne i C.given.inputs.targets ys
    → Binary64 C.given.inputs.values → (R R' : ForestRooms W) → (fit_forest K C R).answer ≡ Ok tt → (fit_forest K (retarget C ys) R').answer ≡ Ok tt
    → (out out' : List Float) → length out ≡ C.shape.rows → length out' ≡ C.shape.rows
    → SameMean i (own_means K C R out) (own_means K (retarget C ys) R' out')

-- ---- the means are over the same trees

pub ok_same : (t u : Tree) → ◌≡◌ {A = Out Tree} (ok t) (ok u) → t ≡ u
ok_same t u h = ap (from-ok t) h
  where
    from-ok : Tree → Out Tree → Tree
    from-ok d (bad n) = d
    from-ok d (ok a) = a

module _ (C : ForestCall) (ys : List Float) (i : ℕ) (inside : i < C.shape.rows) (but : ButOne i C.given.inputs.targets ys)
    (p : Passed C.shape C.trees C.given) (p' : Passed C.shape C.trees (retarget C ys).given) where
  -- row i's count in tree t
  abbrev count : ℕ → ℕ
  count t = get_or C.given.counts (t * C.shape.rows + i) 0

  -- where it is 0, the row is left out
  out : (t : ℕ) → count t ≡ 0 → kept (one_tree_at C t) i ≡ false
  unfolding kept kept_in count_in one_tree_at
  out t z =
      ap (λ n. ltb 0 n && (unweighted C.given.weights || lt nought (get_or C.given.weights i nan)))
      (get_or-take C.shape.rows (drop (t * C.shape.rows) C.given.counts) i 0 inside ∙ get_or-drop (t * C.shape.rows) C.given.counts i 0 ∙ z)

  tree-same : (t : ℕ) → count t ≡ 0 → fit (one_tree_at C t) C.given.inputs ≡ fit (one_tree_at C t) (retarget C ys).given.inputs
  unfolding listing one_tree_at
  tree-same t z =
      fit_same (one_tree_at C t) C.given.inputs (retarget C ys).given.inputs
      (accepted C.shape C.trees C.given p (one_tree_at C t) (forest-framed C p t))
      (accepted C.shape C.trees (retarget C ys).given p' (one_tree_at C t) (forest-framed (retarget C ys) p' t))
      (record { targets = λ k q. but k (λ e. true≢false (sym q ∙ ap (kept (one_tree_at C t)) e ∙ out t z)); values = λ k q. refl; listings = λ j. refl })

  -- the trees from tree t on that leave the row out
  out-same : (t n : ℕ) (ts us : List Tree) → Grew (map (one_tree_at C) (from t n)) C.given.inputs ts → Grew (map (one_tree_at C) (from t n)) (retarget C ys).given.inputs us
      → out_trees C.shape.rows C.given.counts i t (tables ts) ≡ out_trees C.shape.rows C.given.counts i t (tables us)
  unfolding from out_trees put_if
  out-same t zero [] [] g h = refl
  out-same t zero [] (u ∷ us) g h = absurd h
  out-same t zero (x ∷ ts) us g h = absurd g
  out-same t (suc n) [] us g h = absurd g
  out-same t (suc n) (x ∷ ts) [] g h = absurd h
  out-same t (suc n) (x ∷ ts) (u ∷ us) g h = go (eqb (count t) 0) (λ c. eqb→eq (count t) 0 c) (out-same (suc t) n ts us g.1 h.1)
    where
      go : (b : Bool) → (T b → count t ≡ 0) → out_trees C.shape.rows C.given.counts i (suc t) (tables ts) ≡ out_trees C.shape.rows C.given.counts i (suc t) (tables us)
          → put_if b (entries x.nodes) (out_trees C.shape.rows C.given.counts i (suc t) (tables ts)) ≡ put_if b (entries u.nodes)
          (out_trees C.shape.rows C.given.counts i (suc t) (tables us))
      go true z e = λ r. entries (ok_same x u (sym g.0 ∙ tree-same t (z tt) ∙ h.0) r).nodes ∷ e r
      go false z e = e

-- ---- the readings

eq_test : (a b : ℕ) → a ≡ b → T (eqb a b)
eq_test a b q = subst (λ x. T (eqb a x)) q (eqb_refl a)

module _ {W : Type 0} (K : WaitingForm W) (C : ForestCall) (R : ForestRooms W) (held : Binary64 C.given.inputs.values) (h : (fit_forest K C R).answer ≡ (Ok tt)) where
  a : ForestAnswered K C R
  a = forest-answered K C R h

  p : ForestPassed K C R
  p = forest-right K C R a

  -- the trees that are read are the trees that grew
  trees-read : trees_of (table_after C (fit_forest K C R).rooms) ≡ tables a.trees
  trees-read =
      (λ x. trees_of (table_after C (a.after x))) ∙ trees-written R.nodes R.starts a.trees C.trees (trees-length K C R a)

  starts-long : suc C.trees ≤ length (fit_forest K C R).rooms.starts
  starts-long =
      subst (λ (r : ForestRooms W). suc C.trees ≤ length r.starts) (sym a.after)
      (subst (λ n. suc C.trees ≤ n)
      (sym (front_length (starts_from 0 a.trees) R.starts (subst (λ n. n ≤ length R.starts) (sym (starts-length 0 a.trees ∙ ap suc (trees-length K C R a))) p.starts_room)))
      p.starts_room)

  -- no test of the reading fails
  reads-well : (out : List Float) → length out ≡ C.shape.rows
      → first_failed (out_tests C.shape C.given.inputs.values C.given.counts (table_after C (fit_forest K C R).rooms) out) ≡ 0
  unfolding out_tests
  reads-well out o =
      goes_on 1 _ _ p.ranges
      (goes_on 9 _ _ (lt→ltb 0 (length C.given.counts) (subst (λ n. 0 < n) (sym p.passed.counts_long) (mul-pos p.some_trees p.passed.some_rows)))
      (goes_on 10 _ _ (eq_test (length C.given.counts) (C.trees * C.shape.rows) p.passed.counts_long)
      (goes_on 2 _ _ (eq_test (length C.given.inputs.values) (C.shape.rows * C.shape.features) p.passed.values_long)
      (goes_on 6 _ _ (and_i (eqb (length out) C.shape.rows) _ (eq_test (length out) C.shape.rows o) (le→leb (suc C.trees) (length (fit_forest K C R).rooms.starts) starts-long))
      (goes_on 8 _ _ (forest-good W K C R held h) none-fails)))))

  abbrev mean : ℕ → Float
  mean i = out_of_bag_mean C.shape C.given.inputs.values C.given.counts (table_after C (fit_forest K C R).rooms) i

  pub own-done : (out : List Float) → length out ≡ C.shape.rows → (own_means K C R out).answer ≡ Ok tt
  unfolding out_of_bag_means reads
  own-done out o = λ x. (reads (reads-well out o x) (map mean (from 0 C.shape.rows)) out).answer

  own-mean : (out : List Float) → length out ≡ C.shape.rows → (i : ℕ) → i < C.shape.rows
      → get_or (own_means K C R out).rooms i nan ≡ mean_of (out_trees C.shape.rows C.given.counts i 0 (tables a.trees)) (values_at C.shape.features C.given.inputs.values i)
  unfolding out_of_bag_means reads out_of_bag_mean
  own-mean out o i b =
      (λ x. get_or (reads (reads-well out o x) (map mean (from 0 C.shape.rows)) out).rooms i nan)
      ∙ get_d-from mean 0 C.shape.rows i nan b
      ∙ ap mean (zero-add i)
      ∙ ap (λ ts. mean_of (out_trees C.shape.rows C.given.counts i 0 ts) (values_at C.shape.features C.given.inputs.values i)) trees-read

pub own-target : OwnTarget
unfolding each_tree one_tree_at
own-target W K C ys i b but held R R' h h' out out' o o' =
    record {
      done = own-done K C R held h out o;
      done' = own-done K (retarget C ys) R' held h' out' o';
      mean =
          own-mean K C R held h out o i b
          ∙ ap (λ ts. mean_of ts (values_at C.shape.features C.given.inputs.values i))
          (out-same C ys i b but (p K C R held h).passed (p K (retarget C ys) R' held h').passed 0 C.trees (a K C R held h).trees (a K (retarget C ys) R' held h').trees
          (a K C R held h).grew (a K (retarget C ys) R' held h').grew)
          ∙ sym (own-mean K (retarget C ys) R' held h' out' o' i b);
    }
