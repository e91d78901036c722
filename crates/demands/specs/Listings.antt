-- Which row broke the listing. A fit, or the check of listings alone, that is refused by 11, 12 or 13 tells the first place that is not in order: columns in order, in a
-- column places in order, and at the place the first of the three tests that fails. With a row met before it tells the lowest row that the whole column lacks, and there is
-- one. No other refusal before growth tells a place. Listings of the length that is asked have no fault exactly where every place is in order. And one refusal, 5, could
-- stand for the three: it would be given exactly where one of them is, so nothing else of a fit depends on the places. Assumes nothing.
use Rattle.std.specs.Prelude.{ℕ, ◌*◌, ◌<◌, ◌≤◌, ◌≡◌, ◌≢◌, Bool, ◌&&◌, ◌||◌, length, T, leb, eqb, Float, Ok, Err}
use Rattle.std.proofs.Common.{zero-add, arith, ◌∙◌, subst, true≢false, leb→le, eqb→eq, eqb-true, le-leb, ne_eqb, eq-eqb}
use Rattle.std.proofs.Math.Path.{refl, sym, ap}
use Rattle.std.proofs.Math.Bool.{true, false, cond}
use mathlib.Core.List.{List, [], ◌∷◌, ◌++◌, append-nil}
use Rattle.rules.specs.declared.Shape.{Shape}
use Rattle.rules.specs.declared.Refusal.{Refusal}
use Rattle.rules.specs.Results.{Checked}
use Rattle.rules.specs.Words.{total}
use Rattle.rules.specs.Lent.{Given, WaitingForm, TreeRooms, ForestRooms, cell, listing_at, unweighted, shortest_of_eight}
use Rattle.rules.specs.Checks.{Test, test, numbered, checked, number_of, first_failed, shape_in, trees_in, values_long, listings_long, lengths, numbers_good, counts_good, counts_one, room_for, work_enough}
use Rattle.rules.specs.Listing.{lowest_lacking, column_tests, order_tests, listing_tests, check_listings}
use Rattle.rules.specs.Fit.{TreeCall, one_tree_of, tree_tests, fit_tree}
use Rattle.rules.specs.Forest.{ForestCall, each_tree, tapes_good, rooms_good, forest_tests, fit_forest}
use Rattle.lemmas.specs.Tests.{and_both, and_then, checked-append}
use Rattle.lemmas.specs.Passed.{IsPassed, and5}
use Rattle.lemmas.specs.Faults.{listings_good, is_passed, listing-long, listings-sound}
use Rattle.demands.specs.Refusals.{tree-refused, forest-refused}
use Rattle.demands.specs.Places.{InOrder, Breaks, too_large, met_before, fallen, Lacks, lacks, FaultIn, Ends, column-ends, ColumnOf, Columns, columns-end}
use Rattle.rules.specs.declared.FitError.{FitError}

-- ---- the statements

abbrev pub Long : Shape → List ℕ → Type 0
Long S ls = length ls ≡ S.features * S.rows

-- place p of column j
abbrev pub InOrderAt : Shape → List Float → List ℕ → ℕ → ℕ → Type 0
InOrderAt S xs ls j p = InOrder S.rows (cell S.features xs j) (listing_at S.rows ls j) p

pub record FirstFault (S : Shape) (xs : List Float) (ls : List ℕ) (r : Refusal) : Type 0 where
  pub column : r.part < S.features
  pub place : r.place < S.rows
  pub breaks : Breaks S.rows (cell S.features xs r.part) (listing_at S.rows ls r.part) r.place r.number
  pub before : (p : ℕ) → p < r.place → InOrderAt S xs ls r.part p
  pub columns : (j : ℕ) → j < r.part → (p : ℕ) → p < S.rows → InOrderAt S xs ls j p
  pub lacking : r.number ≡ 12 → Lacks S.rows (listing_at S.rows ls r.part) r.row
  pub untold : r.number ≢ 12 → r.row ≡ 0

abbrev pub FaultFirst : Type 0
FaultFirst = (S : Shape) (xs : List Float) (ls : List ℕ) → Long S ls → (r : Refusal) → checked (order_tests S xs ls) ≡ Err r → FirstFault S xs ls r

-- no fault exactly where every place is in order, and exactly where each row stands once and no value falls
pub record NoFault (S : Shape) (xs : List Float) (ls : List ℕ) : Type 0 where
  pub sound : checked (order_tests S xs ls) ≡ Ok tt → (j : ℕ) → j < S.features → (p : ℕ) → p < S.rows → InOrderAt S xs ls j p
  pub whole : ((j : ℕ) → j < S.features → (p : ℕ) → p < S.rows → InOrderAt S xs ls j p) → checked (order_tests S xs ls) ≡ Ok tt
  pub good : is_passed (checked (order_tests S xs ls)) ≡ listings_good S xs ls

abbrev pub FaultSound : Type 0
FaultSound = (S : Shape) (xs : List Float) (ls : List ℕ) → Long S ls → NoFault S xs ls

-- what a refusal tells besides its number: nothing, or the first fault
pub record Told (S : Shape) (xs : List Float) (ls : List ℕ) (r : Refusal) : Type 0 where
  pub other : r.number ≤ 10 → r ≡ numbered r.number
  pub fault : 11 ≤ r.number → FirstFault S xs ls r

pub record WhereTold : Type 1 where
  pub tree : (W : Type 0) (K : WaitingForm W) (C : TreeCall) (R : TreeRooms W) (r : Refusal) → (fit_tree K C R).answer ≡ Err (FitError.Refused r)
      → Told C.shape C.given.inputs.values C.given.inputs.listings r
  pub forest : (W : Type 0) (K : WaitingForm W) (C : ForestCall) (R : ForestRooms W) (r : Refusal) → (fit_forest K C R).answer ≡ Err (FitError.Refused r)
      → Told C.shape C.given.inputs.values C.given.inputs.listings r
  pub listings : (S : Shape) (xs : List Float) (ls : List ℕ) (r : Refusal) → check_listings S xs ls ≡ Err r → Told S xs ls r

-- one number for the three
abbrev pub one_number : ℕ → ℕ
one_number n = cond (leb 11 n) 5 n

abbrev pub as_one : Checked → ℕ
as_one c = one_number (number_of c)

pub record OneForThree : Type 1 where
  pub tree : (W : Type 0) (K : WaitingForm W) (C : TreeCall) (R : TreeRooms W) → as_one (checked (tree_tests K C R)) ≡ first_failed (
      test 1 (shape_in C.shape)
      ∷ test 2 (lengths C.shape 1 C.given)
      ∷ test 3 (numbers_good C.given)
      ∷ test 4 (counts_good C.given)
      ∷ test 5 (listings_good C.shape C.given.inputs.values C.given.inputs.listings)
      ∷ test 6 (leb (room_for (one_tree_of C)) (shortest_of_eight R.nodes R.behind) && work_enough K C.shape R.work)
      ∷ []
      )
  pub forest : (W : Type 0) (K : WaitingForm W) (C : ForestCall) (R : ForestRooms W) → as_one (checked (forest_tests K C R)) ≡ first_failed (
      test 1 (shape_in C.shape && trees_in C.trees)
      ∷ test 2 (lengths C.shape C.trees C.given && tapes_good C)
      ∷ test 3 (numbers_good C.given)
      ∷ test 4 (counts_good C.given && counts_one C.given)
      ∷ test 5 (listings_good C.shape C.given.inputs.values C.given.inputs.listings)
      ∷ test 6 (leb (total room_for (each_tree C)) (shortest_of_eight R.nodes R.behind) && rooms_good K C R)
      ∷ []
      )
  pub listings : (S : Shape) (xs : List Float) (ls : List ℕ) → as_one (check_listings S xs ls) ≡ first_failed (
      test 1 (shape_in S)
      ∷ test 2 (values_long S xs && listings_long S ls)
      ∷ test 5 (listings_good S xs ls)
      ∷ []
      )

-- ---- the first fault

refusal-of : Refusal → Checked → Refusal
refusal-of r (Ok _) = r
refusal-of r (Err q) = q

same-refusal : (q r : Refusal) → ◌≡◌ {A = Checked} (Err q) (Err r) → q ≡ r
unfolding refusal-of
same-refusal q r h = ap (refusal-of q) h

module _ (S : Shape) (xs : List Float) (ls : List ℕ) (long : Long S ls) where
  abbrev listing : ℕ → List ℕ
  listing j = listing_at S.rows ls j

  abbrev EndsAt : ℕ → Checked → Type 0
  EndsAt j c = Ends S.rows (cell S.features xs j) j (lowest_lacking S.rows (listing j)) (listing j) 0 c

  ends_at : (j : ℕ) → EndsAt j (checked (column_tests S xs ls j))
  unfolding column_tests
  ends_at j = column-ends S.rows (cell S.features xs j) j (lowest_lacking S.rows (listing j)) (listing j)

  sound-column : (j : ℕ) → j < S.features → checked (column_tests S xs ls j) ≡ Ok tt → (p : ℕ) → p < S.rows → InOrderAt S xs ls j p
  sound-column j h e p l = subst (EndsAt j) e (ends_at j) p (omega arith) (subst (λ n. p < n) (sym (listing-long S xs ls long j h)) l)

  ends-all : Columns (column_tests S xs ls) 0 S.features (checked (order_tests S xs ls))
  unfolding order_tests
  ends-all = columns-end (column_tests S xs ls) 0 S.features

  -- the fault of its column
  fault-of : (r : Refusal) → ColumnOf (column_tests S xs ls) 0 S.features r → FirstFault S xs ls r
  fault-of r c =
      record {
        column = subst (λ j. j < S.features) (sym is) known;
        place = within;
        breaks = subst (λ j. Breaks S.rows (cell S.features xs j) (listing j) r.place r.number) (sym is) e.breaks;
        before = λ p l. subst (λ j. InOrderAt S xs ls j p) (sym is) (e.before p (omega arith) l);
        columns = λ j l p b. let m : j < c.column = subst (λ n. j < n) is l in sound-column j (omega (arith, m, known)) (c.earlier j (omega arith) m) p b;
        lacking = λ n. subst (λ j. Lacks S.rows (listing j) r.row) (sym is) (subst (Lacks S.rows (listing c.column)) (sym (row-12 n)) (lacking n e.breaks));
        untold = λ d. e.row ∙ ap (λ b. cond b (lowest_lacking S.rows (listing c.column)) 0) (ne_eqb r.number 12 d);
      }
    where
      e : FaultIn S.rows (cell S.features xs c.column) c.column (lowest_lacking S.rows (listing c.column)) (listing c.column) 0 r
      e = subst (EndsAt c.column) c.here (ends_at c.column)

      is : r.part ≡ c.column
      is = e.part

      known : c.column < S.features
      known = subst (λ n. c.column < n) (zero-add S.features) c.below

      within : r.place < S.rows
      within = subst (λ n. r.place < n) (listing-long S xs ls long c.column known) e.within

      row-12 : r.number ≡ 12 → r.row ≡ lowest_lacking S.rows (listing c.column)
      row-12 n = e.row ∙ ap (λ b. cond b (lowest_lacking S.rows (listing c.column)) 0) (eq-eqb r.number 12 n)

      lacking : r.number ≡ 12 → Breaks S.rows (cell S.features xs c.column) (listing c.column) r.place r.number
          → Lacks S.rows (listing c.column) (lowest_lacking S.rows (listing c.column))
      lacking n (too_large o l) = absurd (omega (arith, n, o))
      lacking n (met_before o k q l s) = lacks S.rows (listing c.column) (listing-long S xs ls long c.column known) q r.place l e.within s
      lacking n (fallen o k new q l s) = absurd (omega (arith, n, o))

pub fault-first : FaultFirst
fault-first S xs ls long r h = fault-of S xs ls long r (subst (Columns (column_tests S xs ls) 0 S.features) h (ends-all S xs ls long))

-- a place that breaks a rule is not in order
broken : (rows : ℕ) (value : ℕ → Float) (w : List ℕ) (p n : ℕ) → Breaks rows value w p n → InOrder rows value w p → ⊥
broken rows value w p n (too_large o l) i = omega (arith, l, i.known)
broken rows value w p n (met_before o k q l s) i = i.new q l s
broken rows value w p n (fallen o k new q l s) i = true≢false (sym s ∙ i.rises q l)

pub fault-sound : FaultSound
fault-sound S xs ls long =
    record {
      sound = λ e j h p l. sound-column S xs ls long j h (subst (Columns (column_tests S xs ls) 0 S.features) e (ends-all S xs ls long) j (omega arith) (omega (arith, h))) p l;
      whole = λ all. go all (checked (order_tests S xs ls)) refl;
      good = listings-sound S xs ls long;
    }
  where
    go : ((j : ℕ) → j < S.features → (p : ℕ) → p < S.rows → InOrderAt S xs ls j p) → (c : Checked) → checked (order_tests S xs ls) ≡ c → checked (order_tests S xs ls) ≡ Ok tt
    go all (Ok _) e = e
    go all (Err r) e =
        let f = fault-first S xs ls long r e in
        absurd (broken _ _ _ _ _ f.breaks (all r.part f.column r.place f.place))

-- ---- what is told, and one number for three

module _ (S : Shape) (xs : List Float) (ls : List ℕ) where
  plain : (n : ℕ) → T (leb n 10) → (r : Refusal) → ◌≡◌ {A = Checked} (Err (numbered n)) (Err r) → Told S xs ls r
  plain n t r h = subst (Told S xs ls) (same-refusal (numbered n) r h) (record { other = λ l. refl; fault = λ l. absurd (omega (arith, l, leb→le n 10 t)) })

  -- each fault has one of the three numbers
  high : (r : Refusal) → FirstFault S xs ls r → 11 ≤ r.number
  high r f = go f.breaks
    where
      go : Breaks S.rows (cell S.features xs r.part) (listing_at S.rows ls r.part) r.place r.number → 11 ≤ r.number
      go (too_large o l) = omega (arith, o)
      go (met_before o k q l s) = omega (arith, o)
      go (fallen o k new q l s) = omega (arith, o)

  placed : Long S ls → (r : Refusal) → checked (order_tests S xs ls) ≡ Err r → Told S xs ls r
  placed long r h =
      let f = fault-first S xs ls long r h in
      record { other = λ l. absurd (omega (arith, l, high r f)); fault = λ l. f }

  -- the listings' tests, and those after them
  told-after : Long S ls → (ts : List Test) → ((r : Refusal) → checked ts ≡ Err r → Told S xs ls r)
      → (r : Refusal) → checked (order_tests S xs ls ++ ts) ≡ Err r → Told S xs ls r
  told-after long ts later r h = go (checked (order_tests S xs ls)) refl (sym (checked-append (order_tests S xs ls) ts) ∙ h)
    where
      go : (c : Checked) → checked (order_tests S xs ls) ≡ c → and_then c (checked ts) ≡ Err r → Told S xs ls r
      go (Ok _) e h = later r h
      go (Err q) e h = placed long r (e ∙ h)

  one-after : Long S ls → (ts us : List Test) → as_one (checked ts) ≡ first_failed us → as_one (checked (order_tests S xs ls ++ ts)) ≡ first_failed (test 5 (listings_good S xs ls) ∷ us)
  unfolding checked
  one-after long ts us e =
      ap as_one (checked-append (order_tests S xs ls) ts) ∙ go (checked (order_tests S xs ls)) refl
      ∙ ap (λ b. number_of (cond b (checked us) (Err (numbered 5)))) (listings-sound S xs ls long)
    where
      go : (c : Checked) → checked (order_tests S xs ls) ≡ c
          → as_one (and_then c (checked ts)) ≡ number_of (cond (is_passed (checked (order_tests S xs ls))) (checked us) (Err (numbered 5)))
      go (Ok _) q = e ∙ sym (ap (λ c. number_of (cond (is_passed c) (checked us) (Err (numbered 5)))) q)
      go (Err r) q =
          ap (λ b. cond b 5 r.number) (le-leb 11 r.number (high r (fault-first S xs ls long r q)))
          ∙ sym (ap (λ c. number_of (cond (is_passed c) (checked us) (Err (numbered 5)))) q)

  module _ (ts : List Test) where
    -- the first four tests of a fit
    told-four : (a b c d : Bool) → (b ≡ true → Long S ls) → ((r : Refusal) → checked ts ≡ Err r → Told S xs ls r)
        → (r : Refusal) → checked (test 1 a ∷ test 2 b ∷ test 3 c ∷ test 4 d ∷ order_tests S xs ls ++ ts) ≡ Err r → Told S xs ls r
    unfolding checked
    told-four false b c d long later r h = plain 1 tt r h
    told-four true false c d long later r h = plain 2 tt r h
    told-four true true false d long later r h = plain 3 tt r h
    told-four true true true false long later r h = plain 4 tt r h
    told-four true true true true long later r h = told-after (long refl) ts later r h

    one-four : (a b c d : Bool) → (b ≡ true → Long S ls) → (us : List Test) → as_one (checked ts) ≡ first_failed us
        → as_one (checked (test 1 a ∷ test 2 b ∷ test 3 c ∷ test 4 d ∷ order_tests S xs ls ++ ts))
        ≡ first_failed (test 1 a ∷ test 2 b ∷ test 3 c ∷ test 4 d ∷ test 5 (listings_good S xs ls) ∷ us)
    unfolding checked
    one-four false b c d long us e = refl
    one-four true false c d long us e = refl
    one-four true true false d long us e = refl
    one-four true true true false long us e = refl
    one-four true true true true long us e = one-after (long refl) ts us e

  told-six : (f : Bool) (r : Refusal) → checked (test 6 f ∷ []) ≡ Err r → Told S xs ls r
  unfolding checked
  told-six true r h = absurd (subst IsPassed h tt)
  told-six false r h = plain 6 tt r h

one-six : (f : Bool) → as_one (checked (test 6 f ∷ [])) ≡ first_failed (test 6 f ∷ [])
unfolding checked
one-six true = refl
one-six false = refl

long_of : (S : Shape) (trees : ℕ) (G : Given) → lengths S trees G ≡ true → Long S G.inputs.listings
unfolding lengths
long_of S trees G h =
    let (v, t, w, c, l) = and5 (values_long S G.inputs.values) (eqb (length G.inputs.targets) S.rows) (unweighted G.weights || eqb (length G.weights) S.rows)
    (eqb (length G.counts) (trees * S.rows)) (listings_long S G.inputs.listings) (subst T (sym h) tt) in
    eqb→eq _ _ l

-- the check of listings alone
module _ (S : Shape) (xs : List Float) (ls : List ℕ) where
  told-alone : (a b : Bool) → (b ≡ true → Long S ls) → (r : Refusal) → checked (test 1 a ∷ test 2 b ∷ order_tests S xs ls) ≡ Err r → Told S xs ls r
  unfolding checked
  told-alone false b long r h = plain S xs ls 1 tt r h
  told-alone true false long r h = plain S xs ls 2 tt r h
  told-alone true true long r h = placed S xs ls (long refl) r h

  one-alone : (a b : Bool) → (b ≡ true → Long S ls) → as_one (checked (test 1 a ∷ test 2 b ∷ order_tests S xs ls)) ≡ first_failed (test 1 a ∷ test 2 b ∷ test 5 (listings_good S xs ls) ∷ [])
  unfolding checked
  one-alone false b long = refl
  one-alone true false long = refl
  one-alone true true long = ap (λ l. as_one (checked l)) (sym (append-nil (order_tests S xs ls))) ∙ one-after S xs ls (long refl) [] [] refl

  both_long : (values_long S xs && listings_long S ls) ≡ true → Long S ls
  both_long e = eqb-true _ _ (and_both (values_long S xs) (listings_long S ls) e).1

long-forest : (C : ForestCall) → (lengths C.shape C.trees C.given && tapes_good C) ≡ true → Long C.shape C.given.inputs.listings
long-forest C e = long_of C.shape C.trees C.given (and_both (lengths C.shape C.trees C.given) (tapes_good C) e).0

pub where-told : WhereTold
unfolding tree_tests forest_tests check_listings listing_tests
where-told =
    record {
      tree = λ W K C R r h.
          told-four C.shape C.given.inputs.values C.given.inputs.listings _ _ _ _ _ (long_of C.shape 1 C.given) (told-six _ _ _ _) r (tree-refused W K C R r h).1;
      forest = λ W K C R r h.
          told-four C.shape C.given.inputs.values C.given.inputs.listings _ _ _ _ _ (long-forest C) (told-six _ _ _ _) r (forest-refused W K C R r h).1;
      listings = λ S xs ls r h. told-alone S xs ls _ _ (both_long S xs ls) r h;
    }

pub one-for-three : OneForThree
unfolding tree_tests forest_tests check_listings listing_tests
one-for-three =
    record {
      tree = λ W K C R. one-four C.shape C.given.inputs.values C.given.inputs.listings _ _ _ _ _ (long_of C.shape 1 C.given) _ (one-six _);
      forest = λ W K C R. one-four C.shape C.given.inputs.values C.given.inputs.listings _ _ _ _ _ (long-forest C) _ (one-six _);
      listings = λ S xs ls. one-alone S xs ls _ _ (both_long S xs ls);
    }
