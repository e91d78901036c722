-- What the number of a fit says. A refusal before growth says which rule was broken first: the sizes, the lengths, the numbers, the counts, the listings or the rooms, 1 to 4, 11
-- to 13 and 6 in this order, and those before it hold. And no answer is told as another: a tree that has grown is told as 0, a refusal before growth by what it tells, a bad draw
-- as 7 with its tree and its search. Nor is a refusal of the check of listings told as none. Assumes nothing.
use Rattle.std.specs.Prelude.{ℕ, suc, ◌≡◌, refl, Bool, true, false, ◌&&◌, List, [], ◌∷◌, get_or, take, T, leb, Float, Ok, Err}
use Rattle.std.proofs.Common.{arith, sym, ap, ◌∙◌, subst}
use Rattle.rules.specs.declared.Shape.{Shape}
use Rattle.rules.specs.declared.Place.{Place}
use Rattle.rules.specs.declared.Refusal.{Refusal}
use Rattle.rules.specs.Results.{Checked, TreeAnswer, ForestAnswer}
use Rattle.rules.specs.declared.Report.{Report}
use Rattle.rules.specs.Words.{every, member, total}
use Rattle.rules.specs.Lent.{WaitingForm, TreeRooms, ForestRooms, shortest_of_eight}
use Rattle.rules.specs.Checks.{test, checked, first_failed, shape_in, trees_in, lengths, numbers_good, counts_good, counts_one, room_for, work_enough}
use Rattle.rules.specs.Listing.{listing_tests, check_listings}
use Rattle.rules.specs.Fit.{TreeCall, one_tree_of, fit_tree}
use Rattle.rules.specs.Forest.{ForestCall, each_tree, tapes_good, rooms_good, fit_forest}
use Rattle.rules.specs.Answers.{tree_told, forest_told, check_told}
use Rattle.lemmas.specs.Faults.{listings_good}
use Rattle.demands.specs.Refusals.{tree-refused, forest-refused}
use Rattle.demands.specs.Refused.{told-number, orders-tell, tree-number, forest-number}
use Rattle.demands.specs.Listings.{one_number, as_one, one-for-three}
use Rattle.rules.specs.declared.FitError.{FitError}

-- ---- the statements

-- the rules of a fit of one tree, and whether each holds
abbrev pub tree_rules : {W : Type 0} → WaitingForm W → TreeCall → TreeRooms W → List Bool
tree_rules K C R =
    shape_in C.shape
    ∷ lengths C.shape 1 C.given
    ∷ numbers_good C.given
    ∷ counts_good C.given
    ∷ listings_good C.shape C.given.inputs.values C.given.inputs.listings
    ∷ (leb (room_for (one_tree_of C)) (shortest_of_eight R.nodes R.behind) && work_enough K C.shape R.work)
    ∷ []

abbrev pub forest_rules : {W : Type 0} → WaitingForm W → ForestCall → ForestRooms W → List Bool
forest_rules K C R =
    (shape_in C.shape && trees_in C.trees)
    ∷ (lengths C.shape C.trees C.given && tapes_good C)
    ∷ numbers_good C.given
    ∷ (counts_good C.given && counts_one C.given)
    ∷ listings_good C.shape C.given.inputs.values C.given.inputs.listings
    ∷ (leb (total room_for (each_tree C)) (shortest_of_eight R.nodes R.behind) && rooms_good K C R)
    ∷ []

-- the rule at place n of the list is broken, and all before it hold
abbrev pub FirstBroken : ℕ → List Bool → Type 0
FirstBroken n rules = (get_or rules n true ≡ false) × (every (λ b. b) (take n rules) ≡ true)

abbrev pub BrokenFirst : Type 1
BrokenFirst =
    (W : Type 0) (K : WaitingForm W)
    → ((C : TreeCall) (R : TreeRooms W) (r : Refusal) (n : ℕ) → (fit_tree K C R).answer ≡ Err (FitError.Refused r) → one_number r.number ≡ suc n → FirstBroken n (tree_rules K C R))
    × ((C : ForestCall) (R : ForestRooms W) (r : Refusal) (n : ℕ) → (fit_forest K C R).answer ≡ Err (FitError.Refused r) → one_number r.number ≡ suc n
    → FirstBroken n (forest_rules K C R))

-- the refusals before growth
abbrev pub Before : ℕ → Type 0
Before n = T (member n (1 ∷ 2 ∷ 3 ∷ 4 ∷ 6 ∷ 11 ∷ 12 ∷ 13 ∷ []))

abbrev pub seven_at : ℕ → ℕ → Refusal
seven_at tree search = record { number = 7; part = tree; place = search; row = 0 }

abbrev pub none : Refusal
none = record { number = 0; part = 0; place = 0; row = 0 }

pub record TreeApart (a : TreeAnswer) : Type 0 where
  pub refused : (r : Refusal) → a ≡ Err (FitError.Refused r) → Before r.number × ((tree_told a).refusal ≡ r)
  pub bad : (d : Place) → a ≡ Err (FitError.BadDraw d) → (tree_told a).refusal ≡ seven_at d.tree d.search
  pub grown : (t : Report) → a ≡ Ok t → ((tree_told a).refusal ≡ none) × ((tree_told a).report ≡ t)

pub record ForestApart (a : ForestAnswer) : Type 0 where
  pub refused : (r : Refusal) → a ≡ Err (FitError.Refused r) → Before r.number × (forest_told a ≡ r)
  pub bad : (d : Place) → a ≡ Err (FitError.BadDraw d) → forest_told a ≡ seven_at d.tree d.search
  pub grown : a ≡ Ok tt → forest_told a ≡ none

-- the check of listings alone
pub record CheckApart (c : Checked) : Type 0 where
  pub refused : (r : Refusal) → c ≡ Err r → T (member r.number (1 ∷ 2 ∷ 11 ∷ 12 ∷ 13 ∷ [])) × (check_told c ≡ r)
  pub passed : c ≡ Ok tt → check_told c ≡ none

abbrev pub ListingsApart : Type 0
ListingsApart = (S : Shape) (xs : List Float) (ls : List ℕ) → CheckApart (check_listings S xs ls)

abbrev pub ToldApart : Type 1
ToldApart =
    (W : Type 0) (K : WaitingForm W)
    → ((C : TreeCall) (R : TreeRooms W) → TreeApart (fit_tree K C R).answer) × ((C : ForestCall) (R : ForestRooms W) → ForestApart (fit_forest K C R).answer)

-- ---- the first rule broken

at : (rules : List Bool) (k n : ℕ) → k ≡ n → FirstBroken k rules → FirstBroken n rules
at rules k n e h = subst (λ m. FirstBroken m rules) e h

-- of six tests with the numbers 1 to 6
six : (a b c d e f : Bool) (n : ℕ) → first_failed (test 1 a ∷ test 2 b ∷ test 3 c ∷ test 4 d ∷ test 5 e ∷ test 6 f ∷ []) ≡ suc n → FirstBroken n (a ∷ b ∷ c ∷ d ∷ e ∷ f ∷ [])
unfolding checked every
six false b c d e f n h = at _ 0 n (omega (arith, h)) (refl, refl)
six true false c d e f n h = at _ 1 n (omega (arith, h)) (refl, refl)
six true true false d e f n h = at _ 2 n (omega (arith, h)) (refl, refl)
six true true true false e f n h = at _ 3 n (omega (arith, h)) (refl, refl)
six true true true true false f n h = at _ 4 n (omega (arith, h)) (refl, refl)
six true true true true true false n h = at _ 5 n (omega (arith, h)) (refl, refl)
six true true true true true true n h = absurd (omega (arith, h))

pub broken-first : BrokenFirst
broken-first W K = (
  (λ C R r n h e. six _ _ _ _ _ _ n (sym (one-for-three.tree W K C R) ∙ ap as_one (tree-refused W K C R r h).1 ∙ e)),
  (λ C R r n h e. six _ _ _ _ _ _ n (sym (one-for-three.forest W K C R) ∙ ap as_one (forest-refused W K C R r h).1 ∙ e)),
)

-- ---- told apart

pub told-apart : ToldApart
unfolding member
told-apart W K = (
  (λ C R.
      record {
        refused = λ r h. (tree-number Before tt tt tt K tt tt tt tt C R (λ f. tt) r (tree-refused W K C R r h).1, ap (λ (a : TreeAnswer). (tree_told a).refusal) h);
        bad = λ d h. ap (λ (a : TreeAnswer). (tree_told a).refusal) h;
        grown = λ t h. (ap (λ (a : TreeAnswer). (tree_told a).refusal) h, ap (λ (a : TreeAnswer). (tree_told a).report) h);
      }),
  (λ C R.
      record {
        refused = λ r h. (forest-number Before tt tt tt K tt tt tt tt C R (λ f. tt) r (forest-refused W K C R r h).1, ap forest_told h);
        bad = λ d h. ap forest_told h;
        grown = λ h. ap forest_told h;
      }),
)

pub listings-apart : ListingsApart
unfolding check_listings listing_tests member
listings-apart S xs ls =
    record {
      refused = λ r h. (
        told-number (λ n. T (member n (1 ∷ 2 ∷ 11 ∷ 12 ∷ 13 ∷ []))) (listing_tests S xs ls) (λ f. tt, (λ f. tt, orders-tell _ tt tt tt S xs ls)) r h,
        ap check_told h,
      );
      passed = λ h. ap check_told h;
    }
