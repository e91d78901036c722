-- The tests of listings: how they end, and that they all pass exactly where each row stands once and no value falls. Assumes nothing.
use Rattle.std.specs.Prelude.{ℕ, suc, ◌+◌, ◌*◌, ◌<◌, ◌≤◌, ◌≡◌, Bool, true, false, ◌&&◌, cond, Float, Ok, Err}
use Rattle.std.proofs.Common.{zero-add, ◌∙◌, subst, eq-eqb}
use Rattle.std.proofs.Math.Path.{refl, sym, ap}
use Rattle.std.proofs.Math.Bool.{not, and-false}
use mathlib.Core.List.{List, [], ◌∷◌, ◌++◌}
use Rattle.std.proofs.Math.ListN.{length}
use Rattle.std.proofs.Math.Dec.{ltb}
use Rattle.std.specs.Float.Ieee.{lt}
use Rattle.rules.specs.declared.Shape.{Shape}
use Rattle.rules.specs.Results.{Checked}
use Rattle.rules.specs.Words.{from, every, along, along_from, joined, member, fresh, each_once}
use Rattle.rules.specs.Lent.{cell, listing_at}
use Rattle.rules.specs.Checks.{Test, checked}
use Rattle.rules.specs.Listing.{falls, fault, tests_from, column_tests, order_tests}
use Rattle.lemmas.specs.Lists.{Every, every-imp, from-below}
use Rattle.lemmas.specs.Cells.{stretch-within, part_lies, part-long}
use Rattle.lemmas.specs.Tests.{and_then, checked-append}

-- ---- the one rule that they stand for

-- no value is below the one before it
unfoldable pub never_falls : (ℕ → Float) → List ℕ → Bool
never_falls value l = along (λ a b. not (lt (value b) (value a))) l

unfoldable pub good_listing : Shape → List Float → List ℕ → ℕ → Bool
good_listing S xs ls j =
    each_once S.rows (listing_at S.rows ls j) && never_falls (cell S.features xs j) (listing_at S.rows ls j)

unfoldable pub listings_good : Shape → List Float → List ℕ → Bool
listings_good S xs ls = every (good_listing S xs ls) (from 0 S.features)

-- ---- whether all pass

abbrev pub is_passed : Checked → Bool
is_passed (Ok _) = true
is_passed (Err r) = false

-- ---- of a column

module _ (rows : ℕ) (value : ℕ → Float) where
  -- no value falls from here on, after the rows before
  stays : List ℕ → List ℕ → Bool
  stays [] l = along (λ a b. not (lt (value b) (value a))) l
  stays (b ∷ before) l = along_from (λ a b. not (lt (value b) (value a))) b l

  stays-end : (before : List ℕ) → stays before [] ≡ true
  unfolding stays along along_from
  stays-end [] = refl
  stays-end (b ∷ before) = refl

  stays_on : (before : List ℕ) (k : ℕ) (l : List ℕ) → stays before (k ∷ l) ≡ (not (falls value before k) && stays (k ∷ before) l)
  unfolding stays along along_from falls
  stays_on [] k l = refl
  stays_on (b ∷ before) k l = refl

  column-passes : (column lacking : ℕ) (before : List ℕ) (place : ℕ) (l : List ℕ)
      → is_passed (checked (tests_from rows value column lacking before place l)) ≡ (fresh rows before l && stays before l)
  unfolding tests_from checked fresh
  column-passes column lacking before place [] = sym (stays-end before)
  column-passes column lacking before place (k ∷ l) =
      go (ltb k rows) (member k before) (falls value before k) (column-passes column lacking (k ∷ before) (suc place) l)
      ∙ ap (λ b. ltb k rows && not (member k before) && fresh rows (k ∷ before) l && b) (sym (stays_on before k l))
    where
      rest : Checked
      rest = checked (tests_from rows value column lacking (k ∷ before) (suc place) l)

      go : (a b c : Bool) → is_passed rest ≡ (fresh rows (k ∷ before) l && stays (k ∷ before) l)
          → is_passed (cond a (cond (not b) (cond (not c) rest (Err (fault 13 column place 0))) (Err (fault 12 column place lacking)))
          (Err (fault 11 column place 0)))
          ≡ (a && not b && fresh rows (k ∷ before) l && (not c && stays (k ∷ before) l))
      go false b c e = refl
      go true true c e = refl
      go true false true e = sym (and-false (fresh rows (k ∷ before) l))
      go true false false e = e

  column-sound : (column lacking : ℕ) (l : List ℕ) → length l ≡ rows
      → is_passed (checked (tests_from rows value column lacking [] 0 l)) ≡ (each_once rows l && never_falls value l)
  unfolding each_once never_falls stays
  column-sound column lacking l long =
      column-passes column lacking [] 0 l ∙ ap (λ b. b && fresh rows [] l && along (λ a b. not (lt (value b) (value a))) l) (sym (eq-eqb (length l) rows long))

-- ---- of all columns

passed-append : (us vs : List Test) → is_passed (checked (us ++ vs)) ≡ (is_passed (checked us) && is_passed (checked vs))
passed-append us vs = ap is_passed (checked-append us vs) ∙ go (checked us)
  where
    go : (c : Checked) → is_passed (and_then c (checked vs)) ≡ (is_passed c && is_passed (checked vs))
    go (Ok _) = refl
    go (Err r) = refl

every-alike : (p q : ℕ → Bool) (l : List ℕ) → Every (λ k. p k ≡ q k) l → every p l ≡ every q l
unfolding every
every-alike p q [] h = refl
every-alike p q (k ∷ l) h = λ i. h.0 i && every-alike p q l h.1 i

columns-pass : (f : ℕ → List Test) (js : List ℕ) → is_passed (checked (joined f js)) ≡ every (λ j. is_passed (checked (f j))) js
unfolding joined every checked
columns-pass f [] = refl
columns-pass f (j ∷ js) = passed-append (f j) (joined f js) ∙ ap (λ b. is_passed (checked (f j)) && b) (columns-pass f js)

module _ (S : Shape) (xs : List Float) (ls : List ℕ) (long : length ls ≡ S.features * S.rows) where
  pub listing-long : (j : ℕ) → j < S.features → length (listing_at S.rows ls j) ≡ S.rows
  unfolding listing_at
  listing-long j h =
      ap length (sym (part_lies (j * S.rows) S.rows ls))
      ∙ part-long (j * S.rows) S.rows ls (subst (λ n. j * S.rows + S.rows ≤ n) (sym long) (stretch-within j S.features S.rows h))

  -- listings of the right length pass all tests exactly where they are good
  pub listings-sound : is_passed (checked (order_tests S xs ls)) ≡ listings_good S xs ls
  unfolding order_tests column_tests listings_good good_listing
  listings-sound =
      columns-pass (column_tests S xs ls) (from 0 S.features)
      ∙ every-alike _ (good_listing S xs ls) (from 0 S.features) (every-imp _ _ sound (from 0 S.features) (from-below 0 S.features))
    where
      sound : (j : ℕ) → j < 0 + S.features → is_passed (checked (column_tests S xs ls j)) ≡ good_listing S xs ls j
      sound j h = column-sound S.rows (cell S.features xs j) j _ (listing_at S.rows ls j) (listing-long j (subst (λ n. j < n) (zero-add S.features) h))
