-- The listing check, refusals 11, 12 and 13, and the call that makes it alone.
use Rattle.std.specs.Prelude.{ℕ, zero, suc, Bool, false, not, ◌&&◌, cond, List, [], ◌∷◌, ltb, Float}
use Rattle.std.specs.Float.Ieee.{lt}
use Rattle.rules.specs.declared.Shape.{Shape}
use Rattle.rules.specs.declared.Refusal.{Refusal}
use Rattle.rules.specs.Results.{Checked}
use Rattle.rules.specs.Words.{from, joined, member}
use Rattle.rules.specs.Lent.{cell, listing_at}
use Rattle.rules.specs.Checks.{Test, test, checked, shape_in, values_long, listings_long}

-- R4.1: row k's value is below that of the row before it; of the rows before, the last comes first
unfoldable pub falls : (ℕ → Float) → List ℕ → ℕ → Bool
falls value [] k = false
falls value (b ∷ before) k = lt (value k) (value b)

-- R4.2: of the n numbers from a on the lowest that l lacks; the one after them, where it lacks none
unfoldable pub lacking_from : List ℕ → ℕ → ℕ → ℕ
lacking_from l a zero = a
lacking_from l a (suc n) = cond (member a l) (lacking_from l (suc a) n) a

-- R4.2
unfoldable pub lowest_lacking : ℕ → List ℕ → ℕ
lowest_lacking rows l = lacking_from l 0 rows

-- R4.3
abbrev pub fault : ℕ → ℕ → ℕ → ℕ → Refusal
fault number column place row = record { number = number; part = column; place = place; row = row }

-- R4.3: the tests of a column from a place on, three at each, in this order; the rows before the place are given, the last first
unfoldable pub tests_from : ℕ → (ℕ → Float) → ℕ → ℕ → List ℕ → ℕ → List ℕ → List Test
tests_from rows value column lacking before place [] = []
tests_from rows value column lacking before place (k ∷ l) =
    record { tells = fault 11 column place 0; passes = ltb k rows }
    ∷ record { tells = fault 12 column place lacking; passes = not (member k before) }
    ∷ record { tells = fault 13 column place 0; passes = not (falls value before k) }
    ∷ tests_from rows value column lacking (k ∷ before) (suc place) l

-- R4.4: a row met before tells the lowest row that the whole column lacks
unfoldable pub column_tests : Shape → List Float → List ℕ → ℕ → List Test
column_tests S xs ls j =
    tests_from S.rows (cell S.features xs j) j (lowest_lacking S.rows (listing_at S.rows ls j)) [] 0 (listing_at S.rows ls j)

-- R4.4: columns in order
unfoldable pub order_tests : Shape → List Float → List ℕ → List Test
order_tests S xs ls = joined (column_tests S xs ls) (from 0 S.features)

-- R4.5
unfoldable pub listing_tests : Shape → List Float → List ℕ → List Test
listing_tests S xs ls = test 1 (shape_in S) ∷ test 2 (values_long S xs && listings_long S ls) ∷ order_tests S xs ls

-- R4.5
unfoldable pub check_listings : Shape → List Float → List ℕ → Checked
check_listings S xs ls = checked (listing_tests S xs ls)
