-- Whether a row is out of a tree's bag, and out of how many. Assumes nothing.
use Rattle.std.specs.Prelude.{ℕ, zero, suc, ◌+◌, ◌*◌, ◌<◌, ◌≤◌, ◌≡◌, refl, Bool, true, false, cond, List, [], ◌∷◌, length, get_or, eqb}
use Rattle.std.proofs.Common.{arith, sym, ◌∙◌}
use Rattle.rules.specs.Words.{from, total}
use Rattle.lemmas.specs.Lists.{length-total, length_from}

-- the count at a place is 0, or not there
abbrev pub is_out : List ℕ → ℕ → Bool
is_out counts at = eqb (get_or counts at 0) 0

-- and 1 where it is, of tree t
abbrev pub out_mark : ℕ → List ℕ → ℕ → ℕ → ℕ
out_mark rows counts i t = cond (is_out counts (t * rows + i)) 1 0

-- of how many trees' bags row i is out
abbrev pub out_number : ℕ → ℕ → List ℕ → ℕ → ℕ
out_number rows trees counts i = total (out_mark rows counts i) (from 0 trees)

-- ---- what is asked, and what is told

pub record Numberable (rows trees i : ℕ) : Type 0 where
  pub few : rows ≤ 65535
  pub few_trees : trees ≤ 1024
  pub row : i < rows

pub record OutNumbered (rows trees : ℕ) (counts : List ℕ) (i r : ℕ) : Type 0 where
  pub exact : r ≡ out_number rows trees counts i
  pub low : r ≤ trees

-- ---- laws

pub out-beyond : (counts : List ℕ) (at : ℕ) → length counts ≤ at → is_out counts at ≡ true
out-beyond [] at h = refl
out-beyond (c ∷ counts) zero h = absurd (no (length counts) h)
  where
    no : (n : ℕ) → suc n ≤ 0 → ⊥
    no n h = omega arith
out-beyond (c ∷ counts) (suc at) h = out-beyond counts at (omega arith)

pub mark-low : (rows : ℕ) (counts : List ℕ) (i t : ℕ) → out_mark rows counts i t ≤ 1
mark-low rows counts i t = low (is_out counts (t * rows + i))
  where
    low : (b : Bool) → cond b 1 0 ≤ 1
    low true = omega arith
    low false = omega arith

pub out_none : (rows trees : ℕ) (counts : List ℕ) (i : ℕ) → length counts ≡ 0 → trees ≡ out_number rows trees counts i
out_none rows trees [] i h = sym (length-total (from 0 trees) ∙ length_from 0 trees)
out_none rows trees (c ∷ counts) i h = absurd (no (length counts) h)
  where
    no : (n : ℕ) → suc n ≡ 0 → ⊥
    no n h = omega arith
