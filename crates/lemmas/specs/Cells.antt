-- Where a cell lies in the table of feature values, and a listing among the listings. Assumes nothing.
use Rattle.std.specs.Prelude.{ℕ, ◌+◌, ◌-◌, ◌*◌, ◌<◌, ◌≤◌, ◌≡◌, List, length, get_or, take, drop, Float}
use Rattle.std.proofs.Common.{suc-mul, mul-le-mul_right, arith, sym, ap, ◌∙◌, subst, length-drop, get_or-take, get_or-drop, length-take-le}
use Rattle.std.specs.Float.{nan}
use Rattle.rules.specs.Words.{stretch}
use Rattle.rules.specs.Lent.{cell, values_at, listing_at}

pub cell_lies : (features : ℕ) (xs : List Float) (i j : ℕ) → j < features → cell features xs j i ≡ get_or xs (i * features + j) nan
unfolding cell values_at
cell_lies features xs i j h = get_or-take features (drop (i * features) xs) j nan h ∙ get_or-drop (i * features) xs j nan

-- the i-th of n stretches of one width ends within them
pub stretch-within : (i n width : ℕ) → i < n → i * width + width ≤ n * width
stretch-within i n width h = subst (λ m. m ≤ n * width) (suc-mul i width) (mul-le-mul_right width h)

pub cell-within : (i rows features j : ℕ) → i < rows → j < features → i * features + j < rows * features
cell-within i rows features j h k = step (i * features) (rows * features) (stretch-within i rows features h)
  where
    step : (a b : ℕ) → a + features ≤ b → a + j < b
    step a b x = omega arith

-- a part that is lent, from a to a + width, is a stretch
pub part_lies {ℓ} : {A : Type ℓ} (a width : ℕ) (l : List A) → take (a + width - a) (drop a l) ≡ stretch a width l
part_lies a width l = ap (λ n. take n (drop a l)) (wide a)
  where
    wide : (a : ℕ) → a + width - a ≡ width
    wide a = omega arith

pub part-long {ℓ} : {A : Type ℓ} (a width : ℕ) (l : List A) → a + width ≤ length l → length (take (a + width - a) (drop a l)) ≡ width
part-long a width l h = ap length (part_lies a width l) ∙ length-take-le width (drop a l) (subst (λ n. width ≤ n) (sym (length-drop a l)) (omega arith))

-- a part of the listings is a listing
pub listing-lies : (rows j : ℕ) (ls : List ℕ) → take (j * rows + rows - j * rows) (drop (j * rows) ls) ≡ listing_at rows ls j
unfolding listing_at
listing-lies rows j ls = part_lies (j * rows) rows ls
