-- What a sweep of a stretch does and asks, of all its rows or of the first ones, and what a partition is.
use Rattle.std.specs.Prelude.{ℕ, ◌+◌, ◌-◌, ◌<◌, ◌≤◌, ◌≡◌, Bool, false, not, cond, ◌&&◌, List, ◌++◌, length, get_or, set, take, drop}
use Rattle.rules.specs.Words.{keep}
use Rattle.lemmas.specs.Lists.{Every}

-- whether row r is flagged
abbrev pub flagged : List Bool → ℕ → Bool
flagged flags r = get_or flags r false

-- the test turned round
abbrev pub fails : (ℕ → Bool) → ℕ → Bool
fails p r = not (p r)

-- those that pass, then the others, each in their order
abbrev pub parted : (ℕ → Bool) → List ℕ → List ℕ
parted p l = keep p l ++ keep (fails p) l

-- a list partitioned, r of it having passed
pub record Parted (p : ℕ → Bool) (before after : List ℕ) (r : ℕ) : Type 0 where
  pub within : r ≤ length before
  pub count : r ≡ length (keep p before)
  pub parts : after ≡ parted p before

-- what a partition of a stretch asks: scratch enough, and a flag for each row
pub record PartAsks (col : List ℕ) (scratch flags : ℕ) : Type 0 where
  pub room : length col ≤ scratch
  pub below : Every (λ r. r < flags) col

-- the first i of a stretch are swept: those that pass are the first w of the column, the others the first of the scratch, and from i on the column is as it was before
pub record Begun (p : ℕ → Bool) (before col scratch : List ℕ) (i w : ℕ) : Type 0 where
  pub within : i ≤ length before
  pub few : w ≤ i
  pub long : length col ≡ length before
  pub passed : take w col ≡ keep p (take i before)
  pub others : take (i - w) scratch ≡ keep (fails p) (take i before)
  pub rest : drop i col ≡ drop i before

-- what a sweep asks that goes on from i, where w have passed
pub record SweepAsks (col : List ℕ) (scratch flags i w : ℕ) : Type 0 where
  pub room : length col ≤ scratch
  pub within : i ≤ length col
  pub few : w ≤ i
  pub below : Every (λ r. r < flags) (drop i col)

-- what was begun is swept to its end, r having passed
pub record SweepDone (p : ℕ → Bool) (col₀ scratch₀ : List ℕ) (i w : ℕ) (col scratch : List ℕ) (r : ℕ) : Type 0 where
  pub within : r ≤ length col₀
  pub done : (before : List ℕ) → Begun p before col₀ scratch₀ i w → Begun p before col scratch (length before) r

-- and is partitioned
pub record PartDone (p : ℕ → Bool) (col₀ scratch₀ : List ℕ) (i w : ℕ) (col : List ℕ) (r : ℕ) : Type 0 where
  pub within : r ≤ length col₀
  pub done : (before : List ℕ) → Begun p before col₀ scratch₀ i w → Parted p before col r

-- one if the test holds
abbrev pub bit : Bool → ℕ
bit b = cond b 1 0

-- what a sweep of the first two rows leaves in the column l, s and t being their flags
abbrev pub two_column : Bool → List ℕ → List ℕ
two_column s l = set l (bit s) (get_or l 1 0)

-- and in the scratch
abbrev pub two_others : Bool → List ℕ → List ℕ → List ℕ
two_others s l m = set (set m 0 (cond s (get_or l 1 0) (get_or l 0 0))) (1 - bit s) (get_or l 1 0)

-- the first two rows swept, r of them flagged
pub record TwoDone (s t : Bool) (col₀ scratch₀ col scratch : List ℕ) (r : ℕ) : Type 0 where
  pub count : r ≡ bit s + bit t
  pub column : col ≡ two_column s col₀
  pub others : scratch ≡ two_others s col₀ scratch₀

-- the row that a sweep of the first four writes for the third: if it and all before it are flagged, the one that it writes for the next
abbrev pub for_third : Bool → Bool → Bool → List ℕ → ℕ
for_third s t u l = cond ((s && t) && u) (get_or l 3 0) (get_or l 2 0)

-- for the second
abbrev pub for_second : Bool → Bool → Bool → List ℕ → ℕ
for_second s t u l = cond (s && t) (for_third s t u l) (get_or l 1 0)

-- for the first
abbrev pub for_first : Bool → Bool → Bool → List ℕ → ℕ
for_first s t u l = cond s (for_second s t u l) (get_or l 0 0)

-- the place of the column where it writes the second: where a front of fewer than four rows ends
abbrev pub front_end : Bool → Bool → Bool → ℕ
front_end s t u = bit s + bit (s && t) + bit ((s && t) && u)

-- the third
abbrev pub third_place : Bool → Bool → Bool → ℕ
third_place s t u = bit s + bit t + bit ((s && t) && u)

-- the last
abbrev pub last_place : Bool → Bool → Bool → ℕ
last_place s t u = bit s + bit t + bit u

-- what it leaves in the column
abbrev pub four_column : Bool → Bool → Bool → List ℕ → List ℕ
four_column s t u l = set (set (set l (front_end s t u) (for_second s t u l)) (third_place s t u) (for_third s t u l)) (last_place s t u) (get_or l 3 0)

-- and in the scratch
abbrev pub four_others : Bool → Bool → Bool → List ℕ → List ℕ → List ℕ
four_others s t u l m =
    set (set (set (set m 0 (for_first s t u l)) (1 - bit s) (for_second s t u l)) (2 - (bit s + bit t)) (for_third s t u l)) (3 - (bit s + bit t + bit u)) (get_or l 3 0)

-- the first four rows swept, r of them flagged
pub record FourDone (s t u v : Bool) (col₀ scratch₀ col scratch : List ℕ) (r : ℕ) : Type 0 where
  pub count : r ≡ bit s + bit t + bit u + bit v
  pub column : col ≡ four_column s t u col₀
  pub others : scratch ≡ four_others s t u col₀ scratch₀
