-- What set-up and a partition do to the work columns, which lie at the front of the order room.
use Rattle.std.specs.Prelude.{ℕ, zero, suc, ◌+◌, ◌-◌, ◌*◌, ◌<◌, ◌≤◌, ◌≡◌, Bool, true, false, List, [], ◌++◌, length, take, drop, T, leb, Float}
use Rattle.rules.specs.Words.{from, keep, each_once, stretch}
use Rattle.rules.specs.Lent.{listing_at}
use Rattle.rules.specs.Search.{Element}
use Rattle.rules.specs.Fit.{element_in}
use Rattle.lemmas.specs.Lists.{Every}
use Rattle.lemmas.specs.Work.{part}
use Rattle.sweeps.specs.Swept.{parted}

-- n entries from place a on, changed where they lie
unfoldable pub changed : ℕ → ℕ → (List ℕ → List ℕ) → List ℕ → List ℕ
changed a n g l = take a l ++ (g (stretch a n l) ++ drop n (drop a l))

-- the same places of the first n columns, each changed in its own way
unfoldable pub in_columns : ℕ → ℕ → ℕ → (ℕ → List ℕ → List ℕ) → ℕ → List ℕ → List ℕ
in_columns rows a e g zero order = order
in_columns rows a e g (suc n) order = changed (n * rows + a) (e - a) (g n) (in_columns rows a e g n order)

-- ---- set-up

-- a row as totals and counts see it: of its values nothing is asked
abbrev pub bare : List Float → List Float → List ℕ → ℕ → Element
bare targets weights counts i = element_in 0 [] targets weights counts i

-- a count for each row, and a weight if there are weights
pub record Counted (rows : ℕ) (weights : List Float) (counts : List ℕ) : Type 0 where
  pub counted : length counts ≡ rows
  pub weighed : 0 < length weights → length weights ≡ rows

-- what the root's totals ask
pub record RootAsks (rows : ℕ) (targets weights : List Float) (counts : List ℕ) : Type 0 where
  pub tables : Counted rows weights counts
  pub targeted : length targets ≡ rows

-- what the root's count asks
pub record CountAsks (rows : ℕ) (weights : List Float) (counts : List ℕ) : Type 0 where
  pub tables : Counted rows weights counts
  pub few : rows ≤ 65535
  pub low : Every (λ c. T (leb c 65535)) counts

-- a listing's rows that pass, r of them, at the front of a column; what lies behind them is free
pub record KeptTo (p : ℕ → Bool) (listing column : List ℕ) (r : ℕ) : Type 0 where
  pub within : r ≤ length listing
  pub count : r ≡ length (keep p listing)
  pub written : take r column ≡ keep p listing

-- what the kept rows of a listing ask
pub record KeepAsks (listing : List ℕ) (weights : List Float) (counts : List ℕ) (column : ℕ) : Type 0 where
  pub tables : Counted (length counts) weights counts
  pub below : Every (λ i. i < length counts) listing
  pub room : length listing ≤ column

-- of each feature's listing, as many in each column
pub record KeptAll (p : ℕ → Bool) (rows features : ℕ) (listings order : List ℕ) (r : ℕ) : Type 0 where
  pub within : r ≤ rows
  pub count : r ≡ length (keep p (from 0 rows))
  pub written : (j : ℕ) → j < features → part rows j 0 r order ≡ keep p (listing_at rows listings j)

-- what those of every listing ask
pub record KeepAllAsks (rows features : ℕ) (listings : List ℕ) (weights : List Float) (counts : List ℕ) (order : ℕ) : Type 0 where
  pub tables : Counted rows weights counts
  pub some : 0 < features
  pub listed : length listings ≡ features * rows
  pub once : (j : ℕ) → j < features → T (each_once rows (listing_at rows listings j))
  pub room : features * rows ≤ order

-- ---- partition

-- the first n pass, the others do not
pub record Cleft (p : ℕ → Bool) (l : List ℕ) (n : ℕ) : Type 0 where
  pub within : n ≤ length l
  pub passed : Every (λ r. p r ≡ true) (take n l)
  pub others : Every (λ r. p r ≡ false) (drop n l)

-- the rows from a to e of each of n columns partitioned
abbrev pub parted_columns : ℕ → ℕ → ℕ → (ℕ → Bool) → ℕ → List ℕ → List ℕ
parted_columns rows a e p n order = in_columns rows a e (λ k. parted p) n order

-- what a partition of the stretch from a to e of every column asks
pub record ColumnsAsk (rows features a e : ℕ) (order : List ℕ) (scratch flags : ℕ) : Type 0 where
  pub long : features * rows ≤ length order
  pub ordered : a ≤ e
  pub high : e ≤ rows
  pub room : e - a ≤ scratch
  pub below : (k : ℕ) → k < features → Every (λ r. r < flags) (part rows k a e order)
