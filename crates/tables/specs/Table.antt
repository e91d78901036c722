-- What the checks of a table ask of their callers, and what they have settled for those that read it.
use Rattle.std.specs.Prelude.{ℕ, suc, ◌+◌, ◌≤◌, ◌≡◌, true, List, length}
use Rattle.rules.specs.Words.{every}
use Rattle.rules.specs.Lent.{Columns, shortest, entries_at}
use Rattle.rules.specs.Table.{good_tree, ForestTable, starts_good, trees_of}

-- n entries from place a on lie in the columns
pub record Within (c : Columns) (a n : ℕ) : Type 0 where
  pub inside : a + n ≤ shortest c

-- a start table that is long enough
pub record Started (trees : ℕ) (starts : List ℕ) : Type 0 where
  pub few : trees ≤ 1024
  pub long : suc trees ≤ length starts

-- and good
pub record Lying (T : ForestTable) : Type 0 where
  pub started : Started T.trees T.starts
  pub good : starts_good T ≡ true

-- a good tree of n nodes from place a on
pub record TreeLies (features a n : ℕ) (c : Columns) : Type 0 where
  pub inside : a + n ≤ shortest c
  pub good : good_tree features (entries_at c a n) ≡ true

-- good trees, one after another
pub record TreesLie (features : ℕ) (T : ForestTable) : Type 0 where
  pub lying : Lying T
  pub good : every (good_tree features) (trees_of T) ≡ true
