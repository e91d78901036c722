-- `importances::add_scores` meets its contract: what it has, with the entries from k on added, is the whole. Assumes nothing.
use Rattle.std.proofs.Common.{◌≡◌}
use Rattle.rules.specs.Lent.{entries_at}
use Rattle.rules.specs.Slices.{columns_in}
use Rattle.rules.specs.Reading.{add_scores}
use Rattle.importances.specs.Scores.{scores_on}
use Rattle.importances.proofs.add_scores.Given as goal

abbrev pub invariant-loop-k : goal.invariant-loop-k
invariant-loop-k l = scores_on (columns_in l.table) l.a l.n l.k l.v ≡ add_scores l.initial.v (entries_at (columns_in l.table) l.a l.n)
