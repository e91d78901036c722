-- `search::each_once` meets its contract: what is left to ask of the choice is what was asked, and the marks are the words behind. Assumes nothing.
use Rattle.std.proofs.Common.{◌≡◌, length}
use Rattle.lemmas.specs.Marks.{Met}
use Rattle.search.proofs.each_once.Given as goal

abbrev pub invariant-loop-w : goal.invariant-loop-w
invariant-loop-w g l = record { long : length l.seen ≡ g.row.N; met : Met (length l.words) l.words l.seen l.w-index }
