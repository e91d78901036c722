-- `listings::mark` meets its contract: what is marked or still ahead is what was marked or is in the listing. Assumes nothing.
use Rattle.listings.specs.Walks.{MarksTo}
use Rattle.listings.proofs.mark.Given as goal

abbrev pub invariant-loop-x : goal.invariant-loop-x
invariant-loop-x l = MarksTo l.listing l.initial.seen l.seen l.x-index
