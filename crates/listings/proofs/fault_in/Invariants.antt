-- `listings::fault_in` meets its contract: what is left to test is what was to be tested, and the marks are the rows behind. Assumes nothing.
use Rattle.std.proofs.Common.{◌≡◌, length}
use Rattle.rules.specs.Lent.{cell}
use Rattle.listings.specs.Walks.{Walked}
use Rattle.listings.proofs.fault_in.Given as goal

abbrev pub invariant-loop-i : goal.invariant-loop-i
invariant-loop-i l = (length l.seen ≡ 65536) × Walked l.shape.rows (cell l.shape.features l.values l.j) l.j l.listing l.seen l.last l.i
