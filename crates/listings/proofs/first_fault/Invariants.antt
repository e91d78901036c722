-- `listings::first_fault` meets its contract: what is left to test are the columns from j on. Assumes nothing.
use Rattle.std.proofs.Common.{◌≡◌, ◌-◌}
use Rattle.rules.specs.Words.{from, joined}
use Rattle.rules.specs.Checks.{checked}
use Rattle.rules.specs.Listing.{column_tests, order_tests}
use Rattle.listings.proofs.first_fault.Given as goal

abbrev pub invariant-loop-j : goal.invariant-loop-j
invariant-loop-j l =
    checked (order_tests l.shape l.values l.listings) ≡ checked (joined (column_tests l.shape l.values l.listings) (from l.j (l.shape.features - l.j)))
