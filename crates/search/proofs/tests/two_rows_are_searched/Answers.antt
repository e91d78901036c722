-- `search::tests::two_rows_are_searched` meets its contract: two values that rise. Assumes nothing.
use lib.Ieee.{of_bits, fits, le}
use Rattle.rules.specs.Lent.{values_at}
use Rattle.rules.specs.Fit.{element_in}
use Rattle.rules.specs.Search.{at}
use Rattle.search.proofs.tests.two_rows_are_searched.Goals as goal

pub best_in-b-requires-clause-sorted : goal.best_in-b-requires-clause-sorted
unfolding element_in at values_at of_bits fits le
best_in-b-requires-clause-sorted c = (((tt, tt), ((tt, tt), tt)), ((tt, tt), (tt, tt)))
