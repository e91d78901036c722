-- `listings::first_fault` meets its contract: what is left to test are the columns from j on. Assumes nothing.
use Rattle.std.proofs.Common.{arith, sym, ap, ◌∙◌}
use Rattle.std.proofs.lemmas.Result.{err_from_is_err_and}
use Rattle.lemmas.specs.Scans.{range_all}
use Rattle.listings.specs.Walks.{columns-end, columns-go, columns-stop}
use Rattle.rules.specs.Words.{joined}
use Rattle.rules.specs.Checks.{checked}
use Rattle.rules.specs.Listing.{column_tests, order_tests}
use Rattle.listings.proofs.first_fault.Goals as goal

pub loop-j-init : goal.loop-j-init
unfolding order_tests
loop-j-init c =
    let a = c.args in
    ap (λ l. checked (joined (column_tests a.shape a.values.now a.listings.now) l)) (range_all 0 a.shape.features)

pub returns-in_err-column_fault : goal.returns-in_err-column_fault
returns-in_err-column_fault c =
    let a = c.args in
    let p = err_from_is_err_and c.from_residual.result c.from_residual.ensures.1 in
    rw (p.1, p.2)
    (columns-stop (column_tests a.shape a.values.now a.listings.now) a.shape.features c.loop-j.j (omega arith) _
    (sym c.column_fault.ensures ∙ c.in_err-column_fault.was) ∙ sym c.loop-j.invariant)

pub loop-j-preserved : goal.loop-j-preserved
loop-j-preserved c =
    let a = c.args in
    c.loop-j.invariant
    ∙ columns-go (column_tests a.shape a.values.now a.listings.now) a.shape.features c.loop-j.j (omega arith) (sym c.column_fault.ensures ∙ c.in_ok-column_fault.was)

pub returns : goal.returns
returns c =
    let a = c.args in
    columns-end (column_tests a.shape a.values.now a.listings.now) a.shape.features c.loop-j.j (omega arith) ∙ sym c.loop-j.invariant
