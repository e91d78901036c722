-- `listings::column_fault` meets its contract: the part that is looked at is the listing of feature j. Assumes nothing.
use Rattle.std.proofs.Common.{rules, sym, ap, ◌∙◌, []}
use Rattle.lemmas.specs.Cells.{listing-lies}
use Rattle.rules.specs.Listing.{column_tests}
use Rattle.listings.specs.Walks.{on_refusal, on_refusal-mapped, with_row, row_told}
use Rattle.listings.proofs.column_fault.Goals as goal

pub returns : goal.returns
unfolding column_tests
returns c =
    rw (sym (listing-lies c.args.shape.rows c.args.j c.args.listings.now))
    (on_refusal-mapped (with_row _) _ _ _ c.map_err.ensures.cases (λ e d q. search rules) ∙ ap (on_refusal (with_row _)) c.fault_in-found.ensures
    ∙ sym (row_told c.args.shape.rows _ c.args.j _ [] 0 _))
