-- `checks::listing::check_listings` meets its contract: each check passed goes on to the next, and the first that fails is told. Assumes nothing.
use Rattle.std.proofs.Common.{eqb-true}
use Rattle.rules.specs.Checks.{shape_in, values_long, listings_long}
use Rattle.rules.specs.Listing.{listing_tests, check_listings}
use Rattle.lemmas.specs.Tests.{and_both, rows-low, features-low}
use Rattle.checks.proofs.Chains.{passed_on, asked, met, met-on, unmet}
use Rattle.checks.proofs.listing.check_listings.Goals as goal

pub returns-in_err-need : goal.returns-in_err-need
unfolding check_listings listing_tests
returns-in_err-need c =
    passed_on _ _ _ c.from_residual.ensures.1 (unmet 1 _ _ (asked 1 _ c.need.ensures c.shape_in.ensures) c.in_err-need.was)

pub both_long-requires : goal.both_long-requires
both_long-requires c = met 1 _ (asked 1 _ c.need.ensures c.shape_in.ensures) c.in_ok-need.was

pub returns-in_err-need-2 : goal.returns-in_err-need-2
unfolding check_listings listing_tests
returns-in_err-need-2 c =
    passed_on _ _ _ c.from_residual-in_err-need-2.ensures.1
    (met-on 1 _ _ (asked 1 _ c.need.ensures c.shape_in.ensures) c.in_ok-need.was
    (unmet 2 _ _ (asked 2 _ c.need-2.ensures c.both_long.ensures) c.in_err-need-2.was))

pub first_fault-requires : goal.first_fault-requires
first_fault-requires c =
    let s = met 1 _ (asked 1 (shape_in c.args.shape) c.need.ensures c.shape_in.ensures) c.in_ok-need.was in
    let (v, l) = and_both (values_long c.args.shape c.args.values.now) (listings_long c.args.shape c.args.listings.now)
    (met 2 _ (asked 2 _ c.need-2.ensures c.both_long.ensures) c.in_ok-need-2.was) in
    record { few = rows-low _ s; few_features = features-low _ s; values_long = eqb-true _ _ v; listings_long = eqb-true _ _ l }

pub returns : goal.returns
unfolding check_listings listing_tests
returns c =
    met-on 1 _ _ (asked 1 _ c.need.ensures c.shape_in.ensures) c.in_ok-need.was
    (met-on 2 _ _ (asked 2 _ c.need-2.ensures c.both_long.ensures) c.in_ok-need-2.was c.first_fault.ensures)
