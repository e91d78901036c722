-- `checks::forest::forest_verdict` meets its contract: each check passed goes on to the next, and the first that fails is told. Assumes nothing.
use Rattle.std.proofs.Common.{sym, ◌∙◌}
use Rattle.rules.specs.Slices.{given_in}
use Rattle.rules.specs.Checks.{trees_in, shape_in}
use Rattle.rules.specs.Listing.{order_tests}
use Rattle.lemmas.specs.Tests.{and_both, within-top, all-go-on, all-stop}
use Rattle.checks.specs.Verdicts.{long-laid, long-grown, forest-same}
use Rattle.checks.proofs.Chains.{passed_on, asked, met, met-on, unmet}
use Rattle.checks.proofs.forest.forest_verdict.Goals as goal

pub forest_long-requires : goal.forest_long-requires
forest_long-requires c =
    let passed = and_both (shape_in c.args.shape) (trees_in c.args.trees) (met 1 _ (asked 1 _ c.need.ensures c.forest_in.ensures) c.in_ok-need.was) in
    record { shape = passed.0; few = within-top 1024 c.args.trees passed.1 }

pub first_fault-requires : goal.first_fault-requires
first_fault-requires c =
    long-laid c.args.shape c.args.trees (given_in c.args.input.now)
    (and_both (shape_in c.args.shape) (trees_in c.args.trees) (met 1 _ (asked 1 _ c.need.ensures c.forest_in.ensures) c.in_ok-need.was)).0
    (and_both _ _ (met 2 _ (asked 2 _ c.need-2.ensures c.forest_long.ensures) c.in_ok-need-2.was)).0

pub forest_rooms-requires : goal.forest_rooms-requires
forest_rooms-requires c =
    let passed = and_both (shape_in c.args.shape) (trees_in c.args.trees) (met 1 _ (asked 1 _ c.need.ensures c.forest_in.ensures) c.in_ok-need.was) in (
      passed.0,
      long-grown c.args.shape c.args.trees (given_in c.args.input.now) passed.0
          (and_both _ _ (met 2 _ (asked 2 _ c.need-2.ensures c.forest_long.ensures) c.in_ok-need-2.was)).0 (within-top 1024 c.args.trees passed.1),
    )

pub returns-in_err-need : goal.returns-in_err-need
returns-in_err-need c =
    λ C R h. passed_on _ _ _ c.from_residual.ensures.1
    (unmet 1 _ _ (asked 1 _ c.need.ensures c.forest_in.ensures) c.in_err-need.was ∙ forest-same _ _ _ _ _ _ _ _ _ C R h)

pub returns-in_err-need-2 : goal.returns-in_err-need-2
returns-in_err-need-2 c =
    λ C R h. passed_on _ _ _ c.from_residual-in_err-need-2.ensures.1
    (met-on 1 _ _ (asked 1 _ c.need.ensures c.forest_in.ensures) c.in_ok-need.was
    (unmet 2 _ _ (asked 2 _ c.need-2.ensures c.forest_long.ensures) c.in_err-need-2.was) ∙ forest-same _ _ _ _ _ _ _ _ _ C R h)

pub returns-in_err-need-3 : goal.returns-in_err-need-3
returns-in_err-need-3 c =
    λ C R h. passed_on _ _ _ c.from_residual-in_err-need-3.ensures.1
    (met-on 1 _ _ (asked 1 _ c.need.ensures c.forest_in.ensures) c.in_ok-need.was
    (met-on 2 _ _ (asked 2 _ c.need-2.ensures c.forest_long.ensures) c.in_ok-need-2.was
    (unmet 3 _ _ (asked 3 _ c.need-3.ensures c.numbers_good.ensures) c.in_err-need-3.was)) ∙ forest-same _ _ _ _ _ _ _ _ _ C R h)

pub returns-in_err-need-4 : goal.returns-in_err-need-4
returns-in_err-need-4 c =
    λ C R h. passed_on _ _ _ c.from_residual-in_err-need-4.ensures.1
    (met-on 1 _ _ (asked 1 _ c.need.ensures c.forest_in.ensures) c.in_ok-need.was
    (met-on 2 _ _ (asked 2 _ c.need-2.ensures c.forest_long.ensures) c.in_ok-need-2.was
    (met-on 3 _ _ (asked 3 _ c.need-3.ensures c.numbers_good.ensures) c.in_ok-need-3.was
    (unmet 4 _ _ (asked 4 _ c.need-4.ensures c.forest_counts.ensures) c.in_err-need-4.was))) ∙ forest-same _ _ _ _ _ _ _ _ _ C R h)

pub returns-in_err-first_fault : goal.returns-in_err-first_fault
returns-in_err-first_fault c =
    λ C R h. passed_on _ _ _ c.from_residual-in_err-first_fault.ensures.1
    (met-on 1 _ _ (asked 1 _ c.need.ensures c.forest_in.ensures) c.in_ok-need.was
    (met-on 2 _ _ (asked 2 _ c.need-2.ensures c.forest_long.ensures) c.in_ok-need-2.was
    (met-on 3 _ _ (asked 3 _ c.need-3.ensures c.numbers_good.ensures) c.in_ok-need-3.was
    (met-on 4 _ _ (asked 4 _ c.need-4.ensures c.forest_counts.ensures) c.in_ok-need-4.was
    (all-stop (order_tests c.args.shape c.args.input.now.values.now c.args.input.now.listings.now) _ _ (sym c.first_fault.ensures ∙ c.in_err-first_fault.was)))))
    ∙ forest-same _ _ _ _ _ _ _ _ _ C R h)

pub returns : goal.returns
returns c =
    λ C R h. met-on 1 _ _ (asked 1 _ c.need.ensures c.forest_in.ensures) c.in_ok-need.was
    (met-on 2 _ _ (asked 2 _ c.need-2.ensures c.forest_long.ensures) c.in_ok-need-2.was
    (met-on 3 _ _ (asked 3 _ c.need-3.ensures c.numbers_good.ensures) c.in_ok-need-3.was
    (met-on 4 _ _ (asked 4 _ c.need-4.ensures c.forest_counts.ensures) c.in_ok-need-4.was
    (all-go-on (order_tests c.args.shape c.args.input.now.values.now c.args.input.now.listings.now) _ (sym c.first_fault.ensures ∙ c.in_ok-first_fault.was)
    (asked 6 _ c.need-5.ensures (c.forest_rooms.ensures R.work R.reports h.work h.reports)))))) ∙ forest-same _ _ _ _ _ _ _ _ _ C R h
