-- `checks::tree::tree_verdict` meets its contract: each check passed goes on to the next, and the first that fails is told. Assumes nothing.
use Rattle.std.proofs.Common.{arith, sym, ◌∙◌, ◌≡◌, true}
use Rattle.rules.specs.Slices.{given_in}
use Rattle.rules.specs.Checks.{shape_in, counts_good}
use Rattle.rules.specs.Listing.{order_tests}
use Rattle.lemmas.specs.Tests.{all-go-on, all-stop}
use Rattle.checks.specs.Verdicts.{long-laid, long-counted, tree-same}
use Rattle.checks.proofs.Chains.{passed_on, asked, met, met-on, unmet}
use Rattle.checks.proofs.tree.tree_verdict.Goals as goal

pub lengths_good-requires : goal.lengths_good-requires
lengths_good-requires c = record { shape = met 1 _ (asked 1 _ c.need.ensures c.shape_in.ensures) c.in_ok-need.was; few = omega arith }

pub first_fault-requires : goal.first_fault-requires
first_fault-requires c =
    long-laid c.args.shape 1 (given_in c.args.input.now) (met 1 _ (asked 1 _ c.need.ensures c.shape_in.ensures) c.in_ok-need.was)
    (met 2 _ (asked 2 _ c.need-2.ensures c.lengths_good.ensures) c.in_ok-need-2.was)

pub tree_rooms-requires : goal.tree_rooms-requires
tree_rooms-requires c =
    let s : shape_in c.args.shape ≡ true = met 1 _ (asked 1 _ c.need.ensures c.shape_in.ensures) c.in_ok-need.was in (
      s,
      long-counted c.args.shape (given_in c.args.input.now) s (met 2 _ (asked 2 _ c.need-2.ensures c.lengths_good.ensures) c.in_ok-need-2.was),
    )

pub returns-in_err-need : goal.returns-in_err-need
returns-in_err-need c =
    λ C R h. passed_on _ _ _ c.from_residual.ensures.1 (unmet 1 _ _ (asked 1 _ c.need.ensures c.shape_in.ensures) c.in_err-need.was ∙ tree-same _ _ _ C R h)

pub returns-in_err-need-2 : goal.returns-in_err-need-2
returns-in_err-need-2 c =
    λ C R h. passed_on _ _ _ c.from_residual-in_err-need-2.ensures.1
    (met-on 1 _ _ (asked 1 _ c.need.ensures c.shape_in.ensures) c.in_ok-need.was
    (unmet 2 _ _ (asked 2 _ c.need-2.ensures c.lengths_good.ensures) c.in_err-need-2.was) ∙ tree-same _ _ _ C R h)

pub returns-in_err-need-3 : goal.returns-in_err-need-3
returns-in_err-need-3 c =
    λ C R h. passed_on _ _ _ c.from_residual-in_err-need-3.ensures.1
    (met-on 1 _ _ (asked 1 _ c.need.ensures c.shape_in.ensures) c.in_ok-need.was
    (met-on 2 _ _ (asked 2 _ c.need-2.ensures c.lengths_good.ensures) c.in_ok-need-2.was
    (unmet 3 _ _ (asked 3 _ c.need-3.ensures c.numbers_good.ensures) c.in_err-need-3.was)) ∙ tree-same _ _ _ C R h)

pub returns-in_err-need-4 : goal.returns-in_err-need-4
unfolding counts_good
returns-in_err-need-4 c =
    λ C R h. passed_on _ _ _ c.from_residual-in_err-need-4.ensures.1
    (met-on 1 _ _ (asked 1 _ c.need.ensures c.shape_in.ensures) c.in_ok-need.was
    (met-on 2 _ _ (asked 2 _ c.need-2.ensures c.lengths_good.ensures) c.in_ok-need-2.was
    (met-on 3 _ _ (asked 3 _ c.need-3.ensures c.numbers_good.ensures) c.in_ok-need-3.was
    (unmet 4 _ _ (asked 4 _ c.need-4.ensures c.counts_low.ensures) c.in_err-need-4.was))) ∙ tree-same _ _ _ C R h)

pub returns-in_err-first_fault : goal.returns-in_err-first_fault
unfolding counts_good
returns-in_err-first_fault c =
    λ C R h. passed_on _ _ _ c.from_residual-in_err-first_fault.ensures.1
    (met-on 1 _ _ (asked 1 _ c.need.ensures c.shape_in.ensures) c.in_ok-need.was
    (met-on 2 _ _ (asked 2 _ c.need-2.ensures c.lengths_good.ensures) c.in_ok-need-2.was
    (met-on 3 _ _ (asked 3 _ c.need-3.ensures c.numbers_good.ensures) c.in_ok-need-3.was
    (met-on 4 _ _ (asked 4 _ c.need-4.ensures c.counts_low.ensures) c.in_ok-need-4.was
    (all-stop (order_tests c.args.shape c.args.input.now.values.now c.args.input.now.listings.now) _ _ (sym c.first_fault.ensures ∙ c.in_err-first_fault.was)))))
    ∙ tree-same _ _ _ C R h)

pub returns : goal.returns
unfolding counts_good
returns c =
    λ C R h. met-on 1 _ _ (asked 1 _ c.need.ensures c.shape_in.ensures) c.in_ok-need.was
    (met-on 2 _ _ (asked 2 _ c.need-2.ensures c.lengths_good.ensures) c.in_ok-need-2.was
    (met-on 3 _ _ (asked 3 _ c.need-3.ensures c.numbers_good.ensures) c.in_ok-need-3.was
    (met-on 4 _ _ (asked 4 _ c.need-4.ensures c.counts_low.ensures) c.in_ok-need-4.was
    (all-go-on (order_tests c.args.shape c.args.input.now.values.now c.args.input.now.listings.now) _ (sym c.first_fault.ensures ∙ c.in_ok-first_fault.was)
    (asked 6 _ c.need-5.ensures (c.tree_rooms.ensures R.work h.work)))))) ∙ tree-same _ _ _ C R h
