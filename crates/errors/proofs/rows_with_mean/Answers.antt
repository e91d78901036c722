-- `errors::rows_with_mean` meets its contract: it counts what the test lets through. Assumes nothing.
use Rattle.std.proofs.Common.{rules, ap, ◌∙◌, not, length, is_nan}
use borrow.Author.Tests.{tests}
use Rattle.std.proofs.lemmas.Iterator.{YieldsList-from_slice}
use Rattle.std.proofs.lemmas.Iterator.Consumers.{YieldsList-from_filter, count_from_yields_List}
use Rattle.rules.specs.OutOfBag.{rows_with_mean}
use Rattle.slices.specs.Iter.{keep-filter}
use Rattle.errors.proofs.rows_with_mean.Goals as goal

pub returns-clause-exact : goal.returns-clause-exact
unfolding rows_with_mean
returns-clause-exact c =
    count_from_yields_List c.filter.result _ c.count.ensures.ran
    (YieldsList-from_filter _ (λ m. not (is_nan m)) (YieldsList-from_slice c.args.means.now cc) c.filter.ensures.closure (λ x b q k. search (rules, tests)))
    ∙ ap length (keep-filter (λ m. not (is_nan m)) c.args.means.now)
