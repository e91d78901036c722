-- `checks::rooms::kept_number` meets its contract: the rows that the filter lets through are those kept. Assumes nothing.
use Rattle.std.proofs.Common.{arith, rules, tests, ◌≡◌, ap, ◌∙◌, length}
use Rattle.std.proofs.lemmas.Iterator.{YieldsList-from_range}
use Rattle.std.proofs.lemmas.Iterator.Consumers.{YieldsList-from_filter, count_from_yields_List}
use Rattle.std.specs.List.{range_with_len}
use Rattle.lemmas.specs.Lists.{keep-short, length_from}
use Rattle.rules.specs.Words.{from, keep}
use Rattle.rules.specs.Lent.{kept_in}
use Rattle.slices.specs.Iter.{from-range, keep-filter}
use Rattle.checks.proofs.rooms.kept_number.Goals as goal

pub returns : goal.returns
returns c =
    let p = kept_in c.args.weights.now c.args.counts.now in
    let rows = c.args.rows in
    let e : c.count.result ≡ length (keep p (from 0 rows)) =
    count_from_yields_List c.filter.result c.count.result c.count.ensures.ran
    (YieldsList-from_filter _ p (YieldsList-from_range 0 rows rows (cc) (omega arith)) c.filter.ensures.closure (λ x b q k. search (rules, tests)))
    ∙ ap length (keep-filter p (range_with_len 0 rows)) ∙ ap (λ l. length (keep p l)) (from-range 0 rows) in
    record { exact = e; low = omega (arith, e, keep-short p (from 0 rows), length_from 0 rows) }
