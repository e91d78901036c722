-- `tables::starts_rise` meets its contract: what is answered along a list is the definition's test. Assumes nothing.
use Rattle.std.proofs.Common.{◌≡◌, ltb, rules, tests, sym}
use Rattle.std.proofs.lemmas.Fn.{always_returns_same}
use Rattle.slices.specs.Iter.{along-from_sorted}
use Rattle.tables.proofs.starts_rise.Goals as goal

pub returns : goal.returns
returns c =
    along-from_sorted ltb (λ x y b. b ≡ ltb x y) (λ x y b e. sym e) _ _
    (c.is_sorted_by.ensures.cases ltb (always_returns_same _ _ _ (λ a r q k. search (rules, tests))))
