-- `listings::first_clear` meets its contract: the place of the first that is not marked, or else how many there are. Assumes nothing.
use Rattle.std.proofs.Common.{arith, rules, tests, ◌≡◌, ap, ◌∙◌, not, length, ℕ, ◌≤◌, ltb, Some, None, cond}
use Rattle.std.proofs.lemmas.Bool.Decides.{nat_tests}
use Rattle.std.proofs.lemmas.List.Sums.{prefix_len-le-length}
use Rattle.std.specs.Option.{unwrap_or}
use Rattle.std.proofs.lemmas.Iterator.{YieldsList-from_slice}
use Rattle.std.proofs.lemmas.Iterator.Search.{position_from_yields_List}
use Rattle.listings.proofs.first_clear.Goals as goal

first : (n m : ℕ) → n ≤ m → unwrap_or (cond (ltb n m) (Some n) None) m ≡ n
first n m h = grind (arith, nat_tests)

pub returns : goal.returns
returns c =
    let s = c.args.seen.now in
    c.unwrap_or.ensures ∙ ap (λ o. unwrap_or o (length s))
    (position_from_yields_List (λ b. not b) _ _ _ c.position.ensures.ran (YieldsList-from_slice s cc) (λ x b q k. search (rules, tests)))
    ∙ first _ _ (prefix_len-le-length (λ b. not (not b)) s)
