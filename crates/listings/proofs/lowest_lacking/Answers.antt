-- `listings::lowest_lacking` meets its contract: the marks are the rows of the listing. Assumes nothing.
use Rattle.std.proofs.Common.{arith, ap, ◌∙◌, ◌≡◌, false, ◌||◌, not, Bool, List, length, ℕ, ◌≤◌}
use Rattle.std.proofs.lemmas.List.{length-take}
use Rattle.std.specs.List.{position_or_len}
use Rattle.std.proofs.lemmas.List.Sums.{prefix_len-le-length}
use lib.ListN.{get_or-replicate}
use Rattle.rules.specs.Words.{member}
use Rattle.listings.specs.Walks.{lowest-clear}
use Rattle.listings.proofs.lowest_lacking.Goals as goal

low : (s : List Bool) (r : ℕ) → r ≡ position_or_len (λ b. not b) s → r ≤ length s
low s r e = omega (arith, prefix_len-le-length (λ b. not (not b)) s)

pub overflow_cast-result : goal.overflow_cast-result
overflow_cast-result c = omega (arith, low _ _ c.first_clear.ensures, length-take {A = Bool})

pub returns : goal.returns
returns c =
    let l = c.args.listing.now in
    c.first_clear.ensures ∙ lowest-clear l _ _ _ (omega arith) (omega (arith, c.requires))
    (λ k h. c.mark.ensures k (omega (arith, h, c.requires)) ∙ ap (λ b. b || member k l) (get_or-replicate 65536 k false false (omega (arith, h, c.requires))))
