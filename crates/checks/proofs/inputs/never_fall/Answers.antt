-- `checks::inputs::never_fall` meets its contract: each is at most the one after it. Assumes nothing.
use Rattle.std.proofs.Common.{◌≡◌, ◌∙◌, leb}
use Rattle.std.specs.Ordering.{is_le, nat_cmp}
use Rattle.slices.specs.Iter.{along-from_sorted, leb-from_cmp}
use Rattle.checks.proofs.inputs.never_fall.Goals as goal

pub returns : goal.returns
returns c = along-from_sorted leb (λ x y b. is_le (nat_cmp x y) ≡ b) (λ x y b e. leb-from_cmp x y ∙ e) _ _ c.is_sorted.ensures.cases
