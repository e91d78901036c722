-- `errors::sum_squares` meets its contract: the sum is a fold over the rows. Assumes nothing.
use Rattle.std.proofs.Common.{rules, ◌∙◌, Float}
use Rattle.std.proofs.lemmas.Iterator.{YieldsList-from_slice, YieldsList-from_zip}
use Rattle.std.proofs.lemmas.Iterator.Consumers.{fold_from_yields_List}
use Rattle.errors.specs.Errors.{with_square, squares-fold}
use Rattle.errors.proofs.sum_squares.Goals as goal

pub returns : goal.returns
returns c =
    fold_from_yields_List _ (λ s (p : Float × Float). with_square s p.0 p.1) _ _ c.fold.ensures.ran
    (YieldsList-from_zip (YieldsList-from_slice c.args.targets.now cc) (YieldsList-from_slice c.args.means.now cc)) (λ s x r q k. search rules)
    ∙ squares-fold _ _ _
