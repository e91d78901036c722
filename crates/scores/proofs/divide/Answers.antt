-- `scores::divide` meets its contract: the places so far are divided. Assumes nothing.
use Rattle.std.proofs.Common.{arith}
use Rattle.std.proofs.lemmas.List.{get_or_default}
use Rattle.std.proofs.lemmas.List.Edits.{map_over_more}
use Rattle.std.specs.Float.Ieee.{nan, div}
use Rattle.std.specs.Float.{binary64}
use Rattle.scores.proofs.divide.Goals as goal

pub loop-x-preserved : goal.loop-x-preserved
loop-x-preserved c =
    map_over_more (λ x. div binary64 x c.args.by) _ _ _ _ (omega arith) c.loop-x.invariant (get_or_default c.loop-x.v c.loop-x.x-index nan _ (omega arith))
