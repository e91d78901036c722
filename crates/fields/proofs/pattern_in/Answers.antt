-- `fields::pattern_in` meets its contract: the eight bytes are tested as a pattern. Assumes nothing.
use Rattle.rules.specs.Model.{float_at}
use Rattle.fields.proofs.pattern_in.Goals as goal

pub returns : goal.returns
unfolding float_at
returns c = c.number_in.ensures
