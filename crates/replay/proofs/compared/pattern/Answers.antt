-- `replay::compared::pattern` meets its contract: the bits that a file has are a float's own. Assumes nothing.
use Rattle.std.proofs.Common.{◌∙◌}
use Rattle.lemmas.specs.ByteNumbers.{pattern-is}
use Rattle.replay.proofs.compared.pattern.Goals as goal

pub returns : goal.returns
returns c = c.pattern_of.ensures ∙ pattern-is c.args.x
