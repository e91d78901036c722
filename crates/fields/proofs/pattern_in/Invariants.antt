-- the test is that of a pattern
use Rattle.rules.specs.Bytes.{good_pattern}
use Rattle.fields.proofs.pattern_in.Given as goal

abbrev pub ghost-number_in : goal.ghost-number_in
ghost-number_in a = good_pattern
