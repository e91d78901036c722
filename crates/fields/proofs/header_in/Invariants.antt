-- the test of each number in turn
use Rattle.std.proofs.Common.{eqb}
use Rattle.rules.specs.Checks.{features_in}
use Rattle.fields.proofs.header_in.Given as goal

abbrev pub ghost-number_in : goal.ghost-number_in
ghost-number_in a = eqb 0x464752

abbrev pub ghost-number_in-2 : goal.ghost-number_in-2
ghost-number_in-2 a = eqb 1

abbrev pub ghost-number_in-3 : goal.ghost-number_in-3
ghost-number_in-3 a = features_in
