-- the test is by the number of features, as the call has it
use Rattle.std.proofs.Common.{ltb}
use Rattle.fields.proofs.split_in.Given as goal

abbrev pub ghost-number_in : goal.ghost-number_in
ghost-number_in a = λ j. ltb j a.good.0.now
