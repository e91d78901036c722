-- the test is by the number of nodes and the node, as the call has them
use Rattle.rules.specs.Model.{child_good}
use Rattle.fields.proofs.child_in.Given as goal

abbrev pub ghost-number_in : goal.ghost-number_in
ghost-number_in a = child_good a.good.0.now a.good.1.now
