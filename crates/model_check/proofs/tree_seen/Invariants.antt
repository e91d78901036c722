-- the test is by the nodes so far, as the call has them
use Rattle.rules.specs.Model.{count_good}
use Rattle.model_check.proofs.tree_seen.Given as goal

abbrev pub ghost-number_in : goal.ghost-number_in
ghost-number_in a = count_good a.good.0.now
