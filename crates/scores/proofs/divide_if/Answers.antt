-- `scores::divide_if` meets its contract: divided where the test is met, else as it was. Assumes nothing.
use Rattle.std.proofs.Common.{◌∙◌}
use Rattle.scores.specs.Lists.{divided}
use Rattle.scores.proofs.divide_if.Goals as goal

pub returns-then-by : goal.returns-then-by
returns-then-by c = c.divide.ensures ∙ divided _ _ _ c.if-by.true

pub returns-else-by : goal.returns-else-by
returns-else-by c =
    divided _ _ _ c.if-by.false
