-- `scores::add_score` meets its contract: a leaf changes nothing. Assumes nothing.
use Rattle.std.proofs.Common.{sym, ◌∙◌}
use Rattle.rules.specs.Reading.{scored}
use Rattle.scores.specs.Nodes.{scored-by}
use Rattle.scores.proofs.add_score.Goals as goal

pub returns-then-not-is_leaf : goal.returns-then-not-is_leaf
unfolding scored
returns-then-not-is_leaf c = scored-by _ _ _ _ _ (sym c.is_leaf.ensures ∙ c.if-not-is_leaf.true)

pub returns-else-not-is_leaf : goal.returns-else-not-is_leaf
unfolding scored
returns-else-not-is_leaf c = scored-by _ _ _ _ _ (sym c.is_leaf.ensures ∙ c.if-not-is_leaf.false)
