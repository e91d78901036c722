-- `partition::first_false` meets its contract: the rows passed are all flagged. Assumes nothing.
use Rattle.std.proofs.Common.{sym, ◌∙◌}
use Rattle.partition.proofs.first_false.Goals as goal

pub returns-then-not-flag_at : goal.returns-then-not-flag_at
returns-then-not-flag_at c = record { front = c.loop-k.invariant; next = λ h. sym c.flag_at.ensures ∙ c.if-not-flag_at.true }
