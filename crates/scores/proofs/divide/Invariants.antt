-- `scores::divide` meets its contract: the places so far are divided. Assumes nothing.
use Rattle.std.proofs.Common.{◌≡◌, ◌++◌, take, drop}
use Rattle.scores.specs.Lists.{divided_by}
use Rattle.scores.proofs.divide.Given as goal

abbrev pub invariant-loop-x : goal.invariant-loop-x
invariant-loop-x l = l.v ≡ divided_by l.by (take l.x-index l.initial.v) ++ drop l.x-index l.initial.v
