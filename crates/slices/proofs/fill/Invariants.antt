-- `slices::fill` meets its contract: after i turns the first i places hold the value. Assumes nothing.
use Rattle.slices.specs.Filling.{Filling}
use Rattle.slices.proofs.fill.Given as goal

abbrev pub invariant-loop-x : goal.invariant-loop-x
invariant-loop-x g l = Filling l.v l.initial.s l.s l.x-index
