-- `predict::predict_sixes` meets its contract: the rows of the sixes so far have their predictions. Assumes nothing.
use Rattle.std.proofs.Common.{◌≡◌, ◌*◌, take}
use Rattle.rules.specs.Slices.{columns_in}
use Rattle.predict.specs.Front.{foretold}
use Rattle.predict.proofs.predict_sixes.Given as goal

abbrev pub invariant-loop-b : goal.invariant-loop-b
invariant-loop-b l = take (6 * l.b) l.out ≡ foretold l.features l.values (columns_in l.table) (6 * l.b)
