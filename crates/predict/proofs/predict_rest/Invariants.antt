-- `predict::predict_rest` meets its contract: the rows before i have their predictions. Assumes nothing.
use Rattle.std.proofs.Common.{◌≡◌, take}
use Rattle.rules.specs.Slices.{columns_in}
use Rattle.predict.specs.Front.{foretold}
use Rattle.predict.proofs.predict_rest.Given as goal

abbrev pub invariant-loop-i : goal.invariant-loop-i
invariant-loop-i l = take l.i l.out ≡ foretold l.features l.values (columns_in l.table) l.i
