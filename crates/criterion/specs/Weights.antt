-- There are no weights where their slice is empty. Assumes nothing.
use Rattle.std.specs.Prelude.{◌==◌, ◌≡◌, refl, List, [], ◌∷◌, length, Float}
use Rattle.std.proofs.Common.{arith}
use Rattle.std.proofs.lemmas.Bool.Decides.{nat_tests}
use Rattle.rules.specs.Lent.{unweighted}

pub unweighted_is : (ws : List Float) → unweighted ws ≡ (length ws == 0)
unfolding unweighted
unweighted_is [] = refl
unweighted_is (w ∷ ws) = grind (arith, nat_tests)
