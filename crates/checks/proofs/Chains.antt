-- Checks one after another, as `?` passes them on: a check that is met goes on to the rest, and one that is not is what is told. Assumes nothing.
use Rattle.std.specs.Prelude.{ℕ, ◌≡◌, refl, Bool, true, false, List, [], ◌∷◌, Ok, Err}
use Rattle.std.proofs.Common.{ap, ◌∙◌, sym}
use Rattle.std.specs.Result.{IsErrAnd}
use Rattle.rules.specs.declared.Refusal.{Refusal}
use Rattle.rules.specs.Results.{Checked}
use Rattle.rules.specs.Checks.{Test, test, checked}
use Rattle.lemmas.specs.Tests.{goes_on, all-stop}

-- a refusal that `?` passes on is the one that it was given
pub passed_on : (r x : Checked) (e : Refusal) → IsErrAnd r (λ d. d ≡ e) → Err e ≡ x → r ≡ x
passed_on (Err d) x e h k = ap Err h ∙ k
passed_on (Ok _) x e h k = absurd h

module _ (n : ℕ) where
  -- what `need` told, by what its test is
  pub asked : {b : Bool} {c : Checked} (p : Bool) → c ≡ checked (test n b ∷ []) → b ≡ p → c ≡ checked (test n p ∷ [])
  asked p e h = e ∙ ap (λ b. checked (test n b ∷ [])) h

  pub met : {c : Checked} (p : Bool) → c ≡ checked (test n p ∷ []) → c ≡ Ok tt → p ≡ true
  unfolding checked
  met true e o = refl
  met false e o = cc

  module _ {c : Checked} (p : Bool) (ts : List Test) (e : c ≡ checked (test n p ∷ [])) where
    pub met-on : {r : Checked} → c ≡ Ok tt → r ≡ checked ts → r ≡ checked (test n p ∷ ts)
    met-on o k = goes_on (test n p) ts (met p e o) k

    pub unmet : {r : Refusal} → c ≡ Err r → Err r ≡ checked (test n p ∷ ts)
    unmet o = all-stop (test n p ∷ []) ts _ (sym e ∙ o)
