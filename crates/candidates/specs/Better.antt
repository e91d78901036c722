-- A candidate against what is held. Assumes nothing.
use Rattle.std.specs.Prelude.{ℕ, ◌+◌, ◌≡◌, Some, None}
use Rattle.std.proofs.Math.Path.{sym, ap}
use Rattle.std.proofs.Common.{◌∙◌}
use Rattle.std.proofs.Math.Bool.{true, cond}
use Rattle.rules.specs.declared.Cut.{Cut}
use Rattle.candidates.specs.declared.Spot.{Spot}
use Rattle.candidates.specs.declared.Candidate.{Candidate}
use Rattle.candidates.specs.Held.{held_of, HeldAt}

-- ---- after a column

module _ (k : ℕ → Cut) (h r : Candidate) (s : Spot) (c : Cut) (d : HeldAt h s c r) where
  pub held_stays : {s₀ : Spot} → s ≡ s₀ → s₀.place ≡ 0 → held_of k s₀ ≡ h.held → (r ≡ h) × (r.held ≡ held_of k s)
  held_stays e z g = let same = d.earlier (ap (λ (y : Spot). y.place) e ∙ z) in (same, ap (λ (y : Candidate). y.held) same ∙ sym g ∙ ap (held_of k) (sym e))

  pub held-moves : (n : ℕ) → s.held ≡ true → s.place ≡ n + 1 → k (n + 1) ≡ c → (r ≡ record { held = Some (c, s.proxy); rows = n }) × (r.held ≡ held_of k s)
  unfolding held_of
  held-moves n t e g =
      let new = d.here n e in
      (new, ap (λ (y : Candidate). y.held) new ∙ ap (λ z. Some (z, s.proxy)) (sym g ∙ ap k (sym e)) ∙ sym (ap (λ b. cond b (Some ((k s.place), s.proxy)) None) t))
