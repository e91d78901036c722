-- The floor of a square root is one number. Assumes nothing.
use Rattle.std.specs.Prelude.{◌≡◌, ℕ, ◌+◌, ◌*◌, ◌≤◌, ◌<◌}
use Rattle.std.proofs.Common.{inl, inr, mul-le-mul, arith}
use Rattle.floats.specs.Order.{le-or-lt}

not-less : (n r s : ℕ) → n < (r + 1) * (r + 1) → s * s ≤ n → s ≤ r
not-less n r s h k = elim (le-or-lt s r) [ inl a ↦ a | inr b ↦ absurd (clash (mul-le-mul (up b) (up b))) ]
  where
    up : r < s → r + 1 ≤ s
    up b = omega arith

    clash : (r + 1) * (r + 1) ≤ s * s → ⊥
    clash l = omega arith

pub root-unique : (n r s : ℕ) → r * r ≤ n → n < (r + 1) * (r + 1) → s * s ≤ n → n < (s + 1) * (s + 1) → r ≡ s
root-unique n r s a b c d =
    let p : s ≤ r = not-less n r s b c in
    let q : r ≤ s = not-less n s r d a in
    omega arith
