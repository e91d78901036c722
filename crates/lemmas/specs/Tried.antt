-- The number of features tried by default is the floor of the root of their number, and no other number is. Assumes nothing.
use Rattle.std.specs.Prelude.{ℕ, zero, suc, ◌+◌, ◌*◌, ◌<◌, ◌≤◌, ◌≡◌, refl, ◌⊎◌, Bool, true, false, not, cond, T, leb, None}
use Rattle.std.proofs.Common.{zero-add, mul-le-mul, arith, sym, subst, inl, inr, leb→le}
use Rattle.std.proofs.Math.Dec.{nleb→lt}
use Rattle.floats.specs.Root.{root-unique}
use Rattle.rules.specs.Forest.{squares, tried_of}

abbrev pub IsRoot : ℕ → ℕ → Type 0
IsRoot n s = (s * s ≤ n) × (n < (s + 1) * (s + 1))

-- of the first k numbers: all their squares are at most n, or the next one's is above it
abbrev Upto : ℕ → ℕ → ℕ → Type 0
Upto n k s = (s * s ≤ n) × (s ≤ k) × ((s ≡ k) ⊎ (n < (s + 1) * (s + 1)))

upto : (n k : ℕ) → Upto n k (squares n k)
unfolding squares
upto n zero = (omega arith, omega arith, inl refl)
upto n (suc k) = go (leb (suc k * suc k) n) (λ t. leb→le (suc k * suc k) n t) (λ t. nleb→lt (suc k * suc k) n t) (upto n k)
  where
    s : ℕ
    s = squares n k

    go : (b : Bool) → (T b → suc k * suc k ≤ n) → (T (not b) → n < suc k * suc k) → Upto n k s → Upto n (suc k) (cond b 1 0 + s)
    go true y z (a, b, inl q) = (subst (λ m. m * m ≤ n) (up k s q) (y tt), more s k b, inl (sym (up k s q)))
      where
        up : (k s : ℕ) → s ≡ k → suc k ≡ 1 + s
        up k s q = omega arith

        more : (s k : ℕ) → s ≤ k → 1 + s ≤ suc k
        more s k h = omega arith
    go true y z (a, b, inr l) = absurd (clash ((s + 1) * (s + 1)) (suc k * suc k) (mul-le-mul (below s k b) (below s k b)) (y tt) l)
      where
        below : (s k : ℕ) → s ≤ k → s + 1 ≤ suc k
        below s k h = omega arith

        clash : (p q : ℕ) → p ≤ q → q ≤ n → n < p → ⊥
        clash p q h₁ h₂ h₃ = omega arith
    go false y z (a, b, inl q) = subst (Upto n (suc k)) (sym (zero-add s)) (a, more s k b, inr (subst (λ m. n < m * m) (ends k s q) (z tt)))
      where
        ends : (k s : ℕ) → s ≡ k → suc k ≡ s + 1
        ends k s q = omega arith

        more : (s k : ℕ) → s ≤ k → s ≤ suc k
        more s k h = omega arith
    go false y z (a, b, inr l) = subst (Upto n (suc k)) (sym (zero-add s)) (a, more s k b, inr l)
      where
        more : (s k : ℕ) → s ≤ k → s ≤ suc k
        more s k h = omega arith

pub is-root : (n : ℕ) → IsRoot n (tried_of n None)
unfolding tried_of
is-root n = go (upto n n)
  where
    s : ℕ
    s = squares n n

    go : Upto n n s → IsRoot n s
    go (a, b, inl q) = (a, big n s q (mul-le-mul (one_up s) (at_least s)))
      where
        one_up : (s : ℕ) → s + 1 ≤ s + 1
        one_up s = omega arith

        at_least : (s : ℕ) → 1 ≤ s + 1
        at_least s = omega arith

        big : (n s : ℕ) → s ≡ n → (s + 1) * 1 ≤ (s + 1) * (s + 1) → n < (s + 1) * (s + 1)
        big n s q h = omega arith
    go (a, b, inr l) = (a, l)

pub root-only : (n s : ℕ) → IsRoot n s → s ≡ tried_of n None
root-only n s h = root-unique n s (tried_of n None) h.0 h.1 (is-root n).0 (is-root n).1
