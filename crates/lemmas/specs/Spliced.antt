-- New entries from some place of a list on, and laws of it. Assumes nothing.
use Prim.Native.Nat.{ℕ, suc, ◌+◌, ◌<◌, ◌≤◌}
use Rattle.std.proofs.Common.{add-zero, zero-add, add-one, ◌∙◌, length-drop, drop-drop}
use native.Mathlib.Omega.{arith}
use Rattle.std.specs.Prelude.{◌≡◌, set}
use Rattle.std.proofs.Math.Path.{sym, ap}
use mathlib.Core.List.{List, [], ◌∷◌, ◌++◌, append_assoc}
use Rattle.std.proofs.Math.ListN.{length, take, drop, length-append, take-append-drop}
use Rattle.std.proofs.Math.Seq.{length-take-le, drop-set-lt, take-suc-set, take_at, drop-append-add}
use Rattle.rules.specs.Words.{front}

-- new entries from place at on; those before and those beyond stay as they were
unfoldable pub spliced {ℓ} : {A : Type ℓ} → ℕ → List A → List A → List A
spliced at new old = take at old ++ (new ++ drop (at + length new) old)

module _ {ℓ} {A : Type ℓ} where
  pub spliced-none : (at : ℕ) (old : List A) → spliced at [] old ≡ old
  unfolding spliced
  spliced-none at old = ap (λ n. take at old ++ drop n old) (add-zero at) ∙ take-append-drop at old

  pub spliced-front : (new old : List A) → spliced 0 new old ≡ front new old
  unfolding spliced
  spliced-front new old = ap (λ n. new ++ drop n old) (zero-add (length new))

  -- the first of them, then the others
  pub spliced-next : (at : ℕ) (x : A) (new old : List A) → at < length old → spliced (at + 1) new (set old at x) ≡ spliced at (x ∷ new) old
  unfolding spliced
  spliced-next at x new old h =
      (λ i. take (add-one at i) (set old at x) ++ (new ++ drop (shift at (length new) i) (set old at x)))
      ∙ (λ i. take-suc-set old at x h i ++ (new ++ drop-set-lt (at + suc (length new)) old at x (omega arith) i))
      ∙ append_assoc (take at old) (x ∷ []) (new ++ drop (at + suc (length new)) old)
    where
      shift : (a n : ℕ) → a + 1 + n ≡ a + suc n
      shift a n = omega arith

  pub spliced-length : (at : ℕ) (new old : List A) → at + length new ≤ length old → length (spliced at new old) ≡ length old
  unfolding spliced
  spliced-length at new old h =
      length-append (take at old) (new ++ drop (at + length new) old)
      ∙ (λ i. length-take-le at old (omega arith) i + length-append new (drop (at + length new) old) i)
      ∙ ap (λ n. at + (length new + n)) (length-drop (at + length new) old)
      ∙ omega arith

  -- one stretch, then the next
  spliced-twice : (at : ℕ) (a b old : List A) → at + length a ≤ length old → spliced (at + length a) b (spliced at a old) ≡ spliced at (a ++ b) old
  unfolding spliced
  spliced-twice at a b old h =
      (λ i. take (at + length a) (joint i) ++ (b ++ drop (at + length a + length b) (joint i)))
      ∙ (λ i. take_at (take at old ++ a) (drop (at + length a) old) (at + length a) long i ++ (b ++ behind i))
      ∙ append_assoc (take at old) a (b ++ drop (at + length (a ++ b)) old)
      ∙ ap (λ l. take at old ++ l) (sym (append_assoc a b (drop (at + length (a ++ b)) old)))
    where
      joint : take at old ++ (a ++ drop (at + length a) old) ≡ take at old ++ a ++ drop (at + length a) old
      joint = sym (append_assoc (take at old) a (drop (at + length a) old))

      long : length (take at old ++ a) ≡ at + length a
      long = length-append (take at old) a ∙ ap (λ n. n + length a) (length-take-le at old (omega arith))

      behind : drop (at + length a + length b) (take at old ++ a ++ drop (at + length a) old) ≡ drop (at + length (a ++ b)) old
      behind =
          ap (λ n. drop (n + length b) (take at old ++ a ++ drop (at + length a) old)) (sym long)
          ∙ drop-append-add (take at old ++ a) (drop (at + length a) old) (length b)
          ∙ drop-drop (length b) (at + length a) old
          ∙ ap (λ n. drop n old) (sum at (length a) (length b) ∙ ap (λ n. at + n) (sym (length-append a b)))
        where
          sum : (x y z : ℕ) → x + y + z ≡ x + (y + z)
          sum x y z = omega arith

  -- as code puts them
  pub spliced-then : (at : ℕ) (a b old : List A) {next : ℕ} {mid new : List A} → mid ≡ spliced at a old → new ≡ spliced next b mid → next ≡ at + length a
      → at + length a ≤ length old → new ≡ spliced at (a ++ b) old
  spliced-then at a b old p q e h = q ∙ (λ i. spliced (e i) b (p i)) ∙ spliced-twice at a b old h
