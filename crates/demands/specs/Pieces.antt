-- Pieces laid end to end, and the starts in a tape that tells where each begins: it is good for the whole, and the part that it gives tree t is piece t. It holds because each
-- piece begins where all before it have ended. Assumes nothing.
use Prim.Native.Nat.{ℕ, zero, suc, ◌+◌, ◌-◌, ◌<◌}
use Rattle.std.proofs.Math.Nat.{zero-add}
use Rattle.std.proofs.Common.{not-suc-le-zero, le_of_suc-le-suc, sym, ◌∙◌, length-append, le→leb}
use native.Mathlib.Omega.{arith}
use Rattle.std.specs.Prelude.{◌≡◌, refl, ◌&&◌, get_or, drop}
use Rattle.std.proofs.Math.Path.{ap, subst}
use mathlib.Core.List.{List, [], ◌∷◌, ◌++◌, map, flatten, append_assoc}
use Rattle.std.proofs.Math.ListN.{length, take}
use Rattle.std.proofs.Math.Seq.{take-append_seam, drop-append_seam}
use Rattle.std.proofs.Math.Dec.{T, leb, eqb, eqb_refl}
use Rattle.std.specs.Float.Ieee.Fits.{and_i}
use Rattle.rules.specs.Words.{along, along_from}
use Rattle.rules.specs.Checks.{good_tape_starts}
use Rattle.rules.specs.Forest.{part}

-- a + n₀, a + n₀ + n₁ and on
abbrev pub sums : ℕ → List ℕ → List ℕ
sums a [] = []
sums a (n ∷ ns) = (a + n) ∷ sums (a + n) ns

module _ {A : Type 0} where
  -- where each piece begins, and where the last ends
  abbrev pub cuts_of : List (List A) → List ℕ
  cuts_of ps = 0 ∷ sums 0 (map length ps)

  -- what lies before them, and the pieces
  piece-from : (l : List A) (ps : List (List A)) (t : ℕ) → t < length ps → part (length l ∷ sums (length l) (map length ps)) (l ++ flatten ps) t ≡ get_or ps t []
  unfolding part flatten
  piece-from l [] t h = absurd (not-suc-le-zero h)
  piece-from l (p ∷ ps) zero h =
      let n : length l + length p - length l ≡ length p = omega arith in
      ap (λ k. take k (drop (length l) (l ++ (p ++ flatten ps)))) n ∙ ap (take (length p)) (drop-append_seam l (p ++ flatten ps)) ∙ take-append_seam p (flatten ps)
  piece-from l (p ∷ ps) (suc t) h =
      (λ i. part (sym (length-append l p) i ∷ sums (sym (length-append l p) i) (map length ps)) (sym (append_assoc l p (flatten ps)) i) t)
      ∙ piece-from (l ++ p) ps t (le_of_suc-le-suc h)

  pub piece-at : (ps : List (List A)) (t : ℕ) → t < length ps → part (cuts_of ps) (flatten ps) t ≡ get_or ps t []
  piece-at ps t h = piece-from [] ps t h

  pub tape-starts-good : (ps : List (List A)) → T (good_tape_starts (length ps) (length (flatten ps)) (cuts_of ps))
  unfolding good_tape_starts along along_from flatten
  tape-starts-good ps =
      let ends = eqb (get_or (cuts_of ps) (length ps) (suc (length (flatten ps)))) (length (flatten ps)) in
      and_i (eqb (length (cuts_of ps)) (suc (length ps))) (along leb (cuts_of ps) && ends) (equal _ _ (ap suc (long 0 ps)))
      (and_i (along leb (cuts_of ps)) ends (rising 0 ps) (equal _ _ (last 0 ps _ ∙ zero-add (length (flatten ps)))))
    where
      equal : (a b : ℕ) → a ≡ b → T (eqb a b)
      equal a b e = subst (λ n. T (eqb a n)) e (eqb_refl a)

      long : (a : ℕ) (ps : List (List A)) → length (sums a (map length ps)) ≡ length ps
      long a [] = refl
      long a (p ∷ ps) = ap suc (long (a + length p) ps)

      rising : (a : ℕ) (ps : List (List A)) → T (along_from leb a (sums a (map length ps)))
      rising a [] = tt
      rising a (p ∷ ps) = and_i (leb a (a + length p)) _ (le→leb a (a + length p) (omega arith)) (rising (a + length p) ps)

      last : (a : ℕ) (ps : List (List A)) (d : ℕ) → get_or (a ∷ sums a (map length ps)) (length ps) d ≡ a + length (flatten ps)
      last a [] d = omega arith
      last a (p ∷ ps) d = last (a + length p) ps d ∙ omega (arith, length-append p (flatten ps))
