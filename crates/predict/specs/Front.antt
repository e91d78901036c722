-- A result room that is written from its front on with what each row comes to. Assumes nothing.
use Rattle.std.specs.Prelude.{ℕ, zero, suc, ◌+◌, ◌<◌, ◌≤◌, ◌≡◌, List, ◌∷◌, [], ◌++◌, map, length, take, get_or, set, Float}
use Rattle.std.specs.Float.{nan}
use Rattle.std.proofs.Common.{zero-add, add-zero, add-one, ap, sym, arith, ◌∙◌, append_assoc, take-suc, take_all}
use Rattle.std.proofs.lemmas.List.{take_more_set}
use Rattle.rules.specs.Words.{from}
use Rattle.rules.specs.Lent.{Columns, shortest}
use Rattle.rules.specs.Table.{tree_in}
use Rattle.walks.specs.Walks.{Readable, leaf_at}

-- a good tree, all values, and a place for each row
abbrev pub Predictable : ℕ → List Float → Columns → List Float → Type 0
Predictable features xs c out = Readable (length out) features 0 (shortest c) xs c out

-- what the first m rows come to
abbrev pub foretold : ℕ → List Float → Columns → ℕ → List Float
foretold features xs c m = map (leaf_at features xs (tree_in c)) (from 0 m)

-- of six values that are put from place i on, one more
pub put-next : (i k : ℕ) (room out six : List Float) → take (i + k) out ≡ take i room ++ take k six → i + k < length out → k < length six
    → take (i + (k + 1)) (set out (i + k) (get_or six k nan)) ≡ take i room ++ take (k + 1) six
put-next i k room out six e h l =
    ap (λ n. take n (set out (i + k) (get_or six k nan))) (up i k) ∙ take_more_set out (i + k) (get_or six k nan) h ∙ ap (λ z. z ++ (get_or six k nan ∷ [])) e
    ∙ append_assoc (take i room) (take k six) (get_or six k nan ∷ []) ∙ ap (λ z. take i room ++ z) (sym (take-suc six k nan l)) ∙ ap (λ n. take i room ++ take n six) (sym (add-one k))
  where
    up : (i k : ℕ) → i + (k + 1) ≡ i + k + 1
    up i k = omega arith

-- and all six
pub put-all : (i k : ℕ) (room out six : List Float) → take (i + k) out ≡ take i room ++ take k six → 6 ≤ k → k ≤ 6 → length six ≡ 6 → take (i + 6) out ≡ take i room ++ six
put-all i k room out six e h l s =
    ap (λ n. take (i + n) out) (sym (same k h l)) ∙ e ∙ ap (λ z. take i room ++ z) (take_all k six (omega (arith, s, h)))
  where
    same : (k : ℕ) → 6 ≤ k → k ≤ 6 → k ≡ 6
    same k h l = omega arith

module _ (g : ℕ → Float) where
  mapped : (a m n : ℕ) → map g (from a m) ++ map g (from (a + m) n) ≡ map g (from a (m + n))
  unfolding from
  mapped a zero n = let e : 0 + n ≡ n = zero-add n in rw (add-zero, e)
  mapped a (suc m) n = ap (λ l. g a ∷ l) (ap (λ k. map g (from (suc a) m) ++ map g (from k n)) (up a m) ∙ mapped (suc a) m n) ∙ ap (λ k. map g (from a k)) (back m n)
    where
      up : (a m : ℕ) → a + suc m ≡ suc a + m
      up a m = omega arith

      back : (m n : ℕ) → suc (m + n) ≡ suc m + n
      back m n = omega arith

  -- six rows more
  pub six-more : (i : ℕ) (room out six : List Float) → take i room ≡ map g (from 0 i) → six ≡ map g (from i 6) → take (i + 6) out ≡ take i room ++ six → (m : ℕ) → m ≡ i + 6
      → take m out ≡ map g (from 0 m)
  unfolding from
  six-more i room out six so e put m n =
      ap (λ j. take j out) n ∙ put ∙ (λ z. so z ++ e z) ∙ ap (λ j. map g (from 0 i) ++ map g (from j 6)) (sym (zero-add i)) ∙ mapped 0 i 6 ∙ ap (λ j. map g (from 0 j)) (sym n)

  -- one row more
  pub one-more : (i : ℕ) (out : List Float) (v : Float) → take i out ≡ map g (from 0 i) → i < length out → v ≡ g i → take (i + 1) (set out i v) ≡ map g (from 0 (i + 1))
  unfolding from
  one-more i out v so h e =
      take_more_set out i v h ∙ (λ z. so z ++ (e z ∷ [])) ∙ ap (λ j. map g (from 0 i) ++ (g j ∷ [])) (sym (zero-add i)) ∙ mapped 0 i 1
