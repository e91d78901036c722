-- A loop that writes one value over a list from the front, at any element type. Assumes nothing.
use Rattle.std.specs.Prelude.{ℕ, zero, suc, ◌+◌, ◌<◌, ◌≤◌, ◌≡◌, refl, List, [], ◌∷◌, ◌++◌, length, set, take, drop}
use Rattle.std.proofs.Common.{not-suc-le-zero, le_of_suc-le-suc, add-one, arith, sym, ap, ◌∙◌, append-nil, length-set, drop_of_length-le, take_all}
use Rattle.rules.specs.Words.{filled}

-- v at the first n places of d
pub record Filling {A : Type 0} (v : A) (d b : List A) (n : ℕ) : Type 0 where
  pub within : n ≤ length d
  pub long : length b ≡ length d
  pub so : b ≡ filled v (take n d) ++ drop n d

module _ {A : Type 0} (v : A) where
  one_more : (d : List A) (n : ℕ) → n < length d → set (filled v (take n d) ++ drop n d) n v ≡ filled v (take (suc n) d) ++ drop (suc n) d
  one_more [] n h = absurd (not-suc-le-zero h)
  one_more (x ∷ d) zero h = refl
  one_more (x ∷ d) (suc n) h = ap (λ l. v ∷ l) (one_more d n (le_of_suc-le-suc h))

  pub fill_start : (d : List A) → Filling v d d 0
  fill_start d = record { within = omega arith; long = refl; so = refl }

  pub fill-turn : (d b : List A) (n : ℕ) → Filling v d b n → n < length d → Filling v d (set b n v) (n + 1)
  fill-turn d b n f h =
      record {
        within = omega arith;
        long = length-set b n v ∙ f.long;
        so = ap (λ l. set l n v) f.so ∙ one_more d n h ∙ ap (λ k. filled v (take k d) ++ drop k d) (sym (add-one n));
      }

  pub fill_done : (d b : List A) (n : ℕ) → Filling v d b n → length d ≤ n → b ≡ filled v d
  fill_done d b n f h =
      f.so ∙ ap (λ l. filled v (take n d) ++ l) (drop_of_length-le d h) ∙ append-nil (filled v (take n d)) ∙ ap (filled v) (take_all n d h)
