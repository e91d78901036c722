-- Where a list lies in a longer one: at a place, and not beyond the end. Assumes nothing.
use Rattle.std.specs.Prelude.{ℕ, ◌+◌, ◌≤◌, ◌≡◌, refl, List, [], ◌++◌, length, take, drop}
use Rattle.std.proofs.Common.{add_assoc, arith, sym, ap, ◌∙◌, subst, length-append, length-drop, length-take-le, drop-drop, take-add, take_at, drop_at}
use Rattle.std.proofs.Math.Seq.{take-length}
use Rattle.rules.specs.Words.{stretch}

module _ {A : Type 0} (bs : List A) where
  pub record Lies (at : ℕ) (x : List A) : Type 0 where
    pub inside : at + length x ≤ length bs
    pub there : stretch at (length x) bs ≡ x

  pub lies-none : (at : ℕ) → at ≤ length bs → Lies at []
  lies-none at h = record { inside = omega arith; there = refl }

  pub lies_whole : Lies 0 bs
  lies_whole = record { inside = omega arith; there = take-length bs }

  -- what lies there at its whole length is all there is
  pub lies-all : (x : List A) → Lies 0 x → length x ≡ length bs → x ≡ bs
  lies-all x l h = sym l.there ∙ ap (λ n. take n bs) h ∙ take-length bs

  -- ---- one after another

  stretch-long : (at n : ℕ) → at + n ≤ length bs → length (stretch at n bs) ≡ n
  stretch-long at n h = length-take-le n (drop at bs) (subst (λ m. n ≤ m) (sym (length-drop at bs)) (omega arith))

  stretch-both : (at n m : ℕ) → stretch at (n + m) bs ≡ stretch at n bs ++ stretch (at + n) m bs
  stretch-both at n m = take-add n m (drop at bs) ∙ ap (λ l. stretch at n bs ++ take m l) (drop-drop n at bs)

  pub after_both : (at : ℕ) (x y : List A) → at + length x + length y ≡ at + length (x ++ y)
  after_both at x y = add_assoc at (length x) (length y) ∙ ap (λ n. at + n) (sym (length-append x y))

  both-there : (at : ℕ) (x y : List A) → Lies at (x ++ y) → stretch at (length x) bs ++ stretch (at + length x) (length y) bs ≡ x ++ y
  both-there at x y l = sym (stretch-both at (length x) (length y)) ∙ ap (λ n. stretch at n bs) (sym (length-append x y)) ∙ l.there

  front_long : (at : ℕ) (x y : List A) → Lies at (x ++ y) → length (stretch at (length x) bs) ≡ length x
  front_long at x y l = stretch-long at (length x) (omega (arith, l.inside, after_both at x y))

  pub lies-front : (at : ℕ) (x y : List A) → Lies at (x ++ y) → Lies at x
  lies-front at x y l =
      record {
        inside = omega (arith, l.inside, after_both at x y);
        there = sym (take_at (stretch at (length x) bs) _ (length x) (front_long at x y l)) ∙ ap (take (length x)) (both-there at x y l) ∙ take_at x y (length x) refl;
      }

  pub lies-rest : (at : ℕ) (x y : List A) → Lies at (x ++ y) → Lies (at + length x) y
  lies-rest at x y l =
      record {
        inside = omega (arith, l.inside, after_both at x y);
        there = sym (drop_at (stretch at (length x) bs) _ (length x) (front_long at x y l)) ∙ ap (drop (length x)) (both-there at x y l) ∙ drop_at x y (length x) refl;
      }

  pub lies-both : (at : ℕ) (x y : List A) → Lies at x → Lies (at + length x) y → Lies at (x ++ y)
  lies-both at x y k l =
      record {
        inside = omega (arith, l.inside, after_both at x y);
        there =
            ap (λ n. stretch at n bs) (length-append x y) ∙ stretch-both at (length x) (length y)
            ∙ (λ i. k.there i ++ l.there i);
      }
