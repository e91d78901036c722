-- What the methods of iterators and slices answer, in the rules' words. Assumes nothing.
use Rattle.std.specs.Prelude.{ℕ, zero, suc, ◌+◌, ◌<◌, ◌≡◌, refl, Bool, true, false, ◌&&◌, List, [], ◌∷◌, length, get_or, Option, leb, MatchOption}
use Rattle.std.proofs.Common.{sym, ap, subst, ◌∙◌, add-one, arith}
use Rattle.std.proofs.Math.Bool.{and-false, cond}
use denote.Param.Members.{Mut}
use Rattle.std.specs.Fn.{Called}
use Rattle.std.specs.Iterator.{YieldsThen}
use Rattle.std.specs.List.{list_all, filter, sum_by, range_with_len, FoldsTo, IsAllAdjacentAnswer}
use Rattle.std.specs.Ordering.{is_le, nat_cmp}
use Rattle.std.proofs.lemmas.Bool.Decides.{nat_tests}
use Rattle.std.proofs.lemmas.Iterator.{YieldsList}
use Rattle.std.proofs.lemmas.Iterator.Search.{all_from_yields_List}
use Rattle.std.proofs.lemmas.List.Sums.{sum_by-cons}
use Rattle.rules.specs.Words.{from, put_if, keep, every, along, along_from, total}

every_all : {A : Type 0} (p : A → Bool) (l : List A) → list_all p l ≡ every p l
unfolding every
every_all p [] = refl
every_all p (x ∷ l) = ap (λ b. p x && b) (every_all p l)

-- `all` answers `every` of the test that its closure computes. For `xs.iter().all(f)` the answer is
-- `every-from_all p _ _ _ c.all.ensures.ran (YieldsList-from_slice c.args.xs.now cc) (λ x b q k. search (rules, tests))`.
pub every-from_all : {S A B F : Type 0} {steps : S → Option A → S → Type 0} {v : A → B} {g : Mut F (A × Unit {0}) Bool} {s : S} {all : List B} (test : B → Bool) (u : S) (f : F) (r : Bool)
    → (xs : List A) × (o : Option A) × (j : F) × YieldsThen steps s xs o u × FoldsTo (λ p x q. Called g p (x, tt) true q) f xs j
    × MatchOption o (r ≡ true) (λ x. (r ≡ false) × ((h : F) × Called g j (x, tt) false h))
    → YieldsList steps v s all → ((x : A) (b : Bool) (q : F) → Called g f (x, tt) b q → (q ≡ f) × (b ≡ test (v x))) → r ≡ every test all
every-from_all {all = all} test u f r ran chain calls = all_from_yields_List test u f r ran chain calls ∙ every_all test all

-- `is_sorted` and `is_sorted_by` answer whether every entry passes a test with the one after it
module _ {A : Type 0} (p : A → A → Bool) where
  rises : (x : A) (l : List A) → ((k : ℕ) (d : A) → suc k < length (x ∷ l) → p (get_or (x ∷ l) k d) (get_or (x ∷ l) (suc k) d) ≡ true) → along_from p x l ≡ true
  unfolding along_from
  rises x [] h = refl
  rises x (y ∷ l) h = λ i. h 0 x (omega arith) i && rises y l (λ k d b. h (suc k) d (omega (arith, b))) i

  falls : (x : A) (l : List A) (k : ℕ) → suc k < length (x ∷ l) → ((d : A) → p (get_or (x ∷ l) k d) (get_or (x ∷ l) (suc k) d) ≡ false) → along_from p x l ≡ false
  unfolding along_from
  falls x [] k b h = absurd (omega (arith, b))
  falls x (y ∷ l) zero b h = ap (λ z. z && along_from p y l) (h x)
  falls x (y ∷ l) (suc k) b h = ap (λ z. p x y && z) (falls y l k (omega (arith, b)) h) ∙ and-false (p x y)

  module _ (E : A → A → Bool → Type 0) (so : (x y : A) (b : Bool) → E x y b → p x y ≡ b) where
    pub along-from_sorted : (l : List A) (r : Bool) → IsAllAdjacentAnswer E l r → r ≡ along p l
    unfolding along
    along-from_sorted [] true h = refl
    along-from_sorted [] false (k, b, h) = absurd (omega (arith, b))
    along-from_sorted (x ∷ l) true h = sym (rises x l (λ k d b. so _ _ true (next k d (h k d (omega (arith, b))))))
      where
        next : (k : ℕ) (d : A) → E (get_or (x ∷ l) k d) (get_or (x ∷ l) (k + 1) d) true → E (get_or (x ∷ l) k d) (get_or (x ∷ l) (suc k) d) true
        next k d e = subst (λ n. E (get_or (x ∷ l) k d) (get_or (x ∷ l) n d) true) (add-one k) e
    along-from_sorted (x ∷ l) false (k, b, h) = sym (falls x l k (omega (arith, b)) (λ d. so _ _ false (subst (λ n. E (get_or (x ∷ l) k d) (get_or (x ∷ l) n d) false) (add-one k) (h d))))

-- numbers are compared so
pub leb-from_cmp : (x y : ℕ) → leb x y ≡ is_le (nat_cmp x y)
leb-from_cmp x y = grind (arith, nat_tests)

-- ---- the rules' lists and the library's

-- a range's numbers
pub from-range : (a n : ℕ) → range_with_len a n ≡ from a n
unfolding from
from-range a zero = refl
from-range a (suc n) = ap (λ b. a ∷ range_with_len b n) (add-one a) ∙ ap (λ l. a ∷ l) (from-range (suc a) n)

-- what `filter` lets through
pub keep-filter : {A : Type 0} (p : A → Bool) (l : List A) → filter p l ≡ keep p l
unfolding keep put_if
keep-filter p [] = refl
keep-filter p (x ∷ l) = go (p x) (keep-filter p l)
  where
    go : (b : Bool) → filter p l ≡ keep p l → cond b (x ∷ filter p l) (filter p l) ≡ put_if b x (keep p l)
    go true e = ap (λ k. x ∷ k) e
    go false e = e

-- what `sum` after `map` adds up
pub total-sum_by : {A : Type 0} (f : A → ℕ) (l : List A) → sum_by f l ≡ total f l
unfolding total
total-sum_by f [] = refl
total-sum_by f (x ∷ l) = sum_by-cons f x l ∙ ap (λ n. f x + n) (total-sum_by f l)
