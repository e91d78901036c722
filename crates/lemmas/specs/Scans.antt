-- Laws of loops: over the entries of a list up to the first that fails its test, and over the numbers below n. A turn goes on, or stops, or nothing is left. Assumes nothing.
use Prim.Native.Nat.{ℕ, suc, ◌+◌, ◌-◌, ◌<◌, ◌≤◌}
use Rattle.std.proofs.Common.{add-one, ◌∙◌, drop_of_length-le, drop-cons, lt-ltb, le-ltb}
use native.Mathlib.Omega.{arith}
use Rattle.std.specs.Prelude.{◌≡◌, Bool, false, not, ◌&&◌, get_or, drop, ltb}
use Rattle.std.proofs.Math.Path.{sym, ap}
use Rattle.std.proofs.Math.Bool.{true}
use mathlib.Core.List.{List, [], ◌∷◌}
use Rattle.std.proofs.Math.ListN.{length}
use Rattle.rules.specs.Words.{from, every, total, member, fresh}

-- all that is asked is what is left to ask
module _ {all rest : Bool} (b next : Bool) (so : all ≡ rest) (turn : rest ≡ (b && next)) where
  goes : b ≡ true → all ≡ next
  goes h = so ∙ turn ∙ ap (λ z. z && next) h

  stops : b ≡ false → false ≡ all
  stops h = sym (so ∙ turn ∙ ap (λ z. z && next) h)

module _ {ℓ} {A : Type ℓ} where
  pub drop-next : (l : List A) (i : ℕ) (d : A) → i < length l → drop i l ≡ get_or l i d ∷ drop (i + 1) l
  drop-next l i d h = drop-cons l i d h ∙ ap (λ n. get_or l i d ∷ drop n l) (sym (add-one i))

-- ---- the numbers from i up to n

-- of a run that starts at a, those from its i-th on
pub range-next : (a i n : ℕ) → i < n → from a (n - i) ≡ a ∷ from (suc a) (n - (i + 1))
unfolding from
range-next a i n h = ap (from a) (more n i h)
  where
    more : (n i : ℕ) → i < n → n - i ≡ suc (n - (i + 1))
    more n i h = omega arith

pub range-end : (a i n : ℕ) → n ≤ i → from a (n - i) ≡ []
unfolding from
range-end a i n h = ap (from a) (none n i h)
  where
    none : (n i : ℕ) → n ≤ i → n - i ≡ 0
    none n i h = omega arith

pub range_all : (a n : ℕ) → from a n ≡ from a (n - 0)
range_all a n = ap (from a) (all n)
  where
    all : (n : ℕ) → n ≡ n - 0
    all n = omega arith

pub from_next : (i n : ℕ) → i < n → from i (n - i) ≡ i ∷ from (i + 1) (n - (i + 1))
from_next i n h = range-next i i n h ∙ ap (λ k. i ∷ from k (n - (i + 1))) (sym (add-one i))

-- ---- a test of each of them

abbrev pub every_on : (ℕ → Bool) → ℕ → ℕ → Bool
every_on p n i = every p (from i (n - i))

module _ (p : ℕ → Bool) (n i : ℕ) where
  count_next : i < n → every_on p n i ≡ (p i && every_on p n (i + 1))
  unfolding every
  count_next h = ap (every p) (from_next i n h)

  pub count-goes : {all : Bool} → i < n → all ≡ every_on p n i → p i ≡ true → all ≡ every_on p n (i + 1)
  count-goes h so t = goes _ _ so (count_next h) t

  pub count-stops : {all : Bool} → i < n → all ≡ every_on p n i → p i ≡ false → false ≡ all
  count-stops h so t = stops _ _ so (count_next h) t

  pub count-ends : {all : Bool} → n ≤ i → all ≡ every_on p n i → true ≡ all
  unfolding every
  count-ends h so = sym (so ∙ ap (every p) (range-end i i n h))

pub count-starts : (p : ℕ → Bool) (n : ℕ) → every p (from 0 n) ≡ every_on p n 0
count-starts p n = ap (every p) (range_all 0 n)

-- ---- what they weigh together

abbrev pub total_on : (ℕ → ℕ) → ℕ → ℕ → ℕ
total_on f n i = total f (from i (n - i))

module _ (f : ℕ → ℕ) (n i : ℕ) where
  total-next : i < n → total_on f n i ≡ f i + total_on f n (i + 1)
  unfolding total
  total-next h = ap (total f) (from_next i n h)

  pub total-adds : {whole : ℕ} (sum r : ℕ) → i < n → whole ≡ sum + total_on f n i → r ≡ f i → whole ≡ sum + r + total_on f n (i + 1)
  total-adds sum r h so e = omega (arith, total-next h)

  pub total-ends : {whole : ℕ} (sum : ℕ) → n ≤ i → whole ≡ sum + total_on f n i → sum ≡ whole
  unfolding total
  total-ends sum h so = omega (arith, ap (total f) (range-end i i n h))

-- ---- numbers below n, none of them twice

module _ (n : ℕ) (l : List ℕ) (seen : List ℕ) (i : ℕ) (h : i < length l) (so : fresh n [] l ≡ fresh n seen (drop i l)) where
  fresh-next : fresh n seen (drop i l) ≡ ((ltb (get_or l i 0) n && not (member (get_or l i 0) seen)) && fresh n (get_or l i 0 ∷ seen) (drop (i + 1) l))
  unfolding fresh
  fresh-next = ap (fresh n seen) (drop-next l i 0 h)

  pub fresh-goes : get_or l i 0 < n → member (get_or l i 0) seen ≡ false → fresh n [] l ≡ fresh n (get_or l i 0 ∷ seen) (drop (i + 1) l)
  fresh-goes b m = goes _ _ so fresh-next (λ r. lt-ltb (get_or l i 0) n b r && not (m r))

  pub fresh-out : n ≤ get_or l i 0 → false ≡ fresh n [] l
  fresh-out b = stops _ _ so fresh-next (λ r. le-ltb (get_or l i 0) n b r && not (member (get_or l i 0) seen))

  pub fresh-twice : get_or l i 0 < n → member (get_or l i 0) seen ≡ true → false ≡ fresh n [] l
  fresh-twice b m = stops _ _ so fresh-next (λ r. lt-ltb (get_or l i 0) n b r && not (m r))

pub fresh-ends : (n : ℕ) (l seen : List ℕ) (i : ℕ) → length l ≤ i → fresh n [] l ≡ fresh n seen (drop i l) → true ≡ fresh n [] l
unfolding fresh
fresh-ends n l seen i h so = sym (so ∙ ap (fresh n seen) (drop_of_length-le l h))
