-- Root totals and counts, and the kept rows of a listing, by the loops that make them. Assumes nothing.
use Rattle.std.specs.Prelude.{ℕ, suc, ◌+◌, ◌-◌, ◌*◌, ◌<◌, ◌≤◌, ◌≡◌, refl, Bool, List, [], ◌∷◌, map, length, T, leb, Float}
use Rattle.std.proofs.Common.{add-zero, add_comm, zero-mul, suc-mul, add-one, arith, ◌∙◌, subst, leb→le}
use Rattle.std.proofs.Math.Path.{sym, ap}
use Rattle.std.proofs.Math.Bool.{true, false}
use Rattle.rules.specs.declared.Totals.{Totals}
use Rattle.rules.specs.Words.{from, keep, put_if, total}
use Rattle.rules.specs.Lent.{unweighted, count_in}
use Rattle.rules.specs.Totals.{empty, take_in}
use Rattle.rules.specs.Search.{Element, totals_of}
use Rattle.rules.specs.Fit.{element_in}
use Rattle.lemmas.specs.Lists.{Every, every-all, every-or, total-le, keep-short, length_from}
use Rattle.work_columns.specs.Columns.{bare, Counted}

-- a passed check says it so
pub counted-passed : (rows : ℕ) (weights : List Float) (counts : List ℕ) → length counts ≡ rows → (unweighted weights ≡ false → length weights ≡ rows) → Counted rows weights counts
unfolding unweighted
counted-passed rows [] counts c w = record { counted = c; weighed = λ h. absurd (none h) }
  where
    none : 0 < 0 → ⊥
    none h = omega arith
counted-passed rows (x ∷ ws) counts c w = record { counted = c; weighed = λ h. w refl }

-- ---- rows by number

-- the next row, and those after it
pub from_next : (i n : ℕ) → i < n → from i (n - i) ≡ i ∷ from (i + 1) (n - (i + 1))
unfolding from
from_next i n h = ap (from i) (one i n h) ∙ ap (λ k. i ∷ from k (n - (i + 1))) (sym (add-one i))
  where
    one : (i n : ℕ) → i < n → n - i ≡ suc (n - (i + 1))
    one i n h = omega arith

pub from_end : (i n : ℕ) → n ≤ i → from i (n - i) ≡ []
unfolding from
from_end i n h = ap (from i) (none i n h)
  where
    none : (i n : ℕ) → n ≤ i → n - i ≡ 0
    none i n h = omega arith

pub kept-few : (p : ℕ → Bool) (rows : ℕ) → length (keep p (from 0 rows)) ≤ rows
kept-few p rows = omega (arith, keep-short p (from 0 rows), length_from 0 rows)

-- ---- totals look at targets and masses alone

pub totals-bare : (features : ℕ) (values targets weights : List Float) (counts : List ℕ) (t : Totals) (l : List ℕ)
    → totals_of t (map (element_in features values targets weights counts) l) ≡ totals_of t (map (bare targets weights counts) l)
unfolding totals_of element_in
totals-bare features values targets weights counts t [] = refl
totals-bare features values targets weights counts t (i ∷ l) =
    totals-bare features values targets weights counts (take_in t (element_in features values targets weights counts i).target (element_in features values targets weights counts i).mass) l

-- a loop that takes in one row after another
pub record Adding (el : ℕ → Element) (n : ℕ) (t : Totals) (i : ℕ) : Type 0 where
  pub within : i ≤ n
  pub so : totals_of t (map el (from i (n - i))) ≡ totals_of empty (map el (from 0 n))

module _ (el : ℕ → Element) (n : ℕ) where
  pub adding-turn : (t u : Totals) (i : ℕ) → Adding el n t i → i < n → u ≡ take_in t (el i).target (el i).mass → Adding el n u (i + 1)
  unfolding totals_of
  adding-turn t u i s h e =
      record {
        within = omega arith;
        so = ap (λ v. totals_of v (map el (from (i + 1) (n - (i + 1))))) e ∙ ap (λ l. totals_of t (map el l)) (sym (from_next i n h)) ∙ s.so;
      }

  pub adding-done : (t : Totals) (i : ℕ) → Adding el n t i → n ≤ i → t ≡ totals_of empty (map el (from 0 n))
  unfolding totals_of
  adding-done t i s h = ap (λ l. totals_of t (map el l)) (sym (from_end i n h)) ∙ s.so

-- ---- the kept counts' sum

-- k and the kept rows from i on make the sum of all
pub record Counting (f : ℕ → ℕ) (p : ℕ → Bool) (n k i : ℕ) : Type 0 where
  pub within : i ≤ n
  pub so : k + total f (keep p (from i (n - i))) ≡ total f (keep p (from 0 n))

module _ (f : ℕ → ℕ) (p : ℕ → Bool) (n : ℕ) where
  module _ (k i : ℕ) (s : Counting f p n k i) (h : i < n) where
    rest : ℕ
    rest = total f (keep p (from (i + 1) (n - (i + 1))))

    next : (b : Bool) → p i ≡ b → k + total f (put_if b i (keep p (from (i + 1) (n - (i + 1))))) ≡ total f (keep p (from 0 n))
    unfolding keep
    next b e = ap (λ c. k + total f (put_if c i (keep p (from (i + 1) (n - (i + 1)))))) (sym e) ∙ ap (λ l. k + total f (keep p l)) (sym (from_next i n h)) ∙ s.so

    kept-sum : p i ≡ true → k + (f i + rest) ≡ total f (keep p (from 0 n))
    unfolding put_if total rest
    kept-sum e = next true e

    pub counting-fits : p i ≡ true → k + f i ≤ total f (keep p (from 0 n))
    counting-fits e = omega (arith, kept-sum e)

    pub counting_kept : p i ≡ true → Counting f p n (k + f i) (i + 1)
    unfolding rest
    counting_kept e = record { within = omega arith; so = omega (arith, kept-sum e) }

    pub counting-left : p i ≡ false → Counting f p n k (i + 1)
    unfolding put_if
    counting-left e = record { within = omega arith; so = next false e }

  pub counting-done : (k i : ℕ) → Counting f p n k i → n ≤ i → k ≡ total f (keep p (from 0 n))
  unfolding keep total
  counting-done k i s h = sym (add-zero k) ∙ ap (λ l. k + total f (keep p l)) (sym (from_end i n h)) ∙ s.so

times : (k : ℕ) (l : List ℕ) → total (λ i. k) l ≡ length l * k
unfolding total
times k [] = sym (zero-mul k)
times k (i ∷ l) = ap (λ n. k + n) (times k l) ∙ turn (length l)
  where
    turn : (n : ℕ) → k + n * k ≡ suc n * k
    turn n = add_comm k (n * k) ∙ sym (suc-mul n k)

-- counts up to 65,535, of so many rows at most, add up to a u32
pub low-total : (counts : List ℕ) (rows : ℕ) (p : ℕ → Bool) → rows ≤ 65535 → Every (λ c. T (leb c 65535)) counts → total (count_in counts) (keep p (from 0 rows)) < 4294967296
unfolding count_in
low-total counts rows p few low = small (total (count_in counts) (keep p (from 0 rows))) (length (keep p (from 0 rows))) bound (kept-few p rows) few
  where
    one : (i : ℕ) → count_in counts i ≤ 65535
    one i = leb→le (count_in counts i) 65535 (every-or (λ c. T (leb c 65535)) counts 0 i low tt)

    bound : total (count_in counts) (keep p (from 0 rows)) ≤ length (keep p (from 0 rows)) * 65535
    bound =
        subst (λ m. total (count_in counts) (keep p (from 0 rows)) ≤ m) (times 65535 (keep p (from 0 rows)))
        (total-le (count_in counts) (λ i. 65535) (keep p (from 0 rows)) (every-all _ one (keep p (from 0 rows))))

    small : (t k : ℕ) → t ≤ k * 65535 → k ≤ rows → rows ≤ 65535 → t < 4294967296
    small t k a b c = omega arith
