-- A tree's own part of the columns is the tree, and six rows walk through it as they do through the tree where it stands. Assumes nothing.
use Rattle.std.specs.Prelude.{ℕ, zero, suc, ◌+◌, ◌-◌, ◌<◌, ◌≤◌, min, ◌≡◌, refl, List, map, ◌∷◌, get_or, take, drop, Float}
use Rattle.std.proofs.Common.{zero-add, add-zero, arith, sym, ◌∙◌, get_or-take, get_or-drop}
use Rattle.std.proofs.Math.Path.{ap}
use Rattle.std.specs.Float.{nan}
use Rattle.rules.specs.Words.{from}
use Rattle.rules.specs.Lent.{Columns, Entry, columns_of, entry_at, entries_at, shortest}
use Rattle.rules.specs.Table.{good_tree}
use Rattle.lemmas.specs.Cells.{part_lies, part-long}
use Rattle.walks.specs.Sixes.{SixWalkable}

-- the n places from place a on, as a sub-slice has them
abbrev part {ℓ} : {A : Type ℓ} → ℕ → ℕ → List A → List A
part a n l = take (a + n - a) (drop a l)

-- of each column
abbrev pub alone : ℕ → ℕ → Columns → Columns
alone a n c = columns_of (part a n c.value) (part a n c.feature) (part a n c.threshold) (part a n c.score) (part a n c.true_child) (part a n c.false_child)

same-mapped : (f g : ℕ → Entry) (j m n : ℕ) → ((k : ℕ) → k < n → f (j + k) ≡ g (m + k)) → map f (from j n) ≡ map g (from m n)
unfolding from
same-mapped f g j m zero h = refl
same-mapped f g j m (suc n) h =
    λ i. (ap f (sym (add-zero j)) ∙ h 0 (omega arith) ∙ ap g (add-zero m)) i
    ∷ same-mapped f g (suc j) (suc m) n (λ k b. ap f (shift j k) ∙ h (suc k) (omega arith) ∙ ap g (sym (shift m k))) i
  where
    shift : (j k : ℕ) → suc j + k ≡ j + suc k
    shift j k = omega arith

module _ (a n : ℕ) (c : Columns) where
  there {ℓ} : {A : Type ℓ} (l : List A) (d : A) (k : ℕ) → k < n → get_or (part a n l) k d ≡ get_or l (a + k) d
  there l d k h = ap (λ p. get_or p k d) (part_lies a n l) ∙ get_or-take n (drop a l) k d h ∙ get_or-drop a l k d

  entry-alone : (k : ℕ) → k < n → entry_at (alone a n c) k ≡ entry_at c (a + k)
  entry-alone k h =
      λ i. record {
        value = there c.value nan k h i;
        feature = there c.feature 0 k h i;
        threshold = there c.threshold nan k h i;
        score = there c.score nan k h i;
        true_child = there c.true_child 0 k h i;
        false_child = there c.false_child 0 k h i;
      }

  pub alone-same : entries_at (alone a n c) 0 n ≡ entries_at c a n
  unfolding entries_at
  alone-same = same-mapped (entry_at (alone a n c)) (entry_at c) 0 a n (λ k h. ap (entry_at (alone a n c)) (zero-add k) ∙ entry-alone k h)

  long : a + n ≤ shortest c → shortest (alone a n c) ≡ n
  long h =
      all n _ _ _ _ _ _ (part-long a n c.value (omega arith)) (part-long a n c.feature (omega arith)) (part-long a n c.threshold (omega arith))
      (part-long a n c.score (omega arith)) (part-long a n c.true_child (omega arith)) (part-long a n c.false_child (omega arith))
    where
      all : (n a b c d e f : ℕ) → a ≡ n → b ≡ n → c ≡ n → d ≡ n → e ≡ n → f ≡ n → min a (min b (min c (min d (min e f)))) ≡ n
      all n a b c d e f p₁ p₂ p₃ p₄ p₅ p₆ = omega arith

  pub six-alone : (features i : ℕ) (xs : List Float) → SixWalkable features a n i xs c → SixWalkable features 0 n i xs (alone a n c)
  six-alone features i xs w =
      record {
        tree = record { inside = enough n (shortest (alone a n c)) (long w.tree.inside); good = ap (good_tree features) alone-same ∙ w.tree.good };
        some = w.some;
        few = w.few;
        rows = w.rows;
      }
    where
      enough : (n m : ℕ) → m ≡ n → 0 + n ≤ m
      enough n m e = omega arith
