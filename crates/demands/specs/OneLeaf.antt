-- Every fixture in exactly one leaf. A kept row, walked through the table that is left with the values that it was trained on, ends in a leaf and passes through no other; and its count is
-- at most the one beside that leaf. The counts of all leaves add up to the counts of all kept rows. It holds of every tree of every fit that answers, because the table is good, and because
-- a node's count is the sum of the counts of the kept rows that pass through it. Assumes nothing.
use Rattle.std.specs.Prelude.{ℕ, ◌+◌, ◌<◌, ◌≤◌, ◌≢◌, Bool, ◌&&◌, length, get_or, T, Float}
use Rattle.std.proofs.Common.{zero-add, arith, ap, ◌∙◌}
use Rattle.std.proofs.Math.Path.{◌≡◌, refl, sym, subst}
use Rattle.std.proofs.Math.Bool.{true, false, cond}
use mathlib.Core.List.{List, [], ◌∷◌}
use Rattle.rules.specs.Words.{from, put_if, keep, total}
use Rattle.rules.specs.Lent.{Data, OneTree, Entry, count_in, kept, kept_rows}
use Rattle.rules.specs.Draws.{Tapes}
use Rattle.rules.specs.Growth.{State}
use Rattle.rules.specs.Table.{is_leaf, good_tree}
use Rattle.rules.specs.Reading.{no_entry, walked}
use Rattle.lemmas.specs.Lists.{every-all, every-imp, keep-keep, total-same, total-none, total-both, total-keep, from-below}
use Rattle.lemmas.specs.Once.{sum-out, sum-alone}
use Rattle.lemmas.specs.Root.{Listed}
use Rattle.lemmas.specs.Tables.{stands_good}
use Rattle.lemmas.specs.Passes.{passes, walk-passes, one-leaf}
use Rattle.lemmas.specs.FitHistory.{Grown, trained, stands_at}
use Rattle.demands.specs.Walks.{walk_ends}
use Rattle.demands.specs.Support.{kept_count}
use Rattle.demands.specs.TreesLeft.{Left, OfEveryTree, left_of, of-every-tree}
use Rattle.demands.specs.Through.{grown-through}

-- ---- the statements

-- where a walk from the root ends
abbrev pub end_of : List Entry → List Float → ℕ
end_of es xs = walked (length es) es xs 0

-- node k is the one leaf that a row with values xs passes through
pub record OneLeaf (es : List Entry) (xs : List Float) (k : ℕ) : Type 0 where
  pub inside : k < length es
  pub leaf : is_leaf (get_or es k no_entry) ≡ true
  pub through : passes es xs k ≡ true
  pub alone : (m : ℕ) → is_leaf (get_or es m no_entry) ≡ true → passes es xs m ≡ true → m ≡ k

-- a kept row ends there, and its count is at most the one beside it
abbrev pub EndsInOne : OneTree → Data → Left → Type 0
EndsInOne F D L =
    (i : ℕ) → i < F.rows → kept F i ≡ true
    → OneLeaf L.entries (trained F D i) (end_of L.entries (trained F D i)) × (count_in F.counts i ≤ get_or L.counts (end_of L.entries (trained F D i)) 0)

-- the counts of the leaves, added up
abbrev pub in_leaves : Left → ℕ
in_leaves L = total (λ k. cond (is_leaf (get_or L.entries k no_entry)) (get_or L.counts k 0) 0) (from 0 (length L.entries))

abbrev pub LeavesHoldAll : OneTree → Data → Left → Type 0
LeavesHoldAll F D L = in_leaves L ≡ kept_count F

-- ---- a row's leaf

leaf-of : (features : ℕ) (es : List Entry) → T (good_tree features es) → (xs : List Float) → OneLeaf es xs (end_of es xs)
leaf-of features es good xs =
    let e = walk_ends features es good xs in
    record { inside = e.0; leaf = e.1; through = walk-passes es xs; alone = λ m l h. one-leaf es xs m l h }

-- one that passes a test weighs no more than all that do
one_of_all : (c : ℕ → ℕ) (p q : ℕ → Bool) (n i : ℕ) → i < n → p i ≡ true → q i ≡ true → c i ≤ total c (keep q (keep p (from 0 n)))
one_of_all c p q n i l hp hq =
    omega (arith, ap (total c) (keep-keep q p (from 0 n)) ∙ total-keep c (λ k. p k && q k) (from 0 n) ∙ sum-out (λ k. cond (p k && q k) (c k) 0) i 0 n (omega arith) (omega (arith, l)), weighs)
  where
    weighs : cond (p i && q i) (c i) 0 ≡ c i
    weighs = λ r. cond (hp r && hq r) (c i) 0

-- ---- all leaves together

module _ (es : List Entry) (c : ℕ → ℕ) (xs : ℕ → List Float) (ends : (i : ℕ) → OneLeaf es (xs i) (end_of es (xs i))) where
  abbrev leaf_at : ℕ → Bool
  leaf_at k = is_leaf (get_or es k no_entry)

  abbrev passes_at : ℕ → ℕ → Bool
  passes_at k i = passes es (xs i) k

  -- a row's count, in the one leaf that it passes through
  in_one : (i : ℕ) → total (λ k. cond (leaf_at k && passes_at k i) (c i) 0) (from 0 (length es)) ≡ c i
  in_one i =
      sum-alone (λ k. cond (leaf_at k && passes_at k i) (c i) 0) (end_of es (xs i)) (length es) (ends i).inside (λ k d. other k d (leaf_at k) refl (passes_at k i) refl)
      ∙ (λ r. cond ((ends i).leaf r && (ends i).through r) (c i) 0)
    where
      other : (k : ℕ) → k ≢ end_of es (xs i) → (a : Bool) → leaf_at k ≡ a → (b : Bool) → passes_at k i ≡ b → cond (a && b) (c i) 0 ≡ 0
      other k d true p true q = absurd (d ((ends i).alone k p q))
      other k d true p false q = refl
      other k d false p b q = refl

  in_all : (is : List ℕ) → total (λ k. cond (leaf_at k) (total c (keep (passes_at k) is)) 0) (from 0 (length es)) ≡ total c is
  unfolding total keep put_if
  in_all [] = total-none _ (from 0 (length es)) (every-all _ (λ k. either (leaf_at k)) (from 0 (length es)))
    where
      either : (b : Bool) → ◌≡◌ {A = ℕ} (cond b 0 0) 0
      either true = refl
      either false = refl
  in_all (i ∷ is) =
      total-same _ _ (from 0 (length es)) (every-all _ (λ k. first (leaf_at k) (passes_at k i) (keep (passes_at k) is)) (from 0 (length es)))
      ∙ total-both (λ k. cond (leaf_at k && passes_at k i) (c i) 0) (λ k. cond (leaf_at k) (total c (keep (passes_at k) is)) 0) (from 0 (length es))
      ∙ (λ r. in_one i r + in_all is r)
    where
      first : (a b : Bool) (l : List ℕ) → cond a (total c (put_if b i l)) 0 ≡ cond (a && b) (c i) 0 + cond a (total c l) 0
      first true true l = refl
      first true false l = sym (zero-add (total c l))
      first false b l = refl

-- ---- of every tree

module _ (F : OneTree) (D : Data) (l : Listed F D) (some : 0 < F.params.features) (s : State Tapes) (g : Grown F D s) where
  abbrev left : Left
  left = left_of F D s

  ends_at : (i : ℕ) → OneLeaf left.entries (trained F D i) (end_of left.entries (trained F D i))
  ends_at i = leaf-of F.params.features left.entries (stands_good F.params s.nodes (stands_at l g)) (trained F D i)

  grown-ends : EndsInOne F D left
  unfolding kept_rows
  grown-ends i h k = (
    ends_at i,
    subst (λ n. count_in F.counts i ≤ n) (sym (grown-through F D l some s g (end_of left.entries (trained F D i)) (ends_at i).inside))
        (one_of_all (count_in F.counts) (kept F) (λ j. passes left.entries (trained F D j) (end_of left.entries (trained F D i))) F.rows i h k (ends_at i).through),
  )

  grown-hold : LeavesHoldAll F D left
  grown-hold =
      total-same _ _ (from 0 (length left.entries))
      (every-imp _ _ (λ k b. ap (λ n. cond (is_leaf (get_or left.entries k no_entry)) n 0) (grown-through F D l some s g k (subst (λ n. k < n) (zero-add (length left.entries)) b)))
      (from 0 (length left.entries)) (from-below 0 (length left.entries)))
      ∙ in_all left.entries (count_in F.counts) (trained F D) ends_at (kept_rows F)

pub ends-in-one : OfEveryTree EndsInOne
ends-in-one = of-every-tree EndsInOne grown-ends

pub leaves-hold-all : OfEveryTree LeavesHoldAll
leaves-hold-all = of-every-tree LeavesHoldAll grown-hold
