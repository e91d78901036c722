-- Parts laid end to end are the whole. Where the lengths are as check 2 asks, the rows' values make the values, the features' listings the listings, the trees' counts
-- the counts and, by good starts in the tapes, the trees' parts each tape: every part has the length that is its own, and the parts in their order leave nothing out and have
-- nothing twice. It holds because each begins where the one before it ends, the first at 0 and the last at the end. Assumes nothing.
use Prim.Native.Nat.{ℕ, zero, suc, ◌+◌, ◌-◌, ◌*◌, ◌<◌, ◌≤◌}
use Rattle.std.proofs.Math.Nat.{add-zero}
use Rattle.std.proofs.Common.{zero-mul, suc-mul, arith, ◌∙◌, subst, length-drop, drop_of_length-le, length-take-le, drop-drop, eqb→eq}
use Rattle.std.specs.Prelude.{◌≡◌, ◌&&◌, ◌||◌, get_or, T, leb, eqb}
use Rattle.std.proofs.Math.Path.{sym, ap}
use mathlib.Core.List.{List, ◌++◌, map, flatten}
use Rattle.std.proofs.Math.ListN.{length, drop, take-append-drop}
use Rattle.rules.specs.declared.Shape.{Shape}
use Rattle.rules.specs.Words.{from, along, stretch}
use Rattle.rules.specs.Lent.{Given, values_at, listing_at, unweighted}
use Rattle.rules.specs.Checks.{lengths, good_tape_starts}
use Rattle.rules.specs.Forest.{ForestCall, part, one_tree_at, tapes_good}
use Rattle.lemmas.specs.Lists.{same-default}
use Rattle.lemmas.specs.Passed.{and3, and4, and5, part_at}

-- ---- the statements

-- n parts, part t of length size t, that end to end are the whole
pub record Divided {A : Type 0} (whole : List A) (n : ℕ) (size : ℕ → ℕ) (part : ℕ → List A) : Type 0 where
  pub sizes : (t : ℕ) → t < n → length (part t) ≡ size t
  pub laid : flatten (map part (from 0 n)) ≡ whole

-- of the data, whichever fit it is lent to
pub record DataDivided (S : Shape) (G : Given) : Type 0 where
  pub values : Divided G.inputs.values S.rows (λ i. S.features) (values_at S.features G.inputs.values)
  pub listings : Divided G.inputs.listings S.features (λ j. S.rows) (listing_at S.rows G.inputs.listings)

abbrev pub DataParts : Type 0
DataParts = (S : Shape) (trees : ℕ) (G : Given) → T (lengths S trees G) → DataDivided S G

-- the places between cut t and the next
abbrev pub part_size : List ℕ → ℕ → ℕ
part_size starts t = get_or starts (suc t) 0 - get_or starts t 0

-- of what each tree of a forest grows by
pub record TreesDivided (C : ForestCall) : Type 0 where
  pub counts : Divided C.given.counts C.trees (λ t. C.shape.rows) (λ t. (one_tree_at C t).counts)
  pub words : Divided C.words C.trees (part_size C.word_starts) (λ t. (one_tree_at C t).words)
  pub thresholds : Divided C.thresholds C.trees (part_size C.threshold_starts) (λ t. (one_tree_at C t).thresholds)

abbrev pub TreeParts : Type 0
TreeParts = (C : ForestCall) → T (lengths C.shape C.trees C.given && tapes_good C) → TreesDivided C

-- ---- one law for all: part t is size t entries from place at t on

module _ {A : Type 0} (l : List A) (n : ℕ) (at size : ℕ → ℕ) (first : at 0 ≡ 0) (next : (t : ℕ) → t < n → at (suc t) ≡ at t + size t) (last : at n ≡ length l) where
  within : (k m : ℕ) → k + m ≡ n → at k ≤ length l
  within k zero e = subst (λ j. at j ≤ length l) (sym e ∙ add-zero k) (omega arith)
  within k (suc m) e = omega (arith, next k (omega arith), within (suc k) m (omega arith))

  laid_from : (k m : ℕ) → k + m ≡ n → flatten (map (λ t. stretch (at t) (size t) l) (from k m)) ≡ drop (at k) l
  unfolding from flatten
  laid_from k zero e = sym (drop_of_length-le l (subst (λ j. length l ≤ at j) (sym e ∙ add-zero k) (omega arith)))
  laid_from k (suc m) e =
      ap (λ r. stretch (at k) (size k) l ++ r) (laid_from (suc k) m (omega arith) ∙ ap (λ j. drop j l) (next k (omega arith)) ∙ sym (drop-drop (size k) (at k) l))
      ∙ take-append-drop (size k) (drop (at k) l)

  divided : Divided l n size (λ t. stretch (at t) (size t) l)
  divided =
      record {
        sizes = λ t h.
            length-take-le (size t) (drop (at t) l)
            (subst (λ k. size t ≤ k) (sym (length-drop (at t) l)) (omega (arith, next t h, within (suc t) (n - suc t) (omega arith))));
        laid = laid_from 0 n (omega arith) ∙ ap (λ j. drop j l) first;
      }

-- of one width
even : {A : Type 0} (l : List A) (n width : ℕ) → length l ≡ n * width → Divided l n (λ t. width) (λ t. stretch (t * width) width l)
even l n width e = divided l n (λ t. t * width) (λ t. width) (zero-mul width) (λ t h. suc-mul t width) (sym e)

-- of a tape
tape-parts : {A : Type 0} (trees : ℕ) (starts : List ℕ) (tape : List A) → T (good_tape_starts trees (length tape) starts) → Divided tape trees (part_size starts) (part starts tape)
unfolding part good_tape_starts
tape-parts trees starts tape g =
    let (long, z, rise, e) = and4 (eqb (length starts) (suc trees)) (eqb (get_or starts 0 1) 0) (along leb starts) (eqb (get_or starts trees (suc (length tape))) (length tape)) g in
    let known : length starts ≡ suc trees = eqb→eq _ _ long in
    divided tape trees (λ t. get_or starts t 0) (part_size starts)
    (same-default starts 0 0 1 (omega arith) ∙ eqb→eq _ _ z)
    (λ t h. back (get_or starts t 0) (get_or starts (suc t) 0) (subst (λ k. get_or starts t 0 ≤ get_or starts k 0) (plus_one t) (part_at trees (length tape) starts g t h).order))
    (same-default starts trees 0 (suc (length tape)) (omega arith) ∙ eqb→eq _ _ e)
  where
    back : (a b : ℕ) → a ≤ b → b ≡ a + (b - a)
    back a b h = omega arith

    plus_one : (t : ℕ) → t + 1 ≡ suc t
    plus_one t = omega arith

-- what check 2 says of three of them
as-asked : (S : Shape) (trees : ℕ) (G : Given) → T (lengths S trees G)
    → (length G.inputs.values ≡ S.rows * S.features) × (length G.counts ≡ trees * S.rows) × (length G.inputs.listings ≡ S.features * S.rows)
unfolding lengths
as-asked S trees G g =
    let (v, t, w, c, l) = and5 (eqb (length G.inputs.values) (S.rows * S.features)) (eqb (length G.inputs.targets) S.rows)
    (unweighted G.weights || eqb (length G.weights) S.rows) (eqb (length G.counts) (trees * S.rows)) (eqb (length G.inputs.listings) (S.features * S.rows)) g in
    (eqb→eq _ _ v, eqb→eq _ _ c, eqb→eq _ _ l)

pub data-parts : DataParts
unfolding values_at listing_at
data-parts S trees G g =
    record {
      values = even G.inputs.values S.rows S.features (as-asked S trees G g).0;
      listings = even G.inputs.listings S.features S.rows (as-asked S trees G g).2;
    }

pub tree-parts : TreeParts
unfolding one_tree_at tapes_good
tree-parts C g =
    let (n, w, t) = and3 (lengths C.shape C.trees C.given) (good_tape_starts C.trees (length C.words) C.word_starts)
    (good_tape_starts C.trees (length C.thresholds) C.threshold_starts) g in
    record {
      counts = even C.given.counts C.trees C.shape.rows (as-asked C.shape C.trees C.given n).1;
      words = tape-parts C.trees C.word_starts C.words w;
      thresholds = tape-parts C.trees C.threshold_starts C.thresholds t;
    }
