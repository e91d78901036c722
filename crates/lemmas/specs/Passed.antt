-- What a fit knows once its checks have passed: lengths, ranges, and that its listings are in order. Assumes nothing.
use Prim.Native.Nat.{ℕ, suc, ◌+◌, ◌*◌, ◌<◌, ◌≤◌, min}
use Rattle.std.proofs.Common.{zero-add, le_trans, arith, sym, ◌∙◌, eqb→eq, Ok, Err}
use Rattle.std.proofs.Math.Decide.{ℕ_discrete}
use Rattle.std.specs.Prelude.{◌≡◌, refl, Bool, true, false, ◌&&◌, ◌||◌, cond, List, [], ◌∷◌, ◌++◌, length, leb, eqb}
use Rattle.std.proofs.Math.Path.{ap, subst}
use Rattle.std.proofs.Math.Bool.{not}
use Rattle.std.proofs.Math.ListN.{get_or}
use Rattle.std.proofs.Math.Dec.{T, leb→le}
use Rattle.std.specs.Float.Ieee.{Float, nan, binary64, fits, lt, le}
use Rattle.std.specs.Float.Ieee.Scale.{finite}
use Rattle.std.specs.Float.Ieee.Fits.{and_l, and_r}
use Rattle.floats.specs.Order.{le-trans64}
use Rattle.rules.specs.declared.Shape.{Shape}
use Rattle.rules.specs.Results.{Checked}
use Rattle.rules.specs.Words.{from, every, along, total, each_once}
use Rattle.rules.specs.Lent.{Given, OneTree, Columns, Behind, WaitingForm, TreeRooms, ForestRooms, values_at, listing_at, unweighted, shortest, shortest_of_eight, cell}
use Rattle.rules.specs.Checks.{Test, test, checked, first_failed, within, rows_in, features_in, trees_in, shape_in, lengths, good_tape_starts, good_weight, numbers_good, counts_good, counts_one, room_for, work_enough, reports_exact}
use Rattle.rules.specs.Listing.{order_tests}
use Rattle.rules.specs.Search.{at}
use Rattle.rules.specs.Fit.{listing, element_in, element, params_of, TreeCall, one_tree_of, tree_tests}
use Rattle.rules.specs.Forest.{ForestCall, one_tree_at, each_tree, tapes_good, rooms_good, forest_tests}
use Rattle.lemmas.specs.Lists.{is_true, or-other, Every, each, every-all, every-at, every-or, every_take, every_drop, every-from, same-default, Ordered, ordered-along, ordered_at}
use Rattle.lemmas.specs.Cells.{cell_lies, cell-within}
use Rattle.lemmas.specs.Once.{once-below}
use Rattle.lemmas.specs.Values.{Value, not-falls}
use Rattle.lemmas.specs.Root.{Before, Listed}
use Rattle.lemmas.specs.Tests.{passes, none-failed, and_then, checked-append}
use Rattle.lemmas.specs.Faults.{never_falls, good_listing, listings_good, is_passed, listings-sound}

-- ---- lists of tests

-- by numbers alone
pub past : (n : ℕ) (b : Bool) (ts : List Test) → first_failed (test (suc n) b ∷ ts) ≡ 0 → T b × (first_failed ts ≡ 0)
unfolding checked
past n true ts h = (tt, h)
past n false ts h = absurd (no_zero h)
  where
    no_zero : suc n ≡ 0 → ⊥
    no_zero h = omega arith

pub goes_on : (n : ℕ) (b : Bool) (ts : List Test) → T b → first_failed ts ≡ 0 → first_failed (test n b ∷ ts) ≡ 0
goes_on n b ts t h = sym (passes n b ts (is_true b t) (sym h))

pub none-fails : first_failed [] ≡ 0
none-fails = sym none-failed

-- what they tell
abbrev pub IsPassed : Checked → Type 0
IsPassed (Ok _) = Unit {0}
IsPassed (Err r) = ⊥

pub past-test : (t : Test) (ts : List Test) → checked (t ∷ ts) ≡ Ok tt → T t.passes × (checked ts ≡ (Ok tt))
unfolding checked
past-test t ts h = go t.passes h
  where
    go : (b : Bool) → cond b (checked ts) (Err t.tells) ≡ Ok tt → T b × (checked ts ≡ (Ok tt))
    go true h = (tt, h)
    go false h = absurd (subst IsPassed (sym h) tt)

pub past_all : (us vs : List Test) → checked (us ++ vs) ≡ Ok tt → (checked us ≡ (Ok tt)) × (checked vs ≡ (Ok tt))
past_all us vs h = go (checked us) refl (sym (checked-append us vs) ∙ h)
  where
    go : (c : Checked) → checked us ≡ c → and_then c (checked vs) ≡ Ok tt → (checked us ≡ (Ok tt)) × (checked vs ≡ (Ok tt))
    go (Ok _) e h = (e, h)
    go (Err r) e h = absurd (subst IsPassed (sym h) tt)

pub and2 : (a b : Bool) → T (a && b) → T a × T b
and2 a b t = (and_l a b t, and_r a b t)

pub and3 : (a b c : Bool) → T (a && (b && c)) → T a × T b × T c
and3 a b c t = let (x, y) = and2 b c (and_r a (b && c) t) in (and_l a (b && c) t, x, y)

pub and4 : (a b c d : Bool) → T (a && (b && (c && d))) → T a × T b × T c × T d
and4 a b c d t = let (x, y, z) = and3 b c d (and_r a (b && (c && d)) t) in (and_l a (b && (c && d)) t, x, y, z)

pub and5 : (a b c d e : Bool) → T (a && (b && (c && (d && e)))) → T a × T b × T c × T d × T e
and5 a b c d e t = let (w, x, y, z) = and4 b c d e (and_r a (b && (c && (d && e))) t) in (and_l a (b && (c && (d && e))) t, w, x, y, z)

-- ---- what the checks of both fits have in common

pub record Passed (S : Shape) (trees : ℕ) (G : Given) : Type 0 where
  pub some_rows : 1 ≤ S.rows
  pub few_rows : S.rows ≤ 65535
  pub some_features : 1 ≤ S.features
  pub few_features : S.features ≤ 1024
  pub values_long : length G.inputs.values ≡ S.rows * S.features
  pub targets_long : length G.inputs.targets ≡ S.rows
  pub weights_long : unweighted G.weights ≡ false → length G.weights ≡ S.rows
  pub counts_long : length G.counts ≡ trees * S.rows
  pub listings_long : length G.inputs.listings ≡ S.features * S.rows
  pub values_finite : Every (λ x. T (finite x)) G.inputs.values
  pub targets_finite : Every (λ x. T (finite x)) G.inputs.targets
  pub weights_good : Every (λ w. T (good_weight w)) G.weights
  pub counts_low : Every (λ c. T (leb c 65535)) G.counts
  pub listings : T (listings_good S G.inputs.values G.inputs.listings)

from-tests : (S : Shape) (trees : ℕ) (G : Given) → T (shape_in S) → T (lengths S trees G) → T (numbers_good G) → T (counts_good G)
    → checked (order_tests S G.inputs.values G.inputs.listings) ≡ Ok tt → Passed S trees G
unfolding within lengths numbers_good counts_good
from-tests S trees G i l n c g =
    let (r, f) = and2 (rows_in S.rows) (features_in S.features) i in
    let (l₁, l₂, l₃, l₄, l₅) = and5 (eqb (length G.inputs.values) (S.rows * S.features)) (eqb (length G.inputs.targets) S.rows)
    (unweighted G.weights || eqb (length G.weights) S.rows) (eqb (length G.counts) (trees * S.rows)) (eqb (length G.inputs.listings) (S.features * S.rows)) l in
    let (n₁, n₂, n₃) = and3 (every finite G.inputs.values) (every finite G.inputs.targets) (every good_weight G.weights) n in
    record {
      some_rows = leb→le 1 S.rows (and_l (leb 1 S.rows) (leb S.rows 65535) r);
      few_rows = leb→le S.rows 65535 (and_r (leb 1 S.rows) (leb S.rows 65535) r);
      some_features = leb→le 1 S.features (and_l (leb 1 S.features) (leb S.features 1024) f);
      few_features = leb→le S.features 1024 (and_r (leb 1 S.features) (leb S.features 1024) f);
      values_long = eqb→eq (length G.inputs.values) (S.rows * S.features) l₁;
      targets_long = eqb→eq (length G.inputs.targets) S.rows l₂;
      weights_long = λ u. eqb→eq (length G.weights) S.rows (or-other (unweighted G.weights) (eqb (length G.weights) S.rows) u l₃);
      counts_long = eqb→eq (length G.counts) (trees * S.rows) l₄;
      listings_long = eqb→eq (length G.inputs.listings) (S.features * S.rows) l₅;
      values_finite = each finite G.inputs.values n₁;
      targets_finite = each finite G.inputs.targets n₂;
      weights_good = each good_weight G.weights n₃;
      counts_low = each (λ k. leb k 65535) G.counts c;
      listings = subst T (listings-sound S G.inputs.values G.inputs.listings (eqb→eq (length G.inputs.listings) (S.features * S.rows) l₅)) (subst (λ c. T (is_passed c)) (sym g) tt);
    }

-- a room of eight columns is one of six
pub six-of-eight : (n : ℕ) (c : Columns) (b : Behind) → n ≤ shortest_of_eight c b → n ≤ shortest c
six-of-eight n c b h = le_trans h (least (shortest c) (min (length b.count) (length b.mass)))
  where
    least : (x y : ℕ) → min x y ≤ x
    least x y = omega arith

module _ {W : Type 0} (K : WaitingForm W) where
  pub record TreePassed (C : TreeCall) (R : TreeRooms W) : Type 0 where
    pub passed : Passed C.shape 1 C.given
    pub room : room_for (one_tree_of C) ≤ shortest_of_eight R.nodes R.behind
    pub work : T (work_enough K C.shape R.work)

  pub tree-passed : (C : TreeCall) (R : TreeRooms W) → checked (tree_tests K C R) ≡ Ok tt → TreePassed C R
  unfolding tree_tests
  tree-passed C R h₁ =
      let (t₁, h₂) = past-test _ _ h₁ in let (t₂, h₃) = past-test _ _ h₂ in let (t₃, h₄) = past-test _ _ h₃ in
      let (t₄, h₅) = past-test _ _ h₄ in let (t₅, h₆) = past_all _ _ h₅ in let (t₆, h₇) = past-test _ _ h₆ in
      let (a, b) = and2 (leb (room_for (one_tree_of C)) (shortest_of_eight R.nodes R.behind)) (work_enough K C.shape R.work) t₆ in
      record { passed = from-tests C.shape 1 C.given t₁ t₂ t₃ t₄ t₅; room = leb→le (room_for (one_tree_of C)) (shortest_of_eight R.nodes R.behind) a; work = b }

  -- what a forest's checks say besides
  pub record ForestPassed (C : ForestCall) (R : ForestRooms W) : Type 0 where
    pub passed : Passed C.shape C.trees C.given
    pub ranges : T (shape_in C.shape && trees_in C.trees)
    pub some_trees : 1 ≤ C.trees
    pub few_trees : C.trees ≤ 1024
    pub tapes : T (tapes_good C)
    pub room : total room_for (each_tree C) ≤ shortest_of_eight R.nodes R.behind
    pub work : T (work_enough K C.shape R.work)
    pub starts_room : suc C.trees ≤ length R.starts
    pub reports : T (reports_exact C.trees R.reports)

  pub forest-passed : (C : ForestCall) (R : ForestRooms W) → checked (forest_tests K C R) ≡ Ok tt → ForestPassed C R
  unfolding forest_tests rooms_good within
  forest-passed C R h₁ =
      let (t₁, h₂) = past-test _ _ h₁ in let (t₂, h₃) = past-test _ _ h₂ in let (t₃, h₄) = past-test _ _ h₃ in
      let (t₄, h₅) = past-test _ _ h₄ in let (t₅, h₆) = past_all _ _ h₅ in let (t₆, h₇) = past-test _ _ h₆ in
      let (s, n) = and2 (shape_in C.shape) (trees_in C.trees) t₁ in
      let (a, k, b, e) = and4 (leb (total room_for (each_tree C)) (shortest_of_eight R.nodes R.behind)) (work_enough K C.shape R.work)
      (leb (suc C.trees) (length R.starts)) (reports_exact C.trees R.reports) t₆ in
      record {
        passed = from-tests C.shape C.trees C.given s (and_l (lengths C.shape C.trees C.given) (tapes_good C) t₂) t₃ (and_l (counts_good C.given) (counts_one C.given) t₄) t₅;
        ranges = t₁;
        some_trees = leb→le 1 C.trees (and_l (leb 1 C.trees) (leb C.trees 1024) n);
        few_trees = leb→le C.trees 1024 (and_r (leb 1 C.trees) (leb C.trees 1024) n);
        tapes = and_r (lengths C.shape C.trees C.given) (tapes_good C) t₂;
        room = leb→le (total room_for (each_tree C)) (shortest_of_eight R.nodes R.behind) a;
        work = k;
        starts_room = leb→le (suc C.trees) (length R.starts) b;
        reports = e;
      }

-- ---- a tree's part of a tape lies within it

pub record PartAt (starts : List ℕ) (tape t : ℕ) : Type 0 where
  pub known : t + 1 < length starts
  pub order : get_or starts t 0 ≤ get_or starts (t + 1) 0
  pub high : get_or starts (t + 1) 0 ≤ tape

pub part_at : (trees tape : ℕ) (starts : List ℕ) → T (good_tape_starts trees tape starts) → (t : ℕ) → t < trees → PartAt starts tape t
unfolding good_tape_starts
part_at trees tape starts g t h =
    let (l, z, a, e) = and4 (eqb (length starts) (suc trees)) (eqb (get_or starts 0 1) 0) (along leb starts) (eqb (get_or starts trees (suc tape)) tape) g in
    let long = eqb→eq (length starts) (suc trees) l in
    let o = ordered-along (λ x y. x ≤ y) leb (λ x. Unit {0}) (λ x y p q b. leb→le x y b) (λ x y z p q. le_trans p q) starts (every-all _ (λ x. tt) starts) a in
    record {
      known = omega arith;
      order = ordered_at (λ x y. x ≤ y) starts o 0 t (t + 1) (omega arith) (omega arith);
      high = subst (λ n. get_or starts (t + 1) 0 ≤ n) (same-default starts trees 0 (suc tape) (omega arith) ∙ eqb→eq (get_or starts trees (suc tape)) tape e) (last o long (ℕ_discrete (t + 1) trees));
    }
  where
    last : Ordered (λ x y. x ≤ y) starts → length starts ≡ suc trees → Dec (t + 1 ≡ trees) → get_or starts (t + 1) 0 ≤ get_or starts trees 0
    last o long (yes q) = subst (λ n. get_or starts (t + 1) 0 ≤ get_or starts n 0) q (omega arith)
    last o long (no d) = ordered_at (λ x y. x ≤ y) starts o 0 (t + 1) trees (omega (arith, h, d)) (omega arith)

-- ---- a tree's frame: its rows, features and weights are the call's, its counts some of the call's

pub record Framed (S : Shape) (G : Given) (F : OneTree) : Type 0 where
  pub rows_same : F.rows ≡ S.rows
  pub features_same : F.params.features ≡ S.features
  pub weights_same : F.weights ≡ G.weights
  pub low : Every (λ c. T (leb c 65535)) F.counts

pub tree-framed : (C : TreeCall) → Passed C.shape 1 C.given → Framed C.shape C.given (one_tree_of C)
unfolding one_tree_of params_of
tree-framed C p = record { rows_same = refl; features_same = refl; weights_same = refl; low = p.counts_low }

pub forest-framed : (C : ForestCall) → Passed C.shape C.trees C.given → (t : ℕ) → Framed C.shape C.given (one_tree_at C t)
unfolding one_tree_at params_of
forest-framed C p t =
    record {
      rows_same = refl;
      features_same = refl;
      weights_same = refl;
      low = every_take _ C.shape.rows _ (every_drop _ (t * C.shape.rows) C.given.counts p.counts_low);
    }

-- ---- its listings are in order

-- every f64 is a number of binary64; of the floats that the definitions speak of it has to be said
abbrev pub Binary64 : List Float → Type 0
Binary64 xs = Every (λ x. T (fits binary64 x)) xs

module _ (S : Shape) (trees : ℕ) (G : Given) (p : Passed S trees G) (F : OneTree) (f : Framed S G F) where
  cell_same : (i j : ℕ) → at j (element F G.inputs i) ≡ cell S.features G.inputs.values j i
  unfolding at element element_in cell
  cell_same i j = ap (λ n. get_or (values_at n G.inputs.values i) j nan) f.features_same

  inside : (i j : ℕ) → i < S.rows → j < S.features → i * S.features + j < length G.inputs.values
  inside i j h k = subst (λ n. i * S.features + j < n) (sym p.values_long) (cell-within i S.rows S.features j h k)

  cell-finite : (i j : ℕ) → i < S.rows → j < S.features → T (finite (cell S.features G.inputs.values j i))
  cell-finite i j h k =
      subst (λ x. T (finite x)) (sym (cell_lies S.features G.inputs.values i j k))
      (every-at _ G.inputs.values nan (i * S.features + j) p.values_finite (inside i j h k))

  rising : (j : ℕ) → j < S.features → (l : List ℕ) → Every (λ i. i < S.rows) l → T (never_falls (cell S.features G.inputs.values j) l)
      → Ordered (Before F G.inputs j) l
  unfolding never_falls
  rising j h l b t =
      ordered-along (Before F G.inputs j) (λ a c. not (lt (v c) (v a))) (λ i. i < S.rows)
      (λ a c u w n. subst (λ z. T (le z (x c))) (sym (cell_same a j)) (subst (λ z. T (le (v a) z)) (sym (cell_same c j)) (not-falls (v a) (v c) (cell-finite a j u h) (cell-finite c j w h) n)))
      (λ a c d. le-trans64 (x a) (x c) (x d)) l b t
    where
      x : ℕ → Float
      x i = at j (element F G.inputs i)

      v : ℕ → Float
      v i = cell S.features G.inputs.values j i

  good : (j : ℕ) → j < S.features
      → T (each_once S.rows (listing_at S.rows G.inputs.listings j)) × T (never_falls (cell S.features G.inputs.values j) (listing_at S.rows G.inputs.listings j))
  unfolding listings_good good_listing
  good j h =
      and2 (each_once S.rows (listing_at S.rows G.inputs.listings j)) (never_falls (cell S.features G.inputs.values j) (listing_at S.rows G.inputs.listings j))
      (subst (λ k. T (good_listing S G.inputs.values G.inputs.listings k)) (zero-add j)
      (every-from _ 0 S.features (each (good_listing S G.inputs.values G.inputs.listings) (from 0 S.features) p.listings) j h))

  pub listed-right : Binary64 G.inputs.values → Listed F G.inputs
  unfolding listing fits
  listed-right held =
      record {
        once = λ j h. subst (λ n. T (each_once n (listing_at n G.inputs.listings j))) (sym f.rows_same) (good j (wide j h)).0;
        rising = λ j h.
            subst (λ n. Ordered (Before F G.inputs j) (listing_at n G.inputs.listings j)) (sym f.rows_same)
            (rising j (wide j h) (listing_at S.rows G.inputs.listings j) (once-below S.rows _ (good j (wide j h)).0) (good j (wide j h)).1);
        values = λ i j h k.
            subst Value (sym (cell_same i j)) (
              subst (λ x. T (fits binary64 x)) (sym (cell_lies S.features G.inputs.values i j (wide j k))) (every-or _ G.inputs.values nan (i * S.features + j) held tt),
              cell-finite i j (subst (λ n. i < n) f.rows_same h) (wide j k),
            );
      }
    where
      wide : (j : ℕ) → j < F.params.features → j < S.features
      wide j h = subst (λ n. j < n) f.features_same h
