-- A fit's call and rooms by what its checks are handed, and what passed checks say to the next. Assumes nothing.
use Rattle.std.specs.Prelude.{ℕ, suc, ◌*◌, ◌<◌, ◌≤◌, ◌≡◌, Bool, true, ◌&&◌, ◌||◌, List, [], ◌∷◌, ◌++◌, length, leb, eqb, Float}
use Rattle.std.proofs.Common.{arith, sym, ap, ◌∙◌, eqb-true}
use Rattle.rules.specs.declared.Shape.{Shape}
use Rattle.rules.specs.declared.TapeStarts.{TapeStarts}
use Rattle.rules.specs.Words.{from, total}
use Rattle.rules.specs.Lent.{Given, TreeRooms, ForestRooms, WaitingRoom, waiting_room, unweighted, shortest_of_eight}
use Rattle.rules.specs.Checks.{Test, test, checked, shape_in, trees_in, lengths, good_tape_starts, numbers_good, counts_good, counts_one, room_for, work_enough, reports_exact}
use Rattle.rules.specs.Listing.{order_tests}
use Rattle.rules.specs.Fit.{TreeCall, one_tree_of, tree_tests}
use Rattle.rules.specs.Forest.{ForestCall, one_tree_at, each_tree, tapes_good, rooms_good, forest_tests}
use Rattle.lemmas.specs.Lists.{every-all, total-same, total-map}
use Rattle.checks.specs.declared.Lengths.{Lengths}
use Rattle.checks.specs.declared.ReportLengths.{ReportLengths}
use Rattle.checks.specs.Lent.{WorkHas, ReportsHave, Counted, Grown}
use Rattle.listings.specs.Asks.{Laid}
use Rattle.checks.specs.Rooms.{room_in, room_of, rooms_in, room-is}
use Rattle.lemmas.specs.Tests.{and_both, rows-low, features-low, some-weights}

-- ---- what the lengths say

pub record Long (S : Shape) (trees : ℕ) (G : Given) : Type 0 where
  pub values : length G.inputs.values ≡ S.rows * S.features
  pub targets : length G.inputs.targets ≡ S.rows
  pub weights : 0 < length G.weights → length G.weights ≡ S.rows
  pub counts : length G.counts ≡ trees * S.rows
  pub listings : length G.inputs.listings ≡ S.features * S.rows

weighed : (ws : List Float) (rows : ℕ) → (unweighted ws || eqb (length ws) rows) ≡ true → 0 < length ws → length ws ≡ rows
weighed ws rows h some = eqb-true (length ws) rows (ap (λ b. b || eqb (length ws) rows) (sym (some-weights ws (λ e. none (length ws) some e))) ∙ h)
  where
    none : (n : ℕ) → 0 < n → n ≡ 0 → ⊥
    none n h e = omega arith

pub lengths-say : (S : Shape) (trees : ℕ) (G : Given) → lengths S trees G ≡ true → Long S trees G
unfolding lengths
lengths-say S trees G h =
    let (v, h₁) = and_both _ _ h in
    let (t, h₂) = and_both _ _ h₁ in
    let (w, h₃) = and_both _ _ h₂ in
    let (c, l) = and_both _ _ h₃ in
    record {
      values = eqb-true _ _ v;
      targets = eqb-true _ _ t;
      weights = weighed G.weights S.rows w;
      counts = eqb-true _ _ c;
      listings = eqb-true _ _ l;
    }

module _ (S : Shape) (trees : ℕ) (G : Given) (s : shape_in S ≡ true) (l : lengths S trees G ≡ true) where
  pub long-laid : Laid S G.inputs.values G.inputs.listings
  long-laid = let h = lengths-say S trees G l in record { few = rows-low S s; few_features = features-low S s; values_long = h.values; listings_long = h.listings }

  pub long-grown : trees ≤ 1024 → Grown S.rows trees G.weights G.counts
  long-grown t =
      let h = lengths-say S trees G l in
      record { few = rows-low S s; few_trees = t; counted = h.counts; weighed = λ n. omega (arith, h.weights n) }

pub long-counted : (S : Shape) (G : Given) → shape_in S ≡ true → lengths S 1 G ≡ true → Counted S.rows G.weights G.counts
long-counted S G s l =
    let h = lengths-say S 1 G l in
    record { few = rows-low S s; counted = omega (arith, h.counts); weighed = λ n. omega (arith, h.weights n) }

-- ---- checks 1 to 4, those of the listings, and 6, in this order

abbrev pub all_tests : Bool → Bool → Bool → Bool → List Test → Bool → List Test
all_tests a b c d listings f = test 1 a ∷ test 2 b ∷ test 3 c ∷ test 4 d ∷ listings ++ test 6 f ∷ []

-- ---- one tree

-- a call on these inputs, with rooms of these lengths
pub record TreeHas (S : Shape) (G : Given) (L : Lengths) (C : TreeCall) (R : TreeRooms WaitingRoom) : Type 0 where
  pub shape : S ≡ C.shape
  pub given : G ≡ C.given
  pub nodes : L.nodes ≡ shortest_of_eight R.nodes R.behind
  pub work : WorkHas L R.work

tree-room-is : (C : TreeCall) → room_in C.shape.rows C.given.weights C.given.counts ≡ room_for (one_tree_of C)
unfolding one_tree_of
tree-room-is C = sym (room-is (one_tree_of C))

-- its tests are the call's
pub tree-same : (S : Shape) (G : Given) (L : Lengths) (C : TreeCall) (R : TreeRooms WaitingRoom) → TreeHas S G L C R
    → checked (all_tests (shape_in S) (lengths S 1 G) (numbers_good G) (counts_good G) (order_tests S G.inputs.values G.inputs.listings)
    (leb (room_in S.rows G.weights G.counts) L.nodes && work_enough waiting_room S R.work))
    ≡ checked (tree_tests waiting_room C R)
unfolding tree_tests
tree-same S G L C R h =
    (λ i. checked (all_tests (shape_in (h.shape i)) (lengths (h.shape i) 1 (h.given i)) (numbers_good (h.given i)) (counts_good (h.given i))
    (order_tests (h.shape i) (h.given i).inputs.values (h.given i).inputs.listings)
    (leb (room_in (h.shape i).rows (h.given i).weights (h.given i).counts) (h.nodes i) && work_enough waiting_room (h.shape i) R.work)))
    ∙ ap (λ n. checked (all_tests (shape_in C.shape) (lengths C.shape 1 C.given) (numbers_good C.given) (counts_good C.given)
    (order_tests C.shape C.given.inputs.values C.given.inputs.listings) (leb n (shortest_of_eight R.nodes R.behind) && work_enough waiting_room C.shape R.work)))
    (tree-room-is C)

-- ---- a forest

-- the parts of both tapes start where they may
abbrev pub parted : ℕ → ℕ → ℕ → TapeStarts → Bool
parted trees words thresholds parts = good_tape_starts trees words parts.words.now && good_tape_starts trees thresholds parts.thresholds.now

-- what a forest's checks are handed besides: how long both tapes are and the starts of their parts, the lengths of the start table and of the report columns
pub record ForestHas (S : Shape) (n : ℕ) (G : Given) (w t : ℕ) (B : TapeStarts) (L : Lengths) (s : ℕ) (P : ReportLengths) (C : ForestCall) (R : ForestRooms WaitingRoom) : Type 0 where
  pub shape : S ≡ C.shape
  pub trees : n ≡ C.trees
  pub given : G ≡ C.given
  pub words : w ≡ length C.words
  pub thresholds : t ≡ length C.thresholds
  pub word_starts : B.words.now ≡ C.word_starts
  pub threshold_starts : B.thresholds.now ≡ C.threshold_starts
  pub nodes : L.nodes ≡ shortest_of_eight R.nodes R.behind
  pub work : WorkHas L R.work
  pub starts : s ≡ length R.starts
  pub reports : ReportsHave P R.reports

forest-room-is : (C : ForestCall) → rooms_in C.shape.rows C.trees C.given.weights C.given.counts ≡ total room_for (each_tree C)
unfolding each_tree one_tree_at
forest-room-is C =
    total-same (room_of C.shape.rows C.given.weights C.given.counts) (λ t. room_for (one_tree_at C t)) (from 0 C.trees)
    (every-all _ (λ t. sym (room-is (one_tree_at C t))) (from 0 C.trees))
    ∙ sym (total-map room_for (one_tree_at C) (from 0 C.trees))

-- its tests are the call's
pub forest-same : (S : Shape) (n : ℕ) (G : Given) (w t : ℕ) (B : TapeStarts) (L : Lengths) (s : ℕ) (P : ReportLengths) (C : ForestCall) (R : ForestRooms WaitingRoom)
    → ForestHas S n G w t B L s P C R
    → checked (all_tests (shape_in S && trees_in n) (lengths S n G && parted n w t B) (numbers_good G) (counts_good G && counts_one G)
    (order_tests S G.inputs.values G.inputs.listings)
    (leb (rooms_in S.rows n G.weights G.counts) L.nodes && (work_enough waiting_room S R.work && (leb (suc n) s && reports_exact n R.reports))))
    ≡ checked (forest_tests waiting_room C R)
unfolding forest_tests tapes_good rooms_good
forest-same S n G w t B L s P C R h =
    (λ i. checked (all_tests (shape_in (h.shape i) && trees_in (h.trees i))
    (lengths (h.shape i) (h.trees i) (h.given i) && (good_tape_starts (h.trees i) (h.words i) (h.word_starts i) && good_tape_starts (h.trees i) (h.thresholds i) (h.threshold_starts i)))
    (numbers_good (h.given i)) (counts_good (h.given i) && counts_one (h.given i)) (order_tests (h.shape i) (h.given i).inputs.values (h.given i).inputs.listings)
    (leb (rooms_in (h.shape i).rows (h.trees i) (h.given i).weights (h.given i).counts) (h.nodes i)
    && (work_enough waiting_room (h.shape i) R.work && (leb (suc (h.trees i)) (h.starts i) && reports_exact (h.trees i) R.reports)))))
    ∙ ap (λ m. checked (all_tests (shape_in C.shape && trees_in C.trees)
    (lengths C.shape C.trees C.given && (good_tape_starts C.trees (length C.words) C.word_starts && good_tape_starts C.trees (length C.thresholds) C.threshold_starts))
    (numbers_good C.given) (counts_good C.given && counts_one C.given) (order_tests C.shape C.given.inputs.values C.given.inputs.listings)
    (leb m (shortest_of_eight R.nodes R.behind) && (work_enough waiting_room C.shape R.work && (leb (suc C.trees) (length R.starts) && reports_exact C.trees R.reports)))))
    (forest-room-is C)
