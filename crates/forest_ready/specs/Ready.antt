-- A refusal, or what is to be grown of a call whose checks have passed. Assumes nothing.
use Prim.Native.Nat.{ℕ, ◌*◌, ◌≤◌, min}
use Rattle.std.proofs.Math.Nat.{mul-le-mul}
use native.Mathlib.Omega.{arith}
use Rattle.std.specs.Prelude.{◌≡◌, refl, false, [], replicate, Result, Ok, Err, Option}
use Rattle.std.proofs.Math.Path.{sym}
use Rattle.std.proofs.Math.ListN.{length-replicate}
use Rattle.rules.specs.declared.Params.{Params}
use Rattle.rules.specs.declared.Settings.{Settings}
use Rattle.rules.specs.declared.Shape.{Shape}
use Rattle.rules.specs.declared.Refusal.{Refusal}
use Rattle.rules.specs.declared.TapeStarts.{TapeStarts}
use Rattle.rules.specs.Words.{nought}
use Rattle.rules.specs.Lent.{Given, ForestRooms, WaitingRoom, waiting_room, columns_of, behind_of, reports_of, work_of, forest_rooms_of}
use Rattle.rules.specs.Checks.{checked}
use Rattle.rules.specs.Forest.{ForestCall, forest_call, tried_of, forest_tests}
use Rattle.lemmas.specs.Passed.{ForestPassed, forest-passed}
use Rattle.checks.specs.declared.Lengths.{Lengths}
use Rattle.checks.specs.declared.ReportLengths.{ReportLengths}
use Rattle.checks.specs.Verdicts.{ForestHas}
use Rattle.params.specs.Params.{ParamsMade}
use Rattle.forest_ready.specs.declared.Growing.{Growing}

-- the settings of a call, and how many features its searches try
abbrev pub Made : ForestCall → Params → Type 0
Made C p = ParamsMade C.settings (tried_of C.shape.features C.tried) C.shape.features p

-- a call whose checks have passed, and what its trees grow by
pub record Grows (C : ForestCall) (R : ForestRooms WaitingRoom) (g : Growing) : Type 0 where
  pub passed : checked (forest_tests waiting_room C R) ≡ (Ok tt)
  pub size : g.size ≡ C.shape.features * C.shape.rows
  pub made : Made C g.params

-- or the refusal that the first check that fails tells
abbrev pub Ready : ForestCall → ForestRooms WaitingRoom → Result Growing Refusal → Type 0
Ready C R (Err r) = Err r ≡ checked (forest_tests waiting_room C R)
Ready C R (Ok g) = Grows C R g

-- ---- what is known of the shape alone: some rooms are as long as was said

module _ (S : Shape) (n : ℕ) (G : Given) (w t : ℕ) (B : TapeStarts) (L : Lengths) (s : ℕ) (P : ReportLengths) where
  some_call : Settings → Option ℕ → ForestCall
  some_call settings tried = forest_call S n settings tried G (replicate w 0) (replicate t nought) B.words.now B.thresholds.now

  some_rooms : ForestRooms WaitingRoom
  some_rooms =
      forest_rooms_of
      (columns_of (replicate L.nodes nought) (replicate L.nodes 0) (replicate L.nodes nought) (replicate L.nodes nought) (replicate L.nodes 0) (replicate L.nodes 0))
      (behind_of (replicate L.nodes 0) (replicate L.nodes nought))
      (replicate s 0)
      (reports_of (replicate P.nodes 0) (replicate P.depth 0) (replicate P.mass nought) (replicate P.searches 0) (replicate P.words 0) (replicate P.thresholds 0))
      (work_of (replicate L.order 0) (replicate L.scratch 0) (replicate L.flags false) (replicate L.waiting []) (replicate L.waiting []))

  some-has : (settings : Settings) (tried : Option ℕ) → ForestHas S n G w t B L s P (some_call settings tried) some_rooms
  unfolding some_call some_rooms
  some-has settings tried =
      record {
        shape = refl;
        trees = refl;
        given = refl;
        words = sym (length-replicate w 0);
        thresholds = sym (length-replicate t nought);
        word_starts = refl;
        threshold_starts = refl;
        nodes =
            let k = L.nodes in
            let reals = length-replicate k nought in
            let wholes = length-replicate {A = ℕ} k 0 in
            sym (two k (two k reals (two k wholes (two k reals (two k reals (two k wholes wholes))))) (two k wholes reals));
        work = record {
          order = length-replicate L.order 0;
          scratch = length-replicate L.scratch 0;
          flags = length-replicate L.flags false;
          waiting = two L.waiting (length-replicate L.waiting []) (length-replicate L.waiting []);
        };
        starts = sym (length-replicate s 0);
        reports = record {
          nodes = length-replicate P.nodes 0;
          depth = length-replicate P.depth 0;
          mass = length-replicate P.mass nought;
          searches = length-replicate P.searches 0;
          words = length-replicate P.words 0;
          thresholds = length-replicate P.thresholds 0;
        };
      }
    where
      two : (k : ℕ) {a b : ℕ} → a ≡ k → b ≡ k → min a b ≡ k
      two k a b = omega arith

  module _ (h : (C : ForestCall) (R : ForestRooms WaitingRoom) → ForestHas S n G w t B L s P C R → (Ok tt) ≡ checked (forest_tests waiting_room C R))
      (settings : Settings) (tried : Option ℕ) where
    right : ForestPassed waiting_room (some_call settings tried) some_rooms
    right = forest-passed waiting_room (some_call settings tried) some_rooms (sym (h (some_call settings tried) some_rooms (some-has settings tried)))

    pub few-features : S.features ≤ 1024
    unfolding some_call
    few-features = right.passed.few_features

    pub size_low : S.features * S.rows ≤ 1024 * 65535
    unfolding some_call
    size_low = mul-le-mul few-features right.passed.few_rows
