-- From a forest's passed checks to what the growth of its trees asks. Assumes nothing.
use Rattle.std.specs.Prelude.{ℕ, ◌+◌, ◌-◌, ◌*◌, ◌<◌, ◌≤◌, max, ◌≡◌, refl, drop, T, eqb, Ok}
use Rattle.std.proofs.Common.{suc-mul, mul-le-mul, mul-le-mul_right, sym, ◌∙◌, eqb→eq}
use native.Mathlib.Omega.{arith}
use Rattle.std.proofs.Math.Path.{subst}
use Rattle.std.proofs.Math.ListN.{length, length-drop}
use Rattle.std.proofs.lemmas.List.{length-map}
use Rattle.std.proofs.Math.Seq.{length-take-le}
use Rattle.rules.specs.declared.Params.{Params}
use Rattle.rules.specs.Words.{from, stretch, total}
use Rattle.rules.specs.Lent.{OneTree, Reports, ForestRooms, WaitingRoom, waiting_room, kept, kept_rows}
use Rattle.rules.specs.Checks.{checked, good_tape_starts, room_for, reports_exact}
use Rattle.rules.specs.Fit.{params_of}
use Rattle.rules.specs.Forest.{ForestCall, one_tree_at, each_tree, tapes_good, forest_tests}
use Rattle.lemmas.specs.Lists.{every-all, every_map, total-under, keep-short, length_from}
use Rattle.lemmas.specs.Root.{Listed, fit-nodes, fit-reported}
use Rattle.lemmas.specs.Passed.{ForestPassed, forest-passed, forest-framed, listed-right, Binary64, and2, and5, part_at}
use Rattle.rooms.specs.Enough.{WorkRoom, work-room}
use Rattle.work_columns.specs.Setup.{counted-passed}
use Rattle.forest_build.specs.All.{AllAsks}
use Rattle.forest_reports.specs.Reports.{ReportsLong, TellAsks}
use Rattle.forest_grow.specs.Grown.{lengths_lent, GrowAsks}
use Rattle.forest_ready.specs.Ready.{Made}
use Rattle.forest_fit.specs.Ends.{lot, node_room}

reports-exact : (n : ℕ) (p : Reports) → T (reports_exact n p) → ReportsLong n p
unfolding reports_exact
reports-exact n p h =
    let (a, h') = and2 (eqb (length p.nodes) n) _ h in
    let (b, c, d, e, f) = and5 (eqb (length p.depth) n) (eqb (length p.mass) n) (eqb (length p.searches) n) (eqb (length p.words) n) (eqb (length p.thresholds) n) h' in
    record { nodes = eqb→eq _ _ a; depth = eqb→eq _ _ b; mass = eqb→eq _ _ c; searches = eqb→eq _ _ d; words = eqb→eq _ _ e; thresholds = eqb→eq _ _ f }

room-low : (F : OneTree) → F.rows ≤ 65535 → room_for F ≤ 131069
unfolding room_for kept_rows
room-low F h = low (length (kept_rows F)) F.rows (omega (arith, keep-short (kept F) (from 0 F.rows), length_from 0 F.rows)) h
  where
    low : (k n : ℕ) → k ≤ n → n ≤ 65535 → max 1 (2 * k - 1) ≤ 131069
    low k n a b = omega arith

module _ (C : ForestCall) (R : ForestRooms WaitingRoom) (e : checked (forest_tests waiting_room C R) ≡ (Ok tt)) where
  right : ForestPassed waiting_room C R
  right = forest-passed waiting_room C R e

  room : WorkRoom C.shape R.work
  room = work-room C.shape R.work right.work

  pub tell-asks : TellAsks C.trees R.starts R.reports
  tell-asks = record { few = right.few_trees; starts = right.starts_room; reports = reports-exact C.trees R.reports right.reports }

  -- tree t's counts lie within the counts
  counted : (t : ℕ) → t < C.trees → t * C.shape.rows + C.shape.rows ≤ length C.given.counts
  counted t k =
      subst (λ m. t * C.shape.rows + C.shape.rows ≤ m) (sym right.passed.counts_long)
      (subst (λ m. m ≤ C.trees * C.shape.rows) (suc-mul t C.shape.rows) (mul-le-mul_right C.shape.rows k))

  small : (t : ℕ) → t < C.trees → t * C.shape.rows + C.shape.rows < 4294967296
  small t k = under _ _ (counted t k) (subst (λ m. m ≤ 1024 * 65535) (sym right.passed.counts_long) (mul-le-mul right.few_trees right.passed.few_rows))
    where
      under : (a b : ℕ) → a ≤ b → b ≤ 1024 * 65535 → a < 4294967296
      under a b x y = omega arith

  low : total room_for (each_tree C) < 4294967296
  unfolding each_tree one_tree_at
  low =
      under (total room_for (each_tree C)) (length (each_tree C)) C.trees (length (each_tree C) * 131069)
      (total-under room_for 131069 (each_tree C) (every_map _ (one_tree_at C) (from 0 C.trees) (every-all _ (λ t. room-low (one_tree_at C t) right.passed.few_rows) (from 0 C.trees))))
      (mul-le-mul_right 131069 (few (length (each_tree C)) C.trees (length-map (from 0 C.trees) (one_tree_at C) ∙ length_from 0 C.trees) right.few_trees))
    where
      few : (a b : ℕ) → a ≡ b → b ≤ 1024 → a ≤ 1024
      few a b q k = omega arith

      under : (s a b m : ℕ) → s ≤ m → m ≤ 1024 * 131069 → s < 4294967296
      under s a b m x y = omega arith

  module _ (held : Binary64 C.given.inputs.values) (p : Params) (m : Made C p) (k : ℕ) (ek : k ≡ C.shape.features * C.shape.rows) where
    listed : (t : ℕ) → Listed (one_tree_at C t) C.given.inputs
    listed t = listed-right C.shape C.trees C.given right.passed (one_tree_at C t) (forest-framed C right.passed t) held

    trees-ask : AllAsks C.trees (lot C p) (node_room R) (lengths_lent k R.work)
    unfolding each_tree one_tree_at tapes_good params_of
    trees-ask =
        let q = right.passed in
        let (w, d) =
        and2 (good_tape_starts C.trees (length C.words) C.word_starts) (good_tape_starts C.trees (length C.thresholds) C.threshold_starts) right.tapes in
        subst (λ p'. AllAsks C.trees (lot C p') (node_room R) (lengths_lent k R.work))
        (sym m.same)
        (record {
          fine = λ t b c r.
              record {
                listed = listed t;
                same = refl;
                rows = q.some_rows;
                few = q.few_rows;
                some = q.some_features;
                wide = q.values_long;
                targeted = q.targets_long;
                tables = counted-passed C.shape.rows C.given.weights _ (part-long t (counted t b)) q.weights_long;
                low = (forest-framed C q t).low;
                listings = q.listings_long;
                features-few = q.few_features;
                deep = subst (λ (p' : Params). p'.limit ≤ 65535) m.same m.deep;
                col-room = ek;
                scratch-room = room.scratch;
                flag-room = room.flags;
                whole_room = room.wholes;
                real-room = room.reals;
                node-room = r;
              };
          small = small;
          counted = counted;
          word = part_at C.trees (length C.words) C.word_starts w;
          threshold = part_at C.trees (length C.thresholds) C.threshold_starts d;
          nodes = λ t b. fit-nodes (one_tree_at C t) C.given.inputs (listed t) q.some_features;
          reported = λ t b. fit-reported (one_tree_at C t) C.given.inputs;
          few = right.few_trees;
          room = right.room;
          low = low;
        })
      where
        part-long : (t : ℕ) → t * C.shape.rows + C.shape.rows ≤ length C.given.counts
            → length (stretch (t * C.shape.rows) C.shape.rows C.given.counts) ≡ C.shape.rows
        part-long t b = length-take-le C.shape.rows (drop (t * C.shape.rows) C.given.counts) (omega (arith, length-drop (t * C.shape.rows) C.given.counts))

    pub all-asks : GrowAsks C.trees (lot C p) (node_room R) R.work k
    all-asks = record { high = subst (λ n. n ≤ length R.work.order) (sym ek) room.order; all = trees-ask }
