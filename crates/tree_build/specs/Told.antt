-- What the growth answers, told of the fit: the numbers fit the report, and the tree is the definition's. Assumes nothing.
use Rattle.std.specs.Prelude.{ℕ, ◌+◌, ◌-◌, ◌*◌, ◌<◌, ◌≤◌, min, ◌≡◌, List, length, drop, Float, Ok, Err}
use Rattle.std.proofs.Common.{mul-le-mul, le_trans, arith, ◌∙◌, length-drop}
use Rattle.std.proofs.Math.Path.{refl, sym, ap, subst}
use Rattle.rules.specs.Lent.{Data, OneTree}
use Rattle.rules.specs.Draws.{Out, ok, bind, Tapes, tape}
use Rattle.rules.specs.Search.{NodeRows, search}
use Rattle.rules.specs.Growth.{State, from_root}
use Rattle.rules.specs.Fit.{root, tree_of, grow_from, fit}
use Rattle.lemmas.specs.Outs.{then-of}
use Rattle.lemmas.specs.Cuts.{Good, search-fine, tape-fair}
use Rattle.lemmas.specs.Room.{rows_of, room-enough}
use Rattle.lemmas.specs.Spent.{Spent, growth-spent, growth-bad}
use Rattle.search.specs.Flat.{draws_at}
use Rattle.node_entries.specs.Entries.{NodeRoom}
use Rattle.tree_growth.specs.declared.At.{At}
use Rattle.tree_growth.specs.Places.{Grown}
use Rattle.tree_growth.specs.Tree as G
use Rattle.tree_report.specs.Report.{Planted, ReportAsks, TellAsks, told}
use Rattle.tree_build.specs.declared.Root.{Root}
use Rattle.tree_build.specs.Plant.{SetUp, PlantAsks, PlantDone, ground, root_is, enough, most-low, root-fine}

-- how far a tape is used, from what is left of it
used-up : {A : Type 0} (l : List A) (n : ℕ) → min n (length l) ≡ length l - length (drop n l)
used-up l n = simp (length-drop) (omega arith)

module _ (F : OneTree) (D : Data) (node : NodeRows) (is : root F D ≡ node) (c c' : NodeRoom) where
  abbrev W : List ℕ
  W = F.words

  abbrev M : List Float
  M = F.thresholds

  grown : Out (State Tapes)
  grown = from_root F.params (search (tape F.params.features) F.params) node (record { words = W; thresholds = M; searches = 0 })

  fit_is : fit F D ≡ bind grown (λ s. ok (tree_of F node s))
  unfolding fit grow_from grown
  fit_is = ap (grow_from F) is

  answers : (t : Grown) → G.Answers W M c c' grown t → PlantDone F D c c' (told node.totals.mass (length W) (length M) t)
  unfolding bind tree_of
  answers (Err b) a = record { done = fit_is ∙ ap (λ o. bind o (λ s. ok (tree_of F node s))) a }
  answers (Ok at) a =
      record {
        done = record {
          tree = tree_of F node (record { nodes = a.nodes; depth = at.depth; left = draws_at W M at.stand.drawn });
          same = fit_is ∙ ap (λ o. bind o (λ s. ok (tree_of F node s))) a.same;
          report = λ i. record {
            nodes = a.count i;
            depth = at.depth;
            mass = node.totals.mass;
            searches = at.stand.drawn.searches;
            words = sym (used-up W at.stand.drawn.words) i;
            thresholds = sym (used-up M at.stand.drawn.thresholds) i;
          };
          written = a.written;
        };
      }

  -- ---- each number fits its place

  module _ (top : ℕ) (good : Good F.params node) (some : 0 < F.params.features) (few : F.params.features ≤ 1024) (enough : 1 + 2 * (rows_of node - 1) ≤ top) (low : top ≤ 131069) where
    report-asks : (at : At) → G.Grew W M c c' grown at → ReportAsks (length W) (length M) at
    unfolding grown
    report-asks at a =
        record {
          searches = omega (arith, searched);
          words-used = subst (λ n. n < 4294967296) (sym (used-up W at.stand.drawn.words)) (omega (arith, times, spent.words));
          thresholds-used = subst (λ n. n < 4294967296) (sym (used-up M at.stand.drawn.thresholds)) (omega (arith, times, spent.thresholds));
        }
      where
        spent : Spent F.params (length W) (length M) (record { nodes = a.nodes; depth = at.depth; left = draws_at W M at.stand.drawn })
        spent = then-of (Spent F.params (length W) (length M)) _ _ a.same (growth-spent F.params node _ refl)

        nodes-low : length a.nodes ≤ 1 + 2 * (rows_of node - 1)
        nodes-low = then-of (λ s. length s.nodes ≤ 1 + 2 * (rows_of node - 1)) _ _ a.same
            (room-enough F.params (search (tape F.params.features) F.params) (search-fine F.params (tape F.params.features) (tape-fair F.params)) some node _ good)

        searched : at.stand.drawn.searches ≤ 131069
        searched = le_trans spent.searches (le_trans nodes-low (le_trans enough low))

        times : F.params.features * at.stand.drawn.searches ≤ 1024 * 131069
        times = mul-le-mul few searched

    tell-asks : (t : Grown) → G.Answers W M c c' grown t → TellAsks (length W) (length M) t
    unfolding grown
    tell-asks (Err b) a = small b.search (growth-bad F.params some node _ refl good b.search a)
      where
        small : (k : ℕ) → k ≤ 1 + 2 * (rows_of node - 1) → k < 4294967296
        small k h = omega (arith, enough, low)
    tell-asks (Ok at) a = report-asks at a

-- ---- all of it, as the code goes

module _ (features : ℕ) (F : OneTree) (D : Data) (c c' : NodeRoom) (cl sc fl rw rr : ℕ) (h : PlantAsks features F D c cl sc fl rw rr) (order : List ℕ) (r : Root)
    (s : SetUp F.rows features D.targets F.weights F.counts D.listings order r) (t : Grown)
    (d : G.TreeDone (ground features F D c cl sc fl rw rr h order r s) F.params F.words F.thresholds c c' r.kept r.asked t) where
  pub plant-tells : TellAsks (length F.words) (length F.thresholds) t
  unfolding grown
  plant-tells =
      tell-asks F D _ (root_is features F D c cl sc fl rw rr h order r s) c c' r.most (root-fine features F D c cl sc fl rw rr h order r s)
      (subst (λ n. 0 < n) h.same h.some) (subst (λ n. n ≤ 1024) h.same h.features-few) (enough features F D c cl sc fl rw rr h order r s)
      (most-low features F D c cl sc fl rw rr h order r s) t d.grown

  pub plant-done : {z : Planted} → z ≡ told r.asked.totals.mass (length F.words) (length F.thresholds) t → PlantDone F D c c' z
  unfolding grown
  plant-done e = subst (PlantDone F D c c') (sym e) (answers F D _ (root_is features F D c cl sc fl rw rr h order r s) c c' t d.grown)
