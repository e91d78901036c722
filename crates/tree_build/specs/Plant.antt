-- A tree once the checks have passed: what it asks, what it leaves, and how the root that the code lays out is the definition's. Assumes nothing.
use Prim.Native.Nat.{ℕ, ◌+◌, ◌-◌, ◌*◌, ◌<◌, ◌≤◌, min, max}
use native.Mathlib.Omega.{arith}
use Rattle.std.specs.Prelude.{◌≡◌, List, map, length, T, leb, Float, Ok, Err}
use Rattle.std.proofs.Math.Path.{sym, ap, subst}
use Rattle.std.proofs.Common.{◌∙◌}
use Rattle.rules.specs.declared.Params.{Params}
use Rattle.rules.specs.declared.Shape.{Shape}
use Rattle.rules.specs.declared.Input.{Input}
use Rattle.rules.specs.declared.Tapes.{Tapes}
use Rattle.rules.specs.declared.Report.{Report}
use Rattle.rules.specs.Words.{from, keep, total, each_once}
use Rattle.rules.specs.Lent.{Data, OneTree, Columns, count_in, kept, kept_in, kept_rows, listing_at, shortest, shortest_of_eight}
use Rattle.rules.specs.Totals.{empty}
use Rattle.rules.specs.Checks.{room_for}
use Rattle.rules.specs.Draws.{bad, ok}
use Rattle.rules.specs.Search.{totals_of}
use Rattle.rules.specs.Fit.{element_in, listing, root, Tree, fit}
use Rattle.lemmas.specs.Lists.{Every}
use Rattle.lemmas.specs.Root.{Listed, root-good, root-rows}
use Rattle.lemmas.specs.Room.{rows_of}
use Rattle.lemmas.specs.Cuts.{Good}
use Rattle.lemmas.specs.Work.{columns_at}
use Rattle.work_columns.specs.Columns.{Counted, KeptAll, bare}
use Rattle.work_columns.specs.Kept.{root-made, kept-below}
use Rattle.node_entries.specs.Entries.{LongAll, NodeRoom, LongRoom}
use Rattle.node_entries.specs.Nodes.{write_nodes}
use Rattle.node_growth.specs.Rooms.{Ground}
use Rattle.tree_growth.specs.Tree.{TreeAsks, root_rows}
use Rattle.tree_report.specs.Report.{Planted}
use Rattle.tree_build.specs.declared.Root.{Root}

-- what is lent, as the rules have it
abbrev pub one_tree_in : ℕ → Params → List Float → List ℕ → List ℕ → List Float → OneTree
one_tree_in rows p weights counts words thresholds = record { rows = rows; params = p; weights = weights; counts = counts; words = words; thresholds = thresholds }

-- the data
abbrev pub data_in : List Float → List Float → List ℕ → Data
data_in values targets listings = record { values = values; targets = targets; listings = listings }

-- from what is lent
abbrev pub tree_for : Shape → Params → Input → Tapes → OneTree
tree_for shape p d t = one_tree_in shape.rows p d.weights.now d.counts.now t.words.now t.thresholds.now

-- its data
abbrev pub data_for : Input → Data
data_for d = data_in d.values.now d.targets.now d.listings.now

-- ---- set-up

-- what set-up asks
pub record SetUpAsks (rows features : ℕ) (targets weights : List Float) (counts listings : List ℕ) (order : ℕ) : Type 0 where
  pub few : rows ≤ 65535
  pub some : 0 < features
  pub tables : Counted rows weights counts
  pub targeted : length targets ≡ rows
  pub low : Every (λ c. T (leb c 65535)) counts
  pub listed : length listings ≡ features * rows
  pub once : (j : ℕ) → j < features → T (each_once rows (listing_at rows listings j))
  pub room : order ≡ features * rows

-- what it leaves
pub record SetUp (rows features : ℕ) (targets weights : List Float) (counts listings order : List ℕ) (r : Root) : Type 0 where
  pub kept : KeptAll (kept_in weights counts) rows features listings order r.kept
  pub totals : r.asked.totals ≡ totals_of empty (map (bare targets weights counts) (from 0 rows))
  pub count : r.asked.count ≡ total (count_in counts) (keep (kept_in weights counts) (from 0 rows))
  pub most : r.most ≡ max 1 (2 * r.kept - 1)

-- ---- the whole

-- what a tree asks, once the checks have passed
pub record PlantAsks (features : ℕ) (F : OneTree) (D : Data) (c : NodeRoom) (order scratch flags wholes reals : ℕ) : Type 0 where
  pub listed : Listed F D
  pub same : features ≡ F.params.features
  pub rows : 0 < F.rows
  pub few : F.rows ≤ 65535
  pub some : 0 < features
  pub wide : length D.values ≡ F.rows * features
  pub targeted : length D.targets ≡ F.rows
  pub tables : Counted F.rows F.weights F.counts
  pub low : Every (λ n. T (leb n 65535)) F.counts
  pub listings : length D.listings ≡ features * F.rows
  pub features-few : features ≤ 1024
  pub deep : F.params.limit ≤ 65535
  pub col-room : order ≡ features * F.rows
  pub scratch-room : F.rows ≤ scratch
  pub flag-room : F.rows ≤ flags
  pub whole_room : F.rows ≤ wholes
  pub real-room : F.rows ≤ reals
  pub node-room : room_for F ≤ shortest_of_eight c.nodes c.behind

-- the tree as the definition has it, its report, and its nodes at the front of the columns: past them the columns keep what they held
pub record Grew (F : OneTree) (D : Data) (c c' : NodeRoom) (r : Report) : Type 0 where
  pub tree : Tree
  pub same : fit F D ≡ ok tree
  pub report : tree.report ≡ r
  pub written : c' ≡ write_nodes tree.nodes c

-- what it answers, and leaves in the node columns
abbrev pub Answers : OneTree → Data → NodeRoom → NodeRoom → Planted → Type 0
Answers F D c c' (Err k) = fit F D ≡ bad k
Answers F D c c' (Ok r) = Grew F D c c' r

-- the same, as the contract says it
pub record PlantDone (F : OneTree) (D : Data) (c c' : NodeRoom) (r : Planted) : Type 0 where
  pub done : Answers F D c c' r

-- ---- the root that is laid out is the definition's, and may be grown

under : (m a b : ℕ) → m ≤ min a b → (m ≤ a) × (m ≤ b)
under m a b h = (omega arith, omega arith)

long-all : (m : ℕ) (c : Columns) → m ≤ shortest c → LongAll m c
long-all m c h =
    let (v, h₁) = under m _ _ h in let (f, h₂) = under m _ _ h₁ in let (t, h₃) = under m _ _ h₂ in let (s, h₄) = under m _ _ h₃ in let (a, b) = under m _ _ h₄ in
    record { value = v; feature = f; threshold = t; score = s; truechild = a; falsechild = b }

pub long-room : (m : ℕ) (c : NodeRoom) → m ≤ shortest_of_eight c.nodes c.behind → LongRoom m c
long-room m c h = let (n, b) = under m _ _ h in let (k, w) = under m _ _ b in record { nodes = long-all m c.nodes n; count = k; mass = w }

module _ (features : ℕ) (F : OneTree) (D : Data) (c : NodeRoom) (cl sc fl rw rr : ℕ) (h : PlantAsks features F D c cl sc fl rw rr) where
  once : (j : ℕ) → j < features → T (each_once F.rows (listing_at F.rows D.listings j))
  unfolding listing
  once j k = h.listed.once j (subst (λ n. j < n) h.same k)

  pub set-up-asks : SetUpAsks F.rows features D.targets F.weights F.counts D.listings cl
  set-up-asks = record { few = h.few; some = h.some; tables = h.tables; targeted = h.targeted; low = h.low; listed = h.listings; once = once; room = h.col-room }

  module _ (order : List ℕ) (r : Root) (s : SetUp F.rows features D.targets F.weights F.counts D.listings order r) where
    abbrev pub ground : Ground
    ground = record { rows = F.rows; features = features; tables = record { values = D.values; targets = D.targets; weights = F.weights; counts = F.counts }; order = order }

    pub root_is : root F D ≡ root_rows ground r.kept r.asked
    unfolding listing
    root_is =
        subst (λ n. root F D ≡ record {
          columns = columns_at (element_in n D.values D.targets F.weights F.counts) F.rows n 0 r.kept order;
          totals = r.asked.totals;
          count = r.asked.count;
        }) (sym h.same)
        (root-made F D order r.kept r.asked.totals r.asked.count
        (subst (λ n. KeptAll (kept_in F.weights F.counts) F.rows n D.listings order r.kept) h.same s.kept) s.totals s.count)

    rows_are : rows_of (root_rows ground r.kept r.asked) ≡ r.kept
    unfolding kept_rows kept
    rows_are = ap rows_of (sym root_is) ∙ root-rows F D h.listed (subst (λ n. 0 < n) h.same h.some) ∙ sym s.kept.count

    pub enough : 1 + 2 * (rows_of (root_rows ground r.kept r.asked) - 1) ≤ r.most
    enough = fits (rows_of (root_rows ground r.kept r.asked)) r.kept r.most rows_are s.most
      where
        fits : (n k m : ℕ) → n ≡ k → m ≡ max 1 (2 * k - 1) → 1 + 2 * (n - 1) ≤ m
        fits n k m e q = omega arith

    pub most-low : r.most ≤ 131069
    most-low = low r.kept F.rows r.most s.kept.within h.few s.most
      where
        low : (k n m : ℕ) → k ≤ n → n ≤ 65535 → m ≡ max 1 (2 * k - 1) → m ≤ 131069
        low k n m a b q = omega arith

    pub root-fine : Good F.params (root_rows ground r.kept r.asked)
    root-fine = subst (Good F.params) root_is (root-good F D h.listed)

    pub tree-asks : length order ≡ cl → TreeAsks ground F.params r.most r.kept r.asked rw rr
    tree-asks kept-long =
        record {
          shape = record { wide = h.wide; targets = h.targeted; counted = h.tables.counted; weighed = h.tables.weighed };
          small = omega (arith, h.few);
          rows = h.rows;
          same = h.same;
          few = h.features-few;
          some = h.some;
          long = kept-long ∙ h.col-room;
          below = kept-below (kept_in F.weights F.counts) F.rows features D.listings order r.kept s.kept once;
          whole_room = h.whole_room;
          real-room = h.real-room;
          deep = h.deep;
          high = s.kept.within;
          good = root-fine;
          enough = enough;
          node-small = omega (arith, most-low);
        }

    pub nodes-long : LongRoom r.most c
    unfolding room_for kept_rows kept
    nodes-long = long-room r.most c (asked r.kept (length (kept_rows F)) r.most (shortest_of_eight c.nodes c.behind) s.kept.count s.most h.node-room)
      where
        asked : (k n m l : ℕ) → k ≡ n → m ≡ max 1 (2 * k - 1) → max 1 (2 * n - 1) ≤ l → m ≤ l
        asked k n m l e q t = omega arith
