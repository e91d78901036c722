-- Where the best splitter cuts. For either choice a cut that it finds is at least the greatest value of its true side and below the least of its false side, and exactly
-- where the choice puts it between the first of those greatest and that least. So each split of a tree stands between two values that were measured on kept rows; at the
-- lower it is the lower of the two. The choice moves nothing but thresholds: the same rows go the same way, so the answer, every other column, counts and masses among them, and every other room are
-- what they are under the other choice. And it moves nothing at all for the random splitter. In plain settings the flag `lower` alone decides: false, as in settings
-- of zeros, is the midpoint. Assumes nothing.
use Rattle.std.specs.Prelude.{ℕ, suc, ◌+◌, ◌<◌, ◌≡◌, ◌⊎◌, true, false, ◌&&◌, length, get_or, leb, Float, Ok, Err}
use Rattle.std.proofs.Math.Path.{refl, sym, ap, subst}
use Rattle.std.proofs.Common.{◌∙◌}
use Rattle.std.proofs.Math.Logic.{inl, inr}
use mathlib.Core.List.{List, [], ◌∷◌, ◌++◌, map, map-map, map-append}
use Rattle.std.proofs.Math.Dec.{T}
use Rattle.std.specs.Float.Ieee.{lt, le}
use Rattle.rules.specs.Results.{Checked, TreeAnswer, ForestAnswer}
use Rattle.rules.specs.declared.Params.{Params}
use Rattle.rules.specs.declared.Settings.{Settings}
use Rattle.rules.specs.declared.Height.{Height}
use Rattle.rules.specs.declared.Height.TheVariants.{Midpoint, Lower}
use Rattle.rules.specs.declared.TreeSettings.{TreeSettings}
use Rattle.rules.specs.declared.ForestSettings.{ForestSettings}
use Rattle.rules.specs.declared.Splitter.TheVariants.{Best, Random}
use Rattle.rules.specs.declared.Kind.{Kind}
use Rattle.rules.specs.declared.Kind.TheVariants.{Leaf, Split}
use Rattle.rules.specs.declared.Report.{Report}
use Rattle.rules.specs.Words.{from, front, joined, total}
use Rattle.rules.specs.Totals.{value_of}
use Rattle.rules.specs.Threshold.{threshold_between}
use Rattle.rules.specs.Lent.{Data, OneTree, Columns, Behind, behind_of, Entry, WaitingForm, TreeRooms, ForestRooms, Outcome, cell, kept, kept_rows, entries_at, shortest_of_eight, write_entries, write_reports}
use Rattle.rules.specs.Checks.{test, checked, shape_in, trees_in, lengths, numbers_good, counts_good, counts_one, room_for}
use Rattle.rules.specs.Listing.{order_tests}
use Rattle.rules.specs.Draws.{Out, bad, ok, Source}
use Rattle.rules.specs.Search.{Element, at, NodeRows, search}
use Rattle.rules.specs.Growth.{TreeNode}
use Rattle.rules.specs.Fit.{element, element_in, Tree, fit, entry_of, entries, write_behind, params_of, TreeCall, one_tree_of, grown_tree, tree_tests, tree_done, tree_ends, fit_tree}
use Rattle.rules.specs.Forest.{ForestCall, one_tree_at, each_tree, Forest, stopped, grown_all, with_tree, next_tree, grow_trees}
use Rattle.rules.specs.Forest.{grown_forest, starts_from, forest_entries, forest_nodes, tapes_good, rooms_good, forest_tests, forest_done, forest_ends, fit_forest}
use Rattle.rules.specs.Table.{is_leaf}
use Rattle.rules.specs.Plain.{height_of, settings_of, tree_settings_of, forest_settings_of}
use Rattle.lemmas.specs.Lists.{Every, total-map, Pairs, pairs-map}
use Rattle.lemmas.specs.Outs.{Then, then-of, Both, both_first}
use Rattle.lemmas.specs.Nodes.{behind_each}
use Rattle.lemmas.specs.Values.{Value}
use Rattle.lemmas.specs.Heights.{Rising}
use Rattle.lemmas.specs.Cuts.{FoundIs, StandsIn, Fair, search-stands}
use Rattle.lemmas.specs.Twins.{Matched, Told, KindBoth}
use Rattle.lemmas.specs.Root.{Listed}
use Rattle.lemmas.specs.TwinFits.{Row, row-values, Nodes, Trees, one_tree_cut, fit-both, bare_entry, Alike, fit-alike, fit_same}
use Rattle.lemmas.specs.Passed.{Binary64, ForestPassed, forest-passed, forest-framed, listed-right}
use Rattle.lemmas.specs.Answered.{TreeAnswered, tree-answered, tree-listed, ForestAnswered, forest-answered, GrewAt, tree-at}
use Rattle.demands.specs.Walks.{tree-left}

-- ---- the statements

abbrev pub at_height : Height → Settings → Settings
at_height g G = record { depth = G.depth; leaf = G.leaf; split = G.split; splitter = G.splitter; height = g }

-- the same call with the choice g
abbrev pub tree_cut : Height → TreeCall → TreeCall
tree_cut g C = record { shape = C.shape; settings = at_height g C.settings; tried = C.tried; given = C.given; words = C.words; thresholds = C.thresholds }

abbrev pub forest_cut : Height → ForestCall → ForestCall
forest_cut g C =
    record {
      shape = C.shape;
      trees = C.trees;
      settings = at_height g C.settings;
      tried = C.tried;
      given = C.given;
      words = C.words;
      thresholds = C.thresholds;
      word_starts = C.word_starts;
      threshold_starts = C.threshold_starts;
    }

-- of a search, in columns of values that never fall; `Standing` in `lemmas`, Cuts, says where
abbrev pub BestStands : Type 1
BestStands =
    (P : Params) (S : Type 0) (src : Source S) (s : S) (node : NodeRows) → P.splitter ≡ Best → Fair P src
    → ((j : ℕ) → j < P.features → Every (λ x. Value (at j x)) (get_or node.columns j []) × Rising j (get_or node.columns j []))
    → Then (search src P s node) (λ r. FoundIs (StandsIn P node) r.0)

-- of a table's entry: a split between the values of two kept rows
pub record Measured (F : OneTree) (D : Data) (e : Entry) : Type 0 where
  pub low : ℕ
  pub high : ℕ
  pub low_kept : (low < F.rows) × (kept F low ≡ true)
  pub high_kept : (high < F.rows) × (kept F high ≡ true)
  pub exact : e.threshold ≡ threshold_between F.params.height (cell F.params.features D.values e.feature low) (cell F.params.features D.values e.feature high)
  pub at_least : T (le (cell F.params.features D.values e.feature low) e.threshold)
  pub below : T (lt e.threshold (cell F.params.features D.values e.feature high))

abbrev pub LeafOrMeasured : OneTree → Data → Entry → Type 0
LeafOrMeasured F D e = (is_leaf e ≡ true) ⊎ Measured F D e

abbrev pub TreeMeasured : Type 1
TreeMeasured =
    (W : Type 0) (K : WaitingForm W) (C : TreeCall) (R : TreeRooms W) (r : Report) → Binary64 C.given.inputs.values → C.settings.splitter ≡ Best
    → (fit_tree K C R).answer ≡ Ok r
    → Every (LeafOrMeasured (one_tree_of C) C.given.inputs) (entries_at (fit_tree K C R).rooms.nodes 0 r.nodes)

-- of tree t of a forest
abbrev pub ForestMeasured : Type 1
ForestMeasured =
    (W : Type 0) (K : WaitingForm W) (C : ForestCall) (R : ForestRooms W) (h : (fit_forest K C R).answer ≡ (Ok tt)) → Binary64 C.given.inputs.values
    → C.settings.splitter ≡ Best → (t : ℕ) (below : t < C.trees)
    → Every (LeafOrMeasured (one_tree_at C t) C.given.inputs) (entries (tree-at K C R (forest-answered K C R h) t below).tree.nodes)

-- and of each such split: at the lower, its threshold is the value of a kept row
abbrev pub AtMeasured : Type 0
AtMeasured =
    (F : OneTree) (D : Data) (e : Entry) → F.params.height ≡ Lower → Measured F D e
    → (i : ℕ) × (i < F.rows) × (kept F i ≡ true) × (e.threshold ≡ cell F.params.features D.values e.feature i)

-- an outcome, but for the thresholds
abbrev pub bare : Columns → Columns
bare c = record { value = c.value; feature = c.feature; threshold = []; score = c.score; true_child = c.true_child; false_child = c.false_child }

abbrev pub tree_bare : {W : Type 0} → Outcome TreeAnswer (TreeRooms W) → Outcome TreeAnswer (TreeRooms W)
tree_bare o = record { answer = o.answer; rooms = record { nodes = bare o.rooms.nodes; behind = o.rooms.behind; work = o.rooms.work } }

abbrev pub forest_bare : {W : Type 0} → Outcome ForestAnswer (ForestRooms W) → Outcome ForestAnswer (ForestRooms W)
forest_bare o =
    record {
      answer = o.answer;
      rooms = record { nodes = bare o.rooms.nodes; behind = o.rooms.behind; starts = o.rooms.starts; reports = o.rooms.reports; work = o.rooms.work };
    }

abbrev pub ThresholdsAlone : Type 1
ThresholdsAlone =
    (W : Type 0) (K : WaitingForm W) (g : Height)
    → ((C : TreeCall) (R : TreeRooms W) → Binary64 C.given.inputs.values → tree_bare (fit_tree K (tree_cut g C) R) ≡ tree_bare (fit_tree K C R))
    × ((C : ForestCall) (R : ForestRooms W) → Binary64 C.given.inputs.values → forest_bare (fit_forest K (forest_cut g C) R) ≡ forest_bare (fit_forest K C R))

abbrev pub RandomUnmoved : Type 1
RandomUnmoved =
    (W : Type 0) (K : WaitingForm W) (g : Height)
    → ((C : TreeCall) (R : TreeRooms W) → Binary64 C.given.inputs.values → C.settings.splitter ≡ Random → fit_tree K (tree_cut g C) R ≡ fit_tree K C R)
    × ((C : ForestCall) (R : ForestRooms W) → Binary64 C.given.inputs.values → C.settings.splitter ≡ Random → fit_forest K (forest_cut g C) R ≡ fit_forest K C R)

abbrev pub Unsaid : Type 0
Unsaid =
    ((s : TreeSettings) → (s.lower ≡ false → (tree_settings_of s).height ≡ Midpoint) × (s.lower ≡ true → (tree_settings_of s).height ≡ Lower))
    × ((s : ForestSettings) → (s.lower ≡ false → (forest_settings_of s).height ≡ Midpoint) × (s.lower ≡ true → (forest_settings_of s).height ≡ Lower))

-- ---- where a split stands

module _ (F : OneTree) (D : Data) (right : Listed F D) (best : F.params.splitter ≡ Best) where
  abbrev height : Height
  height = F.params.height

  abbrev KeptRow : Element → Type 0
  KeptRow e = Row F D right height e

  kind-measured : (v : Float) (k k' : Kind) → KindBoth F.params height KeptRow (row-values F D right height) k k' → LeafOrMeasured F D (entry_of v k)
  unfolding is_leaf entry_of at element element_in cell
  kind-measured v Leaf Leaf b = inl refl
  kind-measured v Leaf (Split f') b = absurd b
  kind-measured v (Split f) Leaf b = absurd b
  kind-measured v (Split f) (Split f') b =
      let p : Matched F.params height KeptRow (row-values F D right height) f.cut f'.cut =
      subst (λ z. Told F.params height KeptRow (row-values F D right height) z f.cut f'.cut) best b.1 in
      inr (record {
        low = p.low_in.0;
        high = p.high_in.0;
        low_kept = (p.low_in.1, p.low_in.2);
        high_kept = (p.high_in.1, p.high_in.2);
        exact = p.here ∙ (λ i. threshold_between height (at f.cut.feature (p.low_in.3 i)) (at f.cut.feature (p.high_in.3 i)));
        at_least = subst (λ e. T (le (at f.cut.feature e) f.cut.threshold)) p.low_in.3 p.at_least;
        below = subst (λ e. T (lt f.cut.threshold (at f.cut.feature e))) p.high_in.3 p.below;
      })

  nodes-measured : (ns ns' : List TreeNode) → Pairs (Nodes F D right height) ns ns' → Every (LeafOrMeasured F D) (entries ns)
  unfolding entries
  nodes-measured [] [] h = tt
  nodes-measured [] (n' ∷ ns') h = absurd h
  nodes-measured (n ∷ ns) [] h = absurd h
  nodes-measured (n ∷ ns) (n' ∷ ns') h = (kind-measured (value_of n.totals) n.kind n'.kind h.0.2, nodes-measured ns ns' h.1)

  fit-measured : Then (fit F D) (λ t. Every (LeafOrMeasured F D) (entries t.nodes))
  fit-measured =
      both_first (Trees F D right height) _ (fit F D) (fit (one_tree_cut F D right height) D) (fit-both F D right height) (λ t t' h. nodes-measured t.nodes t'.nodes h.0)

pub best-stands : BestStands
best-stands P S src s node best fair sorted = search-stands P src fair best s node sorted

-- ---- of one tree

pub tree-measured : TreeMeasured
unfolding one_tree_of params_of
tree-measured W K C R r held best h =
    let a : TreeAnswered K C R r = tree-answered K C R r h in
    subst (Every (LeafOrMeasured (one_tree_of C) C.given.inputs)) (sym (tree-left K C R r a))
    (then-of (λ (t : Tree). Every (LeafOrMeasured (one_tree_of C) C.given.inputs) (entries t.nodes)) (fit (one_tree_of C) C.given.inputs) a.tree a.grew
    (fit-measured (one_tree_of C) C.given.inputs (tree-listed K C R held a.passed).0 best))

pub forest-measured : ForestMeasured
unfolding one_tree_at params_of
forest-measured W K C R h held best t below =
    let a : ForestAnswered K C R = forest-answered K C R h in
    let p : ForestPassed K C R = forest-passed K C R a.passed in
    let u : GrewAt (fit (one_tree_at C t) C.given.inputs) a.trees t = tree-at K C R a t below in
    then-of (λ (x : Tree). Every (LeafOrMeasured (one_tree_at C t) C.given.inputs) (entries x.nodes)) (fit (one_tree_at C t) C.given.inputs) u.tree u.grew
    (fit-measured (one_tree_at C t) C.given.inputs (listed-right C.shape C.trees C.given p.passed (one_tree_at C t) (forest-framed C p.passed t) held) best)

pub at-measured : AtMeasured
unfolding threshold_between
at-measured F D e lower b = (
  b.low,
  b.low_kept.0,
  b.low_kept.1,
  b.exact ∙ ap (λ g. threshold_between g (cell F.params.features D.values e.feature b.low) (cell F.params.features D.values e.feature b.high)) lower,
)

-- what is written of entries that are the same but for their thresholds
written_bare : (es es' : List Entry) (c : Columns) → map bare_entry es ≡ map bare_entry es' → bare (write_entries es c) ≡ bare (write_entries es' c)
written_bare es es' c h = λ i.
    record {
      value = front (column (λ (e : Entry). e.value) (λ e. refl) i) c.value;
      feature = front (column (λ (e : Entry). e.feature) (λ e. refl) i) c.feature;
      threshold = [];
      score = front (column (λ (e : Entry). e.score) (λ e. refl) i) c.score;
      true_child = front (column (λ (e : Entry). e.true_child) (λ e. refl) i) c.true_child;
      false_child = front (column (λ (e : Entry). e.false_child) (λ e. refl) i) c.false_child;
    }
  where
    column : {A : Type 0} (f : Entry → A) → ((e : Entry) → f (bare_entry e) ≡ f e) → map f es ≡ map f es'
    column f same = sym (through es) ∙ ap (map f) h ∙ through es'
      where
        through : (l : List Entry) → map f (map bare_entry l) ≡ map f l
        through l = map-map f bare_entry l ∙ ap (λ k. map k l) (λ i e. same e i)

-- and what is written beside them
written_behind : (ns ns' : List TreeNode) (b : Behind) → behind_each ns ≡ behind_each ns' → write_behind ns b ≡ write_behind ns' b
written_behind ns ns' b h = λ i. behind_of (front (h i).count b.count) (front (h i).mass b.mass)

tree-alone : (W : Type 0) (K : WaitingForm W) (g : Height) (C : TreeCall) (R : TreeRooms W) → Binary64 C.given.inputs.values
    → tree_bare (fit_tree K (tree_cut g C) R) ≡ tree_bare (fit_tree K C R)
unfolding fit_tree tree_tests tree_ends tree_done room_for kept_rows kept one_tree_of params_of grown_tree
tree-alone W K g C R held = go (checked (tree_tests K C R)) refl
  where
    done : (o o' : Out Tree) → Both Alike o o' → tree_bare (tree_done K o' R) ≡ tree_bare (tree_done K o R)
    done (bad m) (bad n) h = ap (λ k. tree_bare (tree_done K (bad k) R)) (sym h)
    done (bad m) (ok t') h = absurd h
    done (ok t) (bad n) h = absurd h
    done (ok t) (ok t') h =
        λ i.
        record {
          answer = Ok (sym h.2 i);
          rooms = record {
            nodes = sym (written_bare (entries t.nodes) (entries t'.nodes) R.nodes h.0) i;
            behind = sym (written_behind t.nodes t'.nodes R.behind h.3) i;
            work = (tree_done K (ok t) R).rooms.work;
          };
        }

    go : (n : Checked) → checked (tree_tests K C R) ≡ n → tree_bare (tree_ends K n (grown_tree (tree_cut g C)) R) ≡ tree_bare (tree_ends K n (grown_tree C) R)
    go (Ok _) q = done (grown_tree C) (grown_tree (tree_cut g C)) (fit-alike (one_tree_of C) C.given.inputs (tree-listed K C R held q).0 g)
    go (Err r) q = refl

tree-unmoved : (W : Type 0) (K : WaitingForm W) (g : Height) (C : TreeCall) (R : TreeRooms W) → Binary64 C.given.inputs.values → C.settings.splitter ≡ Random
    → fit_tree K (tree_cut g C) R ≡ fit_tree K C R
unfolding fit_tree tree_tests tree_ends room_for kept_rows kept one_tree_of params_of grown_tree
tree-unmoved W K g C R held random = go (checked (tree_tests K C R)) refl
  where
    go : (n : Checked) → checked (tree_tests K C R) ≡ n → tree_ends K n (grown_tree (tree_cut g C)) R ≡ tree_ends K n (grown_tree C) R
    go (Ok _) q = ap (λ o. tree_done K o R) (sym (fit_same (one_tree_of C) C.given.inputs (tree-listed K C R held q).0 g random))
    go (Err r) q = refl

-- ---- of a forest, tree by tree

abbrev Forests : Forest → Forest → Type 0
Forests (stopped d) (stopped d') = d ≡ d'
Forests (stopped d) (grown_all ts') = ⊥
Forests (grown_all ts) (stopped d') = ⊥
Forests (grown_all ts) (grown_all ts') = Pairs Alike ts ts'

next-alike : (k : ℕ) (o o' : Out Tree) → Both Alike o o' → (f f' : Forest) → Forests f f' → Forests (next_tree k o f) (next_tree k o' f')
unfolding next_tree with_tree
next-alike k (bad m) (bad n) h f f' q = ap (λ s. record { tree = k; search = s }) h
next-alike k (bad m) (ok t') h f f' q = absurd h
next-alike k (ok t) (bad n) h f f' q = absurd h
next-alike k (ok t) (ok t') h (stopped d) (stopped d') q = q
next-alike k (ok t) (ok t') h (stopped d) (grown_all ts') q = absurd q
next-alike k (ok t) (ok t') h (grown_all ts) (stopped d') q = absurd q
next-alike k (ok t) (ok t') h (grown_all ts) (grown_all ts') q = (h, q)

entries-bare : (ts ts' : List Tree) → Pairs Alike ts ts' → map bare_entry (forest_entries ts) ≡ map bare_entry (forest_entries ts')
unfolding forest_entries
entries-bare [] [] h = refl
entries-bare [] (t' ∷ ts') h = absurd h
entries-bare (t ∷ ts) [] h = absurd h
entries-bare (t ∷ ts) (t' ∷ ts') h =
    map-append bare_entry (entries t.nodes) (forest_entries ts) ∙ (λ i. h.0.0 i ++ entries-bare ts ts' h.1 i) ∙ sym (map-append bare_entry (entries t'.nodes) (forest_entries ts'))

nodes-behind : (ts ts' : List Tree) → Pairs Alike ts ts' → behind_each (forest_nodes ts) ≡ behind_each (forest_nodes ts')
unfolding forest_nodes joined
nodes-behind [] [] h = refl
nodes-behind [] (t' ∷ ts') h = absurd h
nodes-behind (t ∷ ts) [] h = absurd h
nodes-behind (t ∷ ts) (t' ∷ ts') h =
    behind-append t.nodes (forest_nodes ts)
    ∙ (λ i. behind_of ((h.0.3 i).count ++ (nodes-behind ts ts' h.1 i).count) ((h.0.3 i).mass ++ (nodes-behind ts ts' h.1 i).mass))
    ∙ sym (behind-append t'.nodes (forest_nodes ts'))
  where
    behind-append : (ns ms : List TreeNode) → behind_each (ns ++ ms) ≡ behind_of ((behind_each ns).count ++ (behind_each ms).count) ((behind_each ns).mass ++ (behind_each ms).mass)
    behind-append ns ms = λ i. behind_of (map-append (λ (n : TreeNode). n.count) ns ms i) (map-append (λ (n : TreeNode). n.totals.mass) ns ms i)

starts-same : (a : ℕ) (ts ts' : List Tree) → Pairs Alike ts ts' → starts_from a ts ≡ starts_from a ts'
unfolding starts_from
starts-same a [] [] h = refl
starts-same a [] (t' ∷ ts') h = absurd h
starts-same a (t ∷ ts) [] h = absurd h
starts-same a (t ∷ ts) (t' ∷ ts') h = ap (λ l. a ∷ l) (ap (λ n. starts_from (a + n) ts) h.0.1 ∙ starts-same (a + length t'.nodes) ts ts' h.1)

module _ {W : Type 0} (K : WaitingForm W) (g : Height) (C : ForestCall) (R : ForestRooms W) (held : Binary64 C.given.inputs.values) where
  forest-listed : checked (forest_tests K C R) ≡ Ok tt → (t : ℕ) → Listed (one_tree_at C t) C.given.inputs
  forest-listed q t = let p = (forest-passed K C R q).passed in listed-right C.shape C.trees C.given p (one_tree_at C t) (forest-framed C p t) held

  trees-alike : checked (forest_tests K C R) ≡ Ok tt → (k : ℕ) (l : List ℕ)
      → Forests (grow_trees k (map (one_tree_at C) l) C.given.inputs) (grow_trees k (map (one_tree_at (forest_cut g C)) l) C.given.inputs)
  unfolding grow_trees one_tree_at params_of
  trees-alike q k [] = tt
  trees-alike q k (t ∷ l) =
      next-alike k (fit (one_tree_at C t) C.given.inputs) (fit (one_tree_at (forest_cut g C) t) C.given.inputs) (fit-alike (one_tree_at C t) C.given.inputs (forest-listed q t) g) _ _
      (trees-alike q (suc k) l)

  trees-same : checked (forest_tests K C R) ≡ Ok tt → C.settings.splitter ≡ Random → (k : ℕ) (l : List ℕ)
      → grow_trees k (map (one_tree_at C) l) C.given.inputs ≡ grow_trees k (map (one_tree_at (forest_cut g C)) l) C.given.inputs
  unfolding grow_trees one_tree_at params_of
  trees-same q random k [] = refl
  trees-same q random k (t ∷ l) = λ i. next_tree k (fit_same (one_tree_at C t) C.given.inputs (forest-listed q t) g random i) (trees-same q random (suc k) l i)

  tests_same : forest_tests K (forest_cut g C) R ≡ forest_tests K C R
  unfolding forest_tests rooms_good tapes_good each_tree one_tree_at room_for kept_rows kept
  tests_same = λ i.
      test 1 (shape_in C.shape && trees_in C.trees)
      ∷ test 2 (lengths C.shape C.trees C.given && tapes_good C)
      ∷ test 3 (numbers_good C.given)
      ∷ test 4 (counts_good C.given && counts_one C.given)
      ∷ order_tests C.shape C.given.inputs.values C.given.inputs.listings
      ++ test 6 (leb (rooms i) (shortest_of_eight R.nodes R.behind) && rooms_good K C R)
      ∷ []
    where
      rooms : total room_for (each_tree (forest_cut g C)) ≡ total room_for (each_tree C)
      rooms = total-map room_for (one_tree_at (forest_cut g C)) (from 0 C.trees) ∙ sym (total-map room_for (one_tree_at C) (from 0 C.trees))

  done-alike : (f f' : Forest) → Forests f f' → forest_bare (forest_done K f' R) ≡ forest_bare (forest_done K f R)
  unfolding forest_done
  done-alike (stopped d) (stopped d') h = ap (λ x. forest_bare (forest_done K (stopped x) R)) (sym h)
  done-alike (stopped d) (grown_all ts') h = absurd h
  done-alike (grown_all ts) (stopped d') h = absurd h
  done-alike (grown_all ts) (grown_all ts') h =
      sym (λ i.
      record {
        answer = Ok tt;
        rooms = record {
          nodes = written_bare (forest_entries ts) (forest_entries ts') R.nodes (entries-bare ts ts' h) i;
          behind = written_behind (forest_nodes ts) (forest_nodes ts') R.behind (nodes-behind ts ts' h) i;
          starts = front (starts-same 0 ts ts' h i) R.starts;
          reports = write_reports (pairs-map Alike (λ (t : Tree). t.report) (λ (t : Tree). t.report) (λ t t' a. a.2) ts ts' h i) R.reports;
          work = (forest_done K (grown_all ts) R).rooms.work;
        };
      })

  forest-alone : forest_bare (fit_forest K (forest_cut g C) R) ≡ forest_bare (fit_forest K C R)
  unfolding fit_forest forest_ends grown_forest each_tree
  forest-alone = ap (λ l. forest_bare (forest_ends K (checked l) (grown_forest (forest_cut g C)) R)) tests_same ∙ go (checked (forest_tests K C R)) refl
    where
      go : (n : Checked) → checked (forest_tests K C R) ≡ n → forest_bare (forest_ends K n (grown_forest (forest_cut g C)) R) ≡ forest_bare (forest_ends K n (grown_forest C) R)
      go (Ok _) q = done-alike (grown_forest C) (grown_forest (forest_cut g C)) (trees-alike q 0 (from 0 C.trees))
      go (Err r) q = refl

  forest-unmoved : C.settings.splitter ≡ Random → fit_forest K (forest_cut g C) R ≡ fit_forest K C R
  unfolding fit_forest forest_ends grown_forest each_tree
  forest-unmoved random = ap (λ l. forest_ends K (checked l) (grown_forest (forest_cut g C)) R) tests_same ∙ go (checked (forest_tests K C R)) refl
    where
      go : (n : Checked) → checked (forest_tests K C R) ≡ n → forest_ends K n (grown_forest (forest_cut g C)) R ≡ forest_ends K n (grown_forest C) R
      go (Ok _) q = ap (λ f. forest_done K f R) (sym (trees-same q random 0 (from 0 C.trees)))
      go (Err r) q = refl

pub thresholds-alone : ThresholdsAlone
thresholds-alone W K g = ((λ C R held. tree-alone W K g C R held), (λ C R held. forest-alone K g C R held))

pub random-unmoved : RandomUnmoved
random-unmoved W K g = ((λ C R held random. tree-unmoved W K g C R held random), (λ C R held random. forest-unmoved K g C R held random))

pub unsaid : Unsaid
unfolding settings_of
unsaid = ((λ s. ((λ e. ap height_of e), (λ e. ap height_of e))), (λ s. ((λ e. ap height_of e), (λ e. ap height_of e))))
