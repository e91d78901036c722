-- What stands behind a node. A fit that answers leaves beside each node its count and its mass. The root's count is the sum of the counts of all kept rows, and its mass is the root
-- mass that is reported. A node's mass is the one that its value was divided by: where it is above 0, the value is the node's sum over that mass, and where it is not, 0. A split's
-- count is the sum of its children's. Past the nodes both columns hold what they held. The same of each tree of a forest, at its own places. It holds because a node has its
-- totals and its count from when it was made, and because value and mass are written from the same totals. Assumes nothing.
use Rattle.std.specs.Prelude.{ℕ, suc, ◌+◌, ◌-◌, ◌<◌, ◌≡◌, true, false, cond, List, map, get_or, drop, Float, Ok}
use Rattle.std.proofs.Common.{zero-add, arith, ◌∙◌, subst, true≢false, get_or-take, get_or-drop}
use Rattle.std.proofs.Math.Path.{refl, sym, ap}
use Rattle.std.proofs.Math.ListN.{length, get_or-map}
use Rattle.std.proofs.lemmas.List.{length-map}
use Rattle.std.specs.Float.{nan, binary64}
use Rattle.std.specs.Float.Ieee.{div, lt}
use Rattle.rules.specs.declared.Kind.{Kind}
use Rattle.rules.specs.declared.Kind.TheVariants.{Leaf, Split}
use Rattle.rules.specs.declared.Report.{Report}
use Rattle.rules.specs.Words.{nought, stretch, total}
use Rattle.rules.specs.Totals.{value_of}
use Rattle.rules.specs.Lent.{Data, OneTree, Columns, Behind, Entry, WaitingForm, TreeRooms, ForestRooms, count_in, kept_rows, entry_at, entries_at}
use Rattle.rules.specs.Draws.{ok}
use Rattle.rules.specs.Growth.{TreeNode, leaf_of}
use Rattle.rules.specs.Fit.{root, Tree, fit, entry_of, entries, TreeCall, one_tree_of, fit_tree}
use Rattle.rules.specs.Table.{is_leaf, tree_at}
use Rattle.rules.specs.Reading.{no_entry}
use Rattle.rules.specs.Forest.{ForestCall, one_tree_at, forest_entries, forest_nodes, fit_forest}
use Rattle.lemmas.specs.Lists.{same-default, get_d-from}
use Rattle.lemmas.specs.Outs.{then-of}
use Rattle.lemmas.specs.Nodes.{no_node, kind_at, count_at, behind_each, First}
use Rattle.lemmas.specs.Splits.{Stands}
use Rattle.lemmas.specs.Root.{Listed, fit-reported, fit-mass, fit-first, fit-stands}
use Rattle.lemmas.specs.Passed.{Binary64, ForestPassed, forest-framed, listed-right}
use Rattle.lemmas.specs.Tables.{length-entries, entry-of}
use Rattle.lemmas.specs.Laid.{entries-long}
use Rattle.lemmas.specs.Written.{last-start}
use Rattle.lemmas.specs.Beside.{behind_at, behind_past, behind-stays, length-nodes}
use Rattle.lemmas.specs.Answered.{TreeAnswered, tree-answered, tree-listed, ForestAnswered, forest-answered, forest-right, trees-length, GrewAt, tree-at}
use Rattle.demands.specs.Walks.{reported-nodes, tree-left, beside-left}
use Rattle.demands.specs.OutOfBag.{ok_same}
use Rattle.demands.specs.ItsTrees.{report-left, nodes-left, behind-left}

-- ---- the statements

-- what is at one place of the eight columns
pub record Standing : Type 0 where
  pub entry : Entry
  pub count : ℕ
  pub mass : Float

abbrev pub standing_at : Columns → Behind → ℕ → Standing
standing_at c b k = record { entry = entry_at c k; count = get_or b.count k 0; mass = get_or b.mass k nan }

-- at node k of a tree
abbrev pub in_tree : {W : Type 0} → TreeRooms W → ℕ → Standing
in_tree R k = standing_at R.nodes R.behind k

-- at node k of tree t of a forest
abbrev pub in_forest : {W : Type 0} → ForestRooms W → ℕ → ℕ → Standing
in_forest R t k = standing_at R.nodes R.behind (get_or R.starts t 0 + k)

-- the counts of all rows that a tree keeps, added up
abbrev pub kept_count : OneTree → ℕ
kept_count F = total (count_in F.counts) (kept_rows F)

-- of what is at a root: the counts of all that is kept, and the root mass that is reported
pub record AtRoot (F : OneTree) (reported : Float) (s : Standing) : Type 0 where
  pub count : s.count ≡ kept_count F
  pub mass : s.mass ≡ reported

abbrev pub TreeRoot : Type 1
TreeRoot =
    (W : Type 0) (K : WaitingForm W) (C : TreeCall) (R : TreeRooms W) (r : Report) → (fit_tree K C R).answer ≡ Ok r
    → AtRoot (one_tree_of C) r.mass (in_tree (fit_tree K C R).rooms 0)

abbrev pub ForestRoot : Type 1
ForestRoot =
    (W : Type 0) (K : WaitingForm W) (C : ForestCall) (R : ForestRooms W) → (fit_forest K C R).answer ≡ Ok tt → (t : ℕ) → t < C.trees
    → AtRoot (one_tree_at C t) (get_or (fit_forest K C R).rooms.reports.mass t nan) (in_forest (fit_forest K C R).rooms t 0)

-- of what is at the place of node n: its count and its mass, and its value, which is its sum divided by that mass
pub record OfNode (n : TreeNode) (s : Standing) : Type 0 where
  pub count : s.count ≡ n.count
  pub mass : s.mass ≡ n.totals.mass
  pub divided : lt nought s.mass ≡ true → s.entry.value ≡ div binary64 n.totals.sum s.mass
  pub massless : lt nought s.mass ≡ false → s.entry.value ≡ nought

-- so it is at each of n places, with the nodes of the tree that the definition grows
abbrev pub EachOwn : OneTree → Data → ℕ → (ℕ → Standing) → Type 0
EachOwn F D n at = (t : Tree) → fit F D ≡ ok t → (k : ℕ) → k < n → OfNode (get_or t.nodes k no_node) (at k)

abbrev pub TreeOwn : Type 1
TreeOwn =
    (W : Type 0) (K : WaitingForm W) (C : TreeCall) (R : TreeRooms W) (r : Report) → (fit_tree K C R).answer ≡ Ok r
    → EachOwn (one_tree_of C) C.given.inputs r.nodes (in_tree (fit_tree K C R).rooms)

abbrev pub ForestOwn : Type 1
ForestOwn =
    (W : Type 0) (K : WaitingForm W) (C : ForestCall) (R : ForestRooms W) → (fit_forest K C R).answer ≡ Ok tt → (t : ℕ) → t < C.trees
    → EachOwn (one_tree_at C t) C.given.inputs (get_or (fit_forest K C R).rooms.reports.nodes t 0) (in_forest (fit_forest K C R).rooms t)

-- of n nodes each split: its children's counts add up to its own
abbrev pub SplitsAdd : ℕ → (ℕ → Standing) → Type 0
SplitsAdd n at = (k : ℕ) → k < n → is_leaf (at k).entry ≡ false → (at (at k).entry.true_child).count + (at (at k).entry.false_child).count ≡ (at k).count

abbrev pub TreeAdds : Type 1
TreeAdds =
    (W : Type 0) (K : WaitingForm W) (C : TreeCall) (R : TreeRooms W) (r : Report) → Binary64 C.given.inputs.values → (fit_tree K C R).answer ≡ Ok r
    → SplitsAdd r.nodes (in_tree (fit_tree K C R).rooms)

abbrev pub ForestAdds : Type 1
ForestAdds =
    (W : Type 0) (K : WaitingForm W) (C : ForestCall) (R : ForestRooms W) → Binary64 C.given.inputs.values → (fit_forest K C R).answer ≡ Ok tt → (t : ℕ) → t < C.trees
    → SplitsAdd (get_or (fit_forest K C R).rooms.reports.nodes t 0) (in_forest (fit_forest K C R).rooms t)

-- past the nodes, of a forest those of all its trees
abbrev pub TreeBeyond : Type 1
TreeBeyond =
    (W : Type 0) (K : WaitingForm W) (C : TreeCall) (R : TreeRooms W) (r : Report) → (fit_tree K C R).answer ≡ Ok r
    → behind_past r.nodes (fit_tree K C R).rooms.behind ≡ behind_past r.nodes R.behind

abbrev pub ForestBeyond : Type 1
ForestBeyond =
    (W : Type 0) (K : WaitingForm W) (C : ForestCall) (R : ForestRooms W) → (fit_forest K C R).answer ≡ Ok tt
    → behind_past (get_or (fit_forest K C R).rooms.starts C.trees 0) (fit_forest K C R).rooms.behind ≡ behind_past (get_or (fit_forest K C R).rooms.starts C.trees 0) R.behind

-- ---- what is written of a node

abbrev standing_of : TreeNode → Standing
standing_of n = record { entry = entry_of (value_of n.totals) n.kind; count = n.count; mass = n.totals.mass }

-- value and mass are of the same totals
of_node : (x : TreeNode) → OfNode x (standing_of x)
unfolding value_of entry_of
of_node x =
    record {
      count = refl;
      mass = refl;
      divided = λ q. kind x.kind ∙ ap (λ b. cond b (div binary64 x.totals.sum x.totals.mass) nought) q;
      massless = λ q. kind x.kind ∙ ap (λ b. cond b (div binary64 x.totals.sum x.totals.mass) nought) q;
    }
  where
    kind : (z : Kind) → (entry_of (value_of x.totals) z).value ≡ value_of x.totals
    kind Leaf = refl
    kind (Split s) = refl

-- in n places from place a on
places : (c : Columns) (b : Behind) (a n : ℕ) (ns : List TreeNode) → entries_at c a n ≡ entries ns → behind_at b a n ≡ behind_each ns → n ≡ length ns → (k : ℕ) → k < n
    → standing_at c b (a + k) ≡ standing_of (get_or ns k no_node)
unfolding entries_at
places c b a n ns es bs e k h = λ i. record { entry = entry i; count = count i; mass = mass i }
  where
    inside : k < length ns
    inside = subst (λ m. k < m) e h

    entry : entry_at c (a + k) ≡ entry_of (value_of (get_or ns k no_node).totals) (kind_at ns k)
    entry = sym (get_d-from (entry_at c) a n k no_entry h) ∙ ap (λ l. get_or l k no_entry) es ∙ entry-of ns k inside

    -- of either column
    read : {A : Type 0} (l : List A) (d : A) → get_or l (a + k) d ≡ get_or (stretch a n l) k d
    read l d = sym (get_or-take n (drop a l) k d h ∙ get_or-drop a l k d)

    count : get_or b.count (a + k) 0 ≡ count_at ns k
    count = read b.count 0 ∙ ap (λ (x : Behind). get_or x.count k 0) bs ∙ get_or-map (λ (x : TreeNode). x.count) ns k no_node

    mass : get_or b.mass (a + k) nan ≡ (get_or ns k no_node).totals.mass
    mass =
        read b.mass nan
        ∙ ap (λ (x : Behind). get_or x.mass k nan) bs
        ∙ same-default (map (λ (x : TreeNode). x.totals.mass) ns) k nan nought (subst (λ m. k < m) (sym (length-map ns (λ (x : TreeNode). x.totals.mass))) inside)
        ∙ get_or-map (λ (x : TreeNode). x.totals.mass) ns k no_node

-- ---- of a tree whose nodes are at places

module _ (F : OneTree) (D : Data) (t : Tree) (grew : fit F D ≡ ok t) (n : ℕ) (long : n ≡ length t.nodes) (at : ℕ → Standing)
    (is : (k : ℕ) → k < n → at k ≡ standing_of (get_or t.nodes k no_node)) where
  at-root : AtRoot F t.report.mass (at 0)
  unfolding root leaf_of
  at-root =
      record {
        count = (λ i. (first i).count) ∙ (λ i. (f.same i).count);
        mass = (λ i. (first i).mass) ∙ (λ i. (f.same i).totals.mass) ∙ sym (then-of (λ (x : Tree). x.report.mass ≡ (root F D).totals.mass) (fit F D) t grew (fit-mass F D));
      }
    where
      f : First (root F D) t.nodes
      f = then-of (λ (x : Tree). First (root F D) x.nodes) (fit F D) t grew (fit-first F D)

      first : at 0 ≡ standing_of (get_or t.nodes 0 no_node)
      first = is 0 (subst (λ m. 0 < m) (sym long) f.some)

  each-own : EachOwn F D n at
  each-own u e k h = subst (OfNode (get_or u.nodes k no_node)) (sym (is k h ∙ (λ i. standing_of (get_or (ok_same t u (sym grew ∙ e) i).nodes k no_node)))) (of_node (get_or u.nodes k no_node))

  splits-add : Listed F D → SplitsAdd n at
  unfolding entry_of is_leaf
  splits-add l k h q = go (kind_at t.nodes k) refl
    where
      stands : Stands F.params t.nodes
      stands = then-of (λ (x : Tree). Stands F.params x.nodes) (fit F D) t grew (fit-stands F D l)

      entry : (z : Kind) → kind_at t.nodes k ≡ z → (at k).entry ≡ entry_of (value_of (get_or t.nodes k no_node).totals) z
      entry z e = (λ i. (is k h i).entry) ∙ ap (entry_of (value_of (get_or t.nodes k no_node).totals)) e

      -- what counts at place j
      counts : (j : ℕ) → j < length t.nodes → (at j).count ≡ count_at t.nodes j
      counts j b = λ i. (is j (subst (λ m. j < m) (sym long) b) i).count

      go : (z : Kind) → kind_at t.nodes k ≡ z → (at (at k).entry.true_child).count + (at (at k).entry.false_child).count ≡ (at k).count
      go Leaf e = absurd (true≢false (sym (ap is_leaf (entry Leaf e)) ∙ q))
      go (Split s) e =
          let d = stands.splits k s e in
          (λ i. (at (entry (Split s) e i).true_child).count + (at (entry (Split s) e i).false_child).count)
          ∙ (λ i. counts s.children (omega (arith, d.inside)) i + counts (suc s.children) d.inside i)
          ∙ d.whole
          ∙ sym (counts k (subst (λ m. k < m) long h))

-- ---- one tree

module _ {W : Type 0} (K : WaitingForm W) (C : TreeCall) (R : TreeRooms W) (r : Report) (a : TreeAnswered K C R r) where
  tree-long : r.nodes ≡ length a.tree.nodes
  tree-long = ap (λ (x : Report). x.nodes) (sym a.reported) ∙ reported-nodes C a.tree a.grew

  tree_is : (k : ℕ) → k < r.nodes → in_tree (fit_tree K C R).rooms k ≡ standing_of (get_or a.tree.nodes k no_node)
  tree_is k h =
      ap (in_tree (fit_tree K C R).rooms) (sym (zero-add k))
      ∙ places (fit_tree K C R).rooms.nodes (fit_tree K C R).rooms.behind 0 r.nodes a.tree.nodes (tree-left K C R r a) (beside-left K C R r a) tree-long k h

pub tree-root : TreeRoot
tree-root W K C R r h =
    let a : TreeAnswered K C R r = tree-answered K C R r h in
    subst (λ (x : Report). AtRoot (one_tree_of C) x.mass (in_tree (fit_tree K C R).rooms 0)) a.reported
    (at-root (one_tree_of C) C.given.inputs a.tree a.grew r.nodes (tree-long K C R r a) (in_tree (fit_tree K C R).rooms) (tree_is K C R r a))

pub tree-own : TreeOwn
tree-own W K C R r h =
    let a : TreeAnswered K C R r = tree-answered K C R r h in
    each-own (one_tree_of C) C.given.inputs a.tree a.grew r.nodes (tree-long K C R r a) (in_tree (fit_tree K C R).rooms) (tree_is K C R r a)

pub tree-adds : TreeAdds
tree-adds W K C R r held h =
    let a : TreeAnswered K C R r = tree-answered K C R r h in
    splits-add (one_tree_of C) C.given.inputs a.tree a.grew r.nodes (tree-long K C R r a) (in_tree (fit_tree K C R).rooms) (tree_is K C R r a) (tree-listed K C R held a.passed).0

pub tree-beyond : TreeBeyond
tree-beyond W K C R r h =
    let a : TreeAnswered K C R r = tree-answered K C R r h in
    (λ i. behind_past r.nodes (a.after i).behind) ∙ behind-stays a.tree.nodes R.behind r.nodes (tree-long K C R r a)

-- ---- a forest

module _ {W : Type 0} (K : WaitingForm W) (C : ForestCall) (R : ForestRooms W) (a : ForestAnswered K C R) (t : ℕ) (h : t < C.trees) where
  abbrev left : ForestRooms W
  left = (fit_forest K C R).rooms

  abbrev grown : Tree
  grown = (tree-at K C R a t h).tree

  abbrev size : ℕ
  size = get_or left.starts (suc t) 0 - get_or left.starts t 0

  -- its places are as many as its nodes, and so many are reported
  size-long : size ≡ length grown.nodes
  unfolding tree_at
  size-long = sym (entries-long left.nodes (get_or left.starts t 0) size) ∙ ap length (nodes-left K C R a t h) ∙ length-entries grown.nodes

  forest-long : get_or left.reports.nodes t 0 ≡ length grown.nodes
  forest-long =
      (λ i. (report-left K C R a t h i).nodes)
      ∙ then-of (λ (x : Tree). x.report.nodes ≡ length x.nodes) (fit (one_tree_at C t) C.given.inputs) grown (tree-at K C R a t h).grew (fit-reported (one_tree_at C t) C.given.inputs)

  forest-is : (k : ℕ) → k < get_or left.reports.nodes t 0 → in_forest left t k ≡ standing_of (get_or grown.nodes k no_node)
  unfolding tree_at
  forest-is k b =
      places left.nodes left.behind (get_or left.starts t 0) size grown.nodes (nodes-left K C R a t h) (behind-left K C R a t h) size-long k
      (subst (λ n. k < n) (forest-long ∙ sym size-long) b)

pub forest-root : ForestRoot
forest-root W K C R g t h =
    let a : ForestAnswered K C R = forest-answered K C R g in
    let left : ForestRooms W = (fit_forest K C R).rooms in
    let u : GrewAt (fit (one_tree_at C t) C.given.inputs) a.trees t = tree-at K C R a t h in
    subst (λ (x : Report). AtRoot (one_tree_at C t) x.mass (in_forest left t 0)) (sym (report-left K C R a t h))
    (at-root (one_tree_at C t) C.given.inputs u.tree u.grew (get_or left.reports.nodes t 0) (forest-long K C R a t h) (in_forest left t) (forest-is K C R a t h))

pub forest-own : ForestOwn
forest-own W K C R g t h =
    let a : ForestAnswered K C R = forest-answered K C R g in
    let left : ForestRooms W = (fit_forest K C R).rooms in
    let u : GrewAt (fit (one_tree_at C t) C.given.inputs) a.trees t = tree-at K C R a t h in
    each-own (one_tree_at C t) C.given.inputs u.tree u.grew (get_or left.reports.nodes t 0) (forest-long K C R a t h) (in_forest left t) (forest-is K C R a t h)

pub forest-adds : ForestAdds
forest-adds W K C R held g t h =
    let a : ForestAnswered K C R = forest-answered K C R g in
    let p : ForestPassed K C R = forest-right K C R a in
    let left : ForestRooms W = (fit_forest K C R).rooms in
    let u : GrewAt (fit (one_tree_at C t) C.given.inputs) a.trees t = tree-at K C R a t h in
    splits-add (one_tree_at C t) C.given.inputs u.tree u.grew (get_or left.reports.nodes t 0) (forest-long K C R a t h) (in_forest left t) (forest-is K C R a t h)
    (listed-right C.shape C.trees C.given p.passed (one_tree_at C t) (forest-framed C p.passed t) held)

pub forest-beyond : ForestBeyond
forest-beyond W K C R g =
    (λ i. behind_past (get_or (fit_forest K C R).rooms.starts C.trees 0) (a.after i).behind) ∙ behind-stays (forest_nodes a.trees) R.behind _ ends
  where
    a : ForestAnswered K C R
    a = forest-answered K C R g

    -- the last tree ends where the nodes do
    ends : get_or (fit_forest K C R).rooms.starts C.trees 0 ≡ length (forest_nodes a.trees)
    ends =
        (λ i. get_or (a.after i).starts (sym (trees-length K C R a) i) 0) ∙ last-start 0 a.trees _ 0
        ∙ zero-add (length (forest_entries a.trees)) ∙ sym (length-nodes a.trees)
