-- The Rust's undoing of a split can never run. At a split the Rust goes along the node's rows in the order of the split feature, counts those up to the first that goes to the false side as
-- the true side and all from it on as the false side, and takes the split back if either count is below the least leaf: the node stays a leaf, and no child is made. Of every tree of every
-- fit that answers: at each split those two counts are the ones beside its children, and both reach the least leaf. And both fits with the undoing in them, for every node that waits, are
-- the fits of the rules, with the same answer and the same rooms. The two counts are added up here as the Rust adds them up, not by where each row goes: that no row of the true side comes
-- behind one of the false side is part of what is shown. It holds because no value falls along a listing, and because no cut is found that leaves less on either side. Assumes nothing.
use Prim.Native.Nat.{ℕ, zero, suc, ◌-◌, ◌<◌, ◌≤◌}
use Rattle.std.proofs.Common.{arith, ◌∙◌, subst, true≢false, Ok, Err}
use Rattle.std.specs.Prelude.{◌≡◌, Bool, ◌&&◌, ◌||◌, cond, length, ltb}
use Rattle.std.proofs.Math.Path.{refl, sym, ap}
use Rattle.std.proofs.Math.Bool.{true, false, not}
use mathlib.Core.List.{List, [], ◌∷◌}
use Rattle.std.proofs.Math.ListN.{get_or, get_or-map}
use Rattle.std.proofs.Math.Dec.{T}
use Rattle.std.specs.Float.Ieee.{le}
use Rattle.floats.specs.Order.{le-trans64}
use Rattle.rules.specs.declared.Params.{Params}
use Rattle.rules.specs.declared.Cut.{Cut}
use Rattle.rules.specs.declared.Fork.{Fork}
use Rattle.rules.specs.declared.Kind.{Kind}
use Rattle.rules.specs.declared.Kind.TheVariants.{Leaf, Split}
use Rattle.rules.specs.Results.{Checked}
use Rattle.rules.specs.Words.{from, put_if, keep, total}
use Rattle.rules.specs.Totals.{value_of}
use Rattle.rules.specs.Lent.{Data, OneTree, Entry, WaitingForm, TreeRooms, ForestRooms, cell, count_in}
use Rattle.rules.specs.Checks.{checked}
use Rattle.rules.specs.Draws.{Out, ok, bind, Tapes, tape}
use Rattle.rules.specs.Search.{Column, at, tally, NodeRows, goes_true, on_true, on_false, true_side, false_side, Found, no_cut, cut_found}
use Rattle.rules.specs.Growth.{TreeNode, Waiting, State, leaf_of, joins, searchable, runs, search_if, expand, grow, grow_all, from_root}
use Rattle.rules.specs.Fit.{element_in, element, listing, root, Tree, tree_of, grow_from, fit, entry_of, TreeCall, one_tree_of, grown_tree, tree_tests, tree_ends, fit_tree}
use Rattle.rules.specs.Forest.{ForestCall, one_tree_at, each_tree, Forest, grown_all, next_tree, grow_trees, grown_forest, forest_tests, forest_ends, fit_forest}
use Rattle.rules.specs.Table.{is_leaf}
use Rattle.rules.specs.Reading.{no_entry}
use Rattle.lemmas.specs.Lists.{is_true, ltb_no, Every, every-all, every-imp, every_map, keep_all, keep-none, Ordered, ordered-keep}
use Rattle.lemmas.specs.Outs.{Then, then-after, bind-same}
use Rattle.lemmas.specs.WaitingOrder.{runs_same, search_if-joins, expand-joins}
use Rattle.lemmas.specs.Nodes.{no_node, kind_at, count_at}
use Rattle.lemmas.specs.Cuts.{Good, Suits, Ripe, search-fine, tape-fair, side-good}
use Rattle.lemmas.specs.Splits.{Divides}
use Rattle.lemmas.specs.Root.{Before, Listed, root-good}
use Rattle.lemmas.specs.Passed.{forest-passed, forest-framed, Binary64, listed-right}
use Rattle.lemmas.specs.Tables.{length-entries}
use Rattle.lemmas.specs.Reached.{leaf-written, split-written}
use Rattle.lemmas.specs.FitHistory.{chooses, start_of, Grown, rows_at, count-along, goes_at, stands_at, least_at, rows_child}
use Rattle.lemmas.specs.Answered.{tree-listed}
use Rattle.demands.specs.TreesLeft.{Left, OfEveryTree, left_of, of-every-tree}

-- ---- the statements

-- the entries up to the first that fails a test, and those from it on
unfoldable pub up_to : {A : Type 0} → (A → Bool) → List A → List A
up_to p [] = []
up_to p (x ∷ l) = cond (p x) (x ∷ up_to p l) []

unfoldable pub from_on : {A : Type 0} → (A → Bool) → List A → List A
from_on p [] = []
from_on p (x ∷ l) = cond (p x) (from_on p l) (x ∷ l)

-- the cut of a split with entry e
abbrev pub cut_in : Entry → Cut
cut_in e = record { feature = e.feature; threshold = e.threshold }

-- the Rust's two counts at node k, with entry e: along the rows that pass through it, in the order of e's feature
abbrev pub true_count : OneTree → Data → Left → ℕ → Entry → ℕ
true_count F D L k e = total (count_in F.counts) (up_to (goes_at F D (cut_in e)) (rows_at F D L.entries k e.feature))

abbrev pub false_count : OneTree → Data → Left → ℕ → Entry → ℕ
false_count F D L k e = total (count_in F.counts) (from_on (goes_at F D (cut_in e)) (rows_at F D L.entries k e.feature))

-- they are those of the children, and neither is too low
pub record Stays (F : OneTree) (D : Data) (L : Left) (k : ℕ) (e : Entry) : Type 0 where
  pub true_is : true_count F D L k e ≡ get_or L.counts e.true_child 0
  pub false_is : false_count F D L k e ≡ get_or L.counts e.false_child 0
  pub leaf_true : F.params.leaf ≤ true_count F D L k e
  pub leaf_false : F.params.leaf ≤ false_count F D L k e

abbrev pub NeverUndone : OneTree → Data → Left → Type 0
NeverUndone F D L = (k : ℕ) → k < length L.entries → is_leaf (get_or L.entries k no_entry) ≡ false → Stays F D L k (get_or L.entries k no_entry)

-- a waiting node whose split is taken back: by the same two counts, along its column
abbrev pub taken_back : Params → Waiting → Bool
taken_back P w =
    let rows = get_or w.node.columns w.cut.feature [] in
    ltb (tally (up_to (goes_true w.cut) rows)) P.leaf || ltb (tally (from_on (goes_true w.cut) rows)) P.leaf

module _ (P : Params) {S : Type 0} (choose : S → NodeRows → Out (Found × S)) where
  -- as growth splits, but that such a node stays a leaf
  unfoldable pub expand_or_not : Waiting → State S → Out (List Waiting × State S)
  expand_or_not w s = cond (taken_back P w) (ok ([], s)) (expand P choose w s)

  unfoldable pub grow_or_not : ℕ → Waiting → State S → Out (State S)
  grow_or_not zero w s = ok s
  grow_or_not (suc k) w s = bind (expand_or_not w s) (λ r. runs (λ w' s'. grow_or_not k w' s') r.0 r.1)

  unfoldable pub from_root_or_not : NodeRows → S → Out (State S)
  from_root_or_not root s =
      bind (search_if P choose (ltb 0 root.count && searchable P 1 root) 0 1 root s) (λ r.
      runs (λ w s'. grow_or_not (P.limit - w.level) w s') r.0 (record { nodes = leaf_of root ∷ []; depth = 0; left = r.1 }))

-- a tree that grows so, and a forest of such trees
abbrev pub fit_or_not : OneTree → Data → Out Tree
fit_or_not F D = bind (from_root_or_not F.params (chooses F.params) (root F D) (start_of F)) (λ s. ok (tree_of F (root F D) s))

unfoldable pub trees_or_not : ℕ → List OneTree → Data → Forest
trees_or_not k [] D = grown_all []
trees_or_not k (F ∷ Fs) D = next_tree k (fit_or_not F D) (trees_or_not (suc k) Fs D)

-- both fits, with such trees in them: the same answer and the same rooms, whether it is refused, meets a bad draw or is grown
abbrev pub SameWithUndoing : Type 1
SameWithUndoing =
    (W : Type 0) (K : WaitingForm W)
    → ((C : TreeCall) (R : TreeRooms W) → Binary64 C.given.inputs.values → tree_ends K (checked (tree_tests K C R)) (fit_or_not (one_tree_of C) C.given.inputs) R ≡ fit_tree K C R)
    × ((C : ForestCall) (R : ForestRooms W) → Binary64 C.given.inputs.values → forest_ends K (checked (forest_tests K C R)) (trees_or_not 0 (each_tree C) C.given.inputs) R ≡ fit_forest K C R)

-- ---- up to the first of the false side

-- where nothing passes behind what fails
module _ {A : Type 0} (R : A → A → Type 0) (p : A → Bool) (back : (x y : A) → R x y → p y ≡ true → p x ≡ true) where
  none-behind : (x : A) → p x ≡ false → (l : List A) → Every (R x) l → Every (λ y. p y ≡ false) l
  none-behind x f l h = every-imp _ _ (λ y r. go y r (p y) refl) l h
    where
      go : (y : A) → R x y → (b : Bool) → p y ≡ b → p y ≡ false
      go y r true e = absurd (true≢false (sym (back x y r e) ∙ f))
      go y r false e = e

  up-keep : (l : List A) → Ordered R l → (up_to p l ≡ keep p l) × (from_on p l ≡ keep (λ x. not (p x)) l)
  unfolding up_to from_on keep put_if
  up-keep [] o = (refl, refl)
  up-keep (x ∷ l) o = go (p x) refl (up-keep l o.1)
    where
      go : (b : Bool) → p x ≡ b → (up_to p l ≡ keep p l) × (from_on p l ≡ keep (λ y. not (p y)) l)
          → (cond b (x ∷ up_to p l) [] ≡ put_if b x (keep p l)) × (cond b (from_on p l) (x ∷ l) ≡ put_if (not b) x (keep (λ y. not (p y)) l))
      go true e ih = (ap (λ r. x ∷ r) ih.0, ih.1)
      go false e ih =
          let none = none-behind x e l o.0 in (sym (keep-none p l none), ap (λ r. x ∷ r) (sym (keep_all (λ y. not (p y)) l (every-imp _ _ (λ y f. ap not f) l none))))

-- ---- of every tree

module _ (F : OneTree) (D : Data) (l : Listed F D) (some : 0 < F.params.features) (s : State Tapes) (g : Grown F D s) where
  abbrev left : Left
  left = left_of F D s

  -- at node k, split into fork
  module _ (k : ℕ) (h : k < length s.nodes) (fork : Fork) (e : kind_at s.nodes k ≡ Split fork) where
    abbrev entry : Entry
    entry = entry_of (value_of (get_or s.nodes k no_node).totals) (Split fork)

    abbrev j : ℕ
    j = fork.cut.feature

    d : Divides F.params s.nodes k fork
    d = (stands_at l g).splits k fork e

    along : (up_to (goes_at F D fork.cut) (rows_at F D left.entries k j) ≡ keep (goes_at F D fork.cut) (rows_at F D left.entries k j))
        × (from_on (goes_at F D fork.cut) (rows_at F D left.entries k j) ≡ keep (λ i. not (goes_at F D fork.cut i)) (rows_at F D left.entries k j))
    unfolding at element element_in cell
    along =
        up-keep (Before F D j) (goes_at F D fork.cut) (λ a b r t. is_true _ (le-trans64 (at j (element F D a)) (at j (element F D b)) fork.cut.threshold r (subst T (sym t) tt)))
        (rows_at F D left.entries k j) (ordered-keep (Before F D j) _ (listing F D j) (l.rising j d.known))

    -- the counts beside a child
    beside : (c : ℕ) → c < length s.nodes → 0 < c → (rows : List ℕ) → rows_at F D left.entries c j ≡ rows
        → (total (count_in F.counts) rows ≡ get_or left.counts c 0) × (F.params.leaf ≤ total (count_in F.counts) rows)
    beside c b up rows q =
        let n : total (count_in F.counts) rows ≡ count_at s.nodes c = sym (count-along l g c b j d.known ∙ ap (total (count_in F.counts)) q) in (
          n ∙ sym (get_or-map (λ (x : TreeNode). x.count) s.nodes c no_node),
          subst (λ m. F.params.leaf ≤ m) (sym n) (least_at l g c b up).1,
        )

    kept_at : Stays F D left k entry
    unfolding entry_of
    kept_at =
        let parts = rows_child l g k h fork e j in
        let t = beside fork.children (omega (arith, d.inside)) (omega (arith, d.above)) _ (parts.0 ∙ sym along.0) in
        let f = beside (suc fork.children) d.inside (omega arith) _ (parts.1 ∙ sym along.1) in
        record { true_is = t.0; false_is = f.0; leaf_true = t.1; leaf_false = f.1 }

  grown-kept : NeverUndone F D left
  grown-kept k b inner = go (kind_at s.nodes k) refl
    where
      h : k < length s.nodes
      h = subst (λ n. k < n) (length-entries s.nodes) b

      go : (z : Kind) → kind_at s.nodes k ≡ z → Stays F D left k (get_or left.entries k no_entry)
      go Leaf e = absurd (true≢false (sym (leaf-written g (stands_at l g) k h e) ∙ inner))
      go (Split fork) e = subst (Stays F D left k) (sym (split-written g (stands_at l g) k h fork e)) (kept_at k h fork e)

pub never-undone : OfEveryTree NeverUndone
never-undone = of-every-tree NeverUndone grown-kept

-- ---- of every growth

module _ (P : Params) {S : Type 0} (choose : S → NodeRows → Out (Found × S)) (fine : (s : S) (node : NodeRows) → Good P node → Then (choose s node) (λ r. Suits P node r.0)) where
  -- whoever joins is ripe
  joins-ripe : (n level : ℕ) (node : NodeRows) (t : S) → Good P node → Then (choose t node) (λ r. Every (Ripe P) (joins n level node r.0))
  unfolding joins
  joins-ripe n level node t g = then-after (choose t node) _ _ (fine t node g) (λ r f. go r.0 f)
    where
      go : (f : Found) → Suits P node f → Every (Ripe P) (joins n level node f)
      go no_cut s = tt
      go (cut_found x) s = (record { good = g; fine = s }, tt)

  -- a ripe node is not taken back
  ripe-stays : (w : Waiting) → Ripe P w → taken_back P w ≡ false
  unfolding goes_true
  ripe-stays w h =
      λ i.
      ltb_no _ P.leaf (subst (λ l. P.leaf ≤ tally l) (sym along.0) h.fine.leaf_true) i
      || ltb_no _ P.leaf (subst (λ l. P.leaf ≤ tally l) (sym along.1) h.fine.leaf_false) i
    where
      rows : Column
      rows = get_or w.node.columns w.cut.feature []

      along : (up_to (goes_true w.cut) rows ≡ true_side w.cut rows) × (from_on (goes_true w.cut) rows ≡ false_side w.cut rows)
      along =
          up-keep (λ x y. T (le (at w.cut.feature x) (at w.cut.feature y))) (goes_true w.cut)
          (λ x y r t. is_true _ (le-trans64 (at w.cut.feature x) (at w.cut.feature y) w.cut.threshold r (subst T (sym t) tt)))
          rows (h.good.sound w.cut.feature h.fine.known).rising

  grow-same : (k : ℕ) (w : Waiting) (s : State S) → Ripe P w → grow_or_not P choose k w s ≡ grow P choose k w s
  unfolding grow_or_not grow expand_or_not
  grow-same zero w s h = refl
  grow-same (suc k) w s h =
      ap (λ b. bind (cond b (ok ([], s)) (expand P choose w s)) (λ r. runs (λ w' s'. grow_or_not P choose k w' s') r.0 r.1)) (ripe-stays w h)
      ∙ bind-same (expand P choose w s) _ _ _
      (expand-joins P choose (Ripe P) w s (λ t a. joins-ripe _ _ _ t (side-good P on_true w h)) (λ t a. joins-ripe _ _ _ t (side-good P on_false w h)))
      (λ r q. runs_same _ _ r.0 r.1 (every-imp _ _ (λ v g t. grow-same k v t g) r.0 q))

  from-root-same : (root : NodeRows) (s : S) → Good P root → from_root_or_not P choose root s ≡ from_root P choose root s
  unfolding from_root_or_not from_root grow_all
  from-root-same root s g =
      bind-same (search_if P choose (ltb 0 root.count && searchable P 1 root) 0 1 root s) _ _ _ (search_if-joins P choose (Ripe P) _ 0 1 root s (λ t. joins-ripe 0 1 root s g))
      (λ r q. runs_same _ _ r.0 _ (every-imp _ _ (λ v h t. grow-same (P.limit - v.level) v t h) r.0 q))

fit_same : (F : OneTree) (D : Data) → Listed F D → fit_or_not F D ≡ fit F D
unfolding fit grow_from
fit_same F D l =
    ap (λ m. bind m (λ s. ok (tree_of F (root F D) s)))
    (from-root-same F.params (chooses F.params) (search-fine F.params (tape F.params.features) (tape-fair F.params)) (root F D) (start_of F) (root-good F D l))

trees-same : (k : ℕ) (Fs : List OneTree) (D : Data) → Every (λ F. fit_or_not F D ≡ fit F D) Fs → trees_or_not k Fs D ≡ grow_trees k Fs D
unfolding trees_or_not grow_trees
trees-same k [] D h = refl
trees-same k (F ∷ Fs) D h = λ i. next_tree k (h.0 i) (trees-same (suc k) Fs D h.1 i)

module _ {W : Type 0} (K : WaitingForm W) where
  -- a refusal before growth looks at no tree
  tree-call-same : (C : TreeCall) (R : TreeRooms W) → Binary64 C.given.inputs.values → (v : Checked) → checked (tree_tests K C R) ≡ v
      → tree_ends K v (fit_or_not (one_tree_of C) C.given.inputs) R ≡ tree_ends K v (fit (one_tree_of C) C.given.inputs) R
  unfolding tree_ends
  tree-call-same C R held (Ok _) q = ap (λ o. tree_ends K (Ok tt) o R) (fit_same (one_tree_of C) C.given.inputs (tree-listed K C R held q).0)
  tree-call-same C R held (Err r) q = refl

  forest-call-same : (C : ForestCall) (R : ForestRooms W) → Binary64 C.given.inputs.values → (v : Checked) → checked (forest_tests K C R) ≡ v
      → forest_ends K v (trees_or_not 0 (each_tree C) C.given.inputs) R ≡ forest_ends K v (grow_trees 0 (each_tree C) C.given.inputs) R
  unfolding forest_ends each_tree
  forest-call-same C R held (Ok _) q =
      let p = (forest-passed K C R q).passed in
      ap (λ f. forest_ends K (Ok tt) f R)
      (trees-same 0 (each_tree C) C.given.inputs
      (every_map _ (one_tree_at C) (from 0 C.trees)
      (every-all _ (λ t. fit_same (one_tree_at C t) C.given.inputs (listed-right C.shape C.trees C.given p (one_tree_at C t) (forest-framed C p t) held)) (from 0 C.trees))))
  forest-call-same C R held (Err r) q = refl

pub same-with-undoing : SameWithUndoing
unfolding fit_tree grown_tree fit_forest grown_forest
same-with-undoing W K = ((λ C R held. tree-call-same K C R held (checked (tree_tests K C R)) refl), (λ C R held. forest-call-same K C R held (checked (forest_tests K C R)) refl))
