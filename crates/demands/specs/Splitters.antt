-- What the two splitters do with the threshold tape. The best splitter never looks at it: with any other tape the call leaves the same, and reports no threshold used.
-- The random splitter cuts nowhere else: every split of its tree stands at a threshold of the tape, one of those that it reports used. Assumes nothing.
use Rattle.std.specs.Prelude.{ℕ, suc, ◌+◌, ◌-◌, ◌<◌, ◌≤◌, min, ◌≡◌, ◌⊎◌, Bool, ◌&&◌, cond, set, take, ltb, Float, Ok, Some, None}
use Rattle.std.proofs.Common.{add-zero, ◌∙◌, subst, inl, inr, get_or-drop}
use Rattle.std.proofs.Math.Nat.{sub_self}
use native.Mathlib.Omega.{arith}
use Rattle.std.proofs.Math.Path.{refl, sym, ap}
use Rattle.std.proofs.Math.Bool.{true, false}
use mathlib.Core.List.{List, [], ◌∷◌, ◌++◌}
use Rattle.std.proofs.Math.ListN.{length, get_or, drop}
use Rattle.std.proofs.Math.Seq.{drop-drop}
use Rattle.std.specs.Float.{nan}
use Rattle.std.specs.Float.Ieee.{le, lt}
use Rattle.rules.specs.declared.Params.{Params}
use Rattle.rules.specs.declared.Report.{Report}
use Rattle.rules.specs.declared.Splitter.{Splitter}
use Rattle.rules.specs.declared.Splitter.TheVariants.{Best, Random}
use Rattle.rules.specs.Results.{Held}
use Rattle.rules.specs.declared.Totals.{Totals}
use Rattle.rules.specs.declared.Cut.{Cut}
use Rattle.rules.specs.declared.Kind.{Kind}
use Rattle.rules.specs.declared.Kind.TheVariants.{Leaf, Split}
use Rattle.rules.specs.Words.{each_once}
use Rattle.rules.specs.Lent.{Data, OneTree, Entry, WaitingForm, TreeRooms, entries_at, kept_rows, kept}
use Rattle.rules.specs.Checks.{checked, room_for}
use Rattle.rules.specs.Draws.{Out, ok, bind, Tapes, take_words, take_threshold, next_threshold, tape}
use Rattle.rules.specs.Totals.{less, proxy, value_of}
use Rattle.rules.specs.Search.{Column, at, NodeRows, on_true, on_false, better, judge, final, drawn, Tries, draw_in, random_in, try_one, try_all, Found, no_cut, cut_found, found, search}
use Rattle.rules.specs.Growth.{TreeNode, Waiting, State, child, leaf_of, splitting, split_of, with_children, searchable, joins, search_if, expand, from_root}
use Rattle.rules.specs.Fit.{listing, element, column, root, Tree, tree_of, grow_from, fit, entry_of, entries, params_of, TreeCall, one_tree_of, grown_tree, tree_tests, tree_ends, fit_tree}
use Rattle.rules.specs.Table.{is_leaf}
use Rattle.lemmas.specs.Lists.{Every, every-imp, every_append, every_set}
use Rattle.lemmas.specs.Outs.{bind_all, then-then, then-of, then-any, then-after, Then}
use Rattle.lemmas.specs.WaitingOrder.{root-keep}
use Rattle.lemmas.specs.Lifted.{mapped, mapped-on, through, second, lift, root-lift}
use Rattle.lemmas.specs.Answered.{TreeAnswered, tree-answered}
use Rattle.demands.specs.Walks.{tree-left}

-- ---- the statements

-- the same call with other thresholds
abbrev pub drawing : List Float → TreeCall → TreeCall
drawing ts C = record { shape = C.shape; settings = C.settings; tried = C.tried; given = C.given; words = C.words; thresholds = ts }

abbrev pub BestAlone : Type 1
BestAlone =
    (W : Type 0) (K : WaitingForm W) (C : TreeCall) (R : TreeRooms W) → C.settings.splitter ≡ Best
    → ((ts : List Float) → fit_tree K (drawing ts C) R ≡ fit_tree K C R)
    × ((r : Report) → (fit_tree K C R).answer ≡ Ok r → r.thresholds ≡ 0)

-- of a table's entry: a leaf, or a split at one of the first n thresholds of the tape
abbrev pub CutAt : List Float → ℕ → Entry → Type 0
CutAt ts n e = (is_leaf e ≡ true) ⊎ ((i : ℕ) × (i < n) × (get_or ts i nan ≡ e.threshold))

abbrev pub FromTape : Type 1
FromTape =
    (W : Type 0) (K : WaitingForm W) (C : TreeCall) (R : TreeRooms W) (r : Report) → C.settings.splitter ≡ Random → (fit_tree K C R).answer ≡ Ok r
    → Every (CutAt C.thresholds r.thresholds) (entries_at (fit_tree K C R).rooms.nodes 0 r.nodes)

-- ---- the best splitter

-- what is left, with other thresholds
abbrev swap : List Float → Tapes → Tapes
swap ts d = record { words = d.words; thresholds = ts; searches = d.searches }

random≢best : Random ≡ Best → ⊥
random≢best h = subst is_random h tt
  where
    is_random : Splitter → Type 0
    is_random Best = ⊥
    is_random Random = Unit {0}

module _ (P : Params) (best : P.splitter ≡ Best) (ts : List Float) where
  abbrev tries : Tries Tapes → Tries Tapes
  tries r = record { best = r.best; left = swap ts r.left }

  tries-swap : (node : NodeRows) (js : List ℕ) (r : Tries Tapes) → try_all (tape P.features) P node js (tries r) ≡ mapped tries (try_all (tape P.features) P node js r)
  unfolding try_all try_one bind
  tries-swap node [] r = refl
  tries-swap node (j ∷ js) r = through tries tries (try_one (tape P.features) P.splitter P node j r) _ _ (one P.splitter best) (λ r'. tries-swap node js r')
    where
      one : (b : Splitter) → b ≡ Best → try_one (tape P.features) b P node j (tries r) ≡ mapped tries (try_one (tape P.features) b P node j r)
      one Best e = refl
      one Random e = absurd (random≢best e)

  words-swap : (d : Tapes) → (tape P.features).shuffle (swap ts d) ≡ mapped (second (swap ts)) ((tape P.features).shuffle d)
  unfolding tape take_words bind
  words-swap d = go (each_once P.features (take P.features d.words))
    where
      go : (b : Bool) → take_words b P.features (swap ts d) ≡ mapped (second (swap ts)) (take_words b P.features d)
      go true = refl
      go false = refl

  search-swap : (d : Tapes) (node : NodeRows) → search (tape P.features) P (swap ts d) node ≡ mapped (second (swap ts)) (search (tape P.features) P d node)
  unfolding search tape bind
  search-swap d node =
      through (second (swap ts)) (second (swap ts)) ((tape P.features).shuffle d) _ _ (words-swap d)
      (λ o. through tries (second (swap ts)) (try_all (tape P.features) P node (take (min P.tried P.features) o.0) (record { best = None; left = o.1 })) _ _
      (tries-swap node (take (min P.tried P.features) o.0) (record { best = None; left = o.1 })) (λ r. refl))

-- the tree of a growth that left its thresholds alone
plain : OneTree → NodeRows → State Tapes → Tree
plain F node s =
    record {
      nodes = s.nodes;
      report = record {
        nodes = length s.nodes;
        depth = s.depth;
        mass = node.totals.mass;
        searches = s.left.searches;
        words = length F.words - length s.left.words;
        thresholds = 0;
      };
    }

-- as from no thresholds at all
abbrev growth : OneTree → NodeRows → Out (State Tapes)
growth F node = from_root F.params (search (tape F.params.features) F.params) node (record { words = F.words; thresholds = []; searches = 0 })

plainly : (F : OneTree) (node : NodeRows) → F.params.splitter ≡ Best → grow_from F node ≡ mapped (plain F node) (growth F node)
unfolding grow_from tree_of plain
plainly F node best =
    ap (λ m. bind m (λ s. ok (tree_of F node s))) (root-lift F.params _ (swap F.thresholds) (search-swap F.params best F.thresholds) node _)
    ∙ mapped-on (lift (swap F.thresholds)) (growth F node) (λ s. ok (tree_of F node s))
    ∙ bind_all (growth F node) _ _ (λ s i. ok (unused s i))
  where
    unused : (s : State Tapes) → tree_of F node (lift (swap F.thresholds) s) ≡ plain F node s
    unused s =
        λ i.
        record {
          nodes = s.nodes;
          report = record {
            nodes = length s.nodes;
            depth = s.depth;
            mass = node.totals.mass;
            searches = s.left.searches;
            words = length F.words - length s.left.words;
            thresholds = sub_self (length F.thresholds) i;
          };
        }

pub best-alone : BestAlone
unfolding fit_tree tree_tests room_for kept_rows kept one_tree_of params_of grown_tree fit root column listing element plain
best-alone W K C R best = (
  (λ ts i. tree_ends K (checked (tree_tests K C R)) ((same ts ∙ sym (same C.thresholds)) i) R),
  (λ r h.
      let a : TreeAnswered K C R r = tree-answered K C R r h in
      ap (λ (x : Report). x.thresholds) (sym a.reported)
      ∙ then-of (λ (t : Tree). t.report.thresholds ≡ 0) (grown_tree C) a.tree a.grew
      (subst (λ o. Then o (λ (t : Tree). t.report.thresholds ≡ 0)) (sym (same C.thresholds)) (then-any (growth F node) _ _ (λ s. refl)))),
)
  where
    F : OneTree
    F = one_tree_of C

    node : NodeRows
    node = root F C.given.inputs

    same : (ts : List Float) → grown_tree (drawing ts C) ≡ mapped (plain F node) (growth F node)
    same ts = plainly (one_tree_of (drawing ts C)) node best

-- ---- the random splitter

module _ (all : List Float) where
  -- x stands on the tape, before all that d has left
  abbrev On : Tapes → Float → Type 0
  On d x = (i : ℕ) × (i + length d.thresholds < length all) × (get_or all i nan ≡ x)

  -- d has the end of the tape left, no more than so many
  record Goes (top : ℕ) (d : Tapes) : Type 0 where
    used : ℕ
    left : d.thresholds ≡ drop used all
    whole : used + length d.thresholds ≡ length all
    fewer : length d.thresholds ≤ top

  on-later : (d d' : Tapes) (x : Float) → length d'.thresholds ≤ length d.thresholds → On d x → On d' x
  on-later d d' x l o = (o.0, omega (arith, l, o.1), o.2)

  goes_on : (top top' : ℕ) (d : Tapes) → length d.thresholds ≤ top' → Goes top d → Goes top' d
  goes_on top top' d l g = record { used = g.used; left = g.left; whole = g.whole; fewer = l }

  takes : (features top : ℕ) (d : Tapes) (lowest highest : Float) → Goes top d
      → Then ((tape features).threshold d lowest highest) (λ m. Goes top m.1 × On m.1 m.0 × (length m.1.thresholds ≤ length d.thresholds))
  unfolding tape next_threshold take_threshold
  takes features top d lowest highest g = next d.thresholds g.left g.whole g.fewer (omega arith)
    where
      next : (l : List Float) → l ≡ drop g.used all → g.used + length l ≡ length all → length l ≤ top → length l ≤ length d.thresholds
          → Then (next_threshold l lowest highest d) (λ m. Goes top m.1 × On m.1 m.0 × (length m.1.thresholds ≤ length d.thresholds))
      next [] e w f b = tt
      next (t ∷ ts) e w f b = go (le lowest t && lt t highest)
        where
          go : (x : Bool) → Then (take_threshold x t ts d) (λ m. Goes top m.1 × On m.1 m.0 × (length m.1.thresholds ≤ length d.thresholds))
          go false = tt
          go true = (
            record { used = g.used + 1; left = ap (drop 1) e ∙ drop-drop 1 g.used all; whole = omega (arith, w); fewer = omega (arith, f) },
            (g.used, omega (arith, w), ap (λ n. get_or all n nan) (sym (add-zero g.used)) ∙ sym (get_or-drop g.used all 0 nan) ∙ ap (λ l. get_or l 0 nan) (sym e)),
            omega (arith, b),
          )

  -- ---- a search holds what it drew

  abbrev HeldOn : Tapes → Held → Type 0
  HeldOn d None = Unit {0}
  HeldOn d (Some (c, q)) = On d c.threshold

  held-later : (d d' : Tapes) (h : Held) → length d'.thresholds ≤ length d.thresholds → HeldOn d h → HeldOn d' h
  held-later d d' None l o = tt
  held-later d d' (Some (c, q)) l o = on-later d d' c.threshold l o

  judge-on : (P : Params) (node : NodeRows) (d : Tapes) (h : Held) (t : Totals) (k : ℕ) (c : Cut) → HeldOn d h → On d c.threshold → HeldOn d (judge P node h t k c)
  unfolding judge better
  judge-on P node d h t k c g o = if (ltb k P.leaf) h _ g (if (ltb (node.count - k) P.leaf) h _ g (new h g (proxy t (less node.totals t))))
    where
      if : (b : Bool) (x y : Held) → HeldOn d x → HeldOn d y → HeldOn d (cond b x y)
      if true x y p q = p
      if false x y p q = q

      new : (h : Held) → HeldOn d h → (q : Float) → HeldOn d (better h c q)
      new None g q = o
      new (Some (b, p)) g q = if (lt p q) (Some (c, q)) (Some (b, p)) o g

  module _ (P : Params) (random : P.splitter ≡ Random) where
    abbrev choose : Tapes → NodeRows → Out (Found × Tapes)
    choose d node = search (tape P.features) P d node

    Trying : ℕ → Tries Tapes → Type 0
    Trying top r = Goes top r.left × HeldOn r.left r.best

    tries-one : (top : ℕ) (node : NodeRows) (j : ℕ) (r : Tries Tapes) (col : Column) → Trying top r → Then (random_in (tape P.features) P node j r col) (Trying top)
    unfolding random_in draw_in drawn Trying
    tries-one top node j r [] h = h
    tries-one top node j r (e ∷ es) h = go (lt (at j e) (at j (final e es)))
      where
        go : (b : Bool) → Then (draw_in (tape P.features) b P node j r e es) (Trying top)
        go false = h
        go true =
            then-then ((tape P.features).threshold r.left (at j e) (at j (final e es))) _ _ _ (takes P.features top r.left (at j e) (at j (final e es)) h.0)
            (λ m o. (o.0, judge-on P node m.1 r.best _ _ _ (held-later r.left m.1 r.best o.2 h.1) o.1))

    random-tries : (top : ℕ) (node : NodeRows) (js : List ℕ) (r : Tries Tapes) → Trying top r → Then (try_all (tape P.features) P node js r) (Trying top)
    unfolding try_all try_one
    random-tries top node [] r h = h
    random-tries top node (j ∷ js) r h = one _ random (λ r' h'. random-tries top node js r' h')
      where
        one : (b : Splitter) → b ≡ Random → ((r' : Tries Tapes) → Trying top r' → Then (try_all (tape P.features) P node js r') (Trying top))
            → Then (bind (try_one (tape P.features) b P node j r) (λ r'. try_all (tape P.features) P node js r')) (Trying top)
        one Best e next = absurd (random≢best (sym e))
        one Random e next = then-then (random_in (tape P.features) P node j r (get_or node.columns j [])) _ _ _ (tries-one top node j r (get_or node.columns j []) h) next

    abbrev FoundOn : Tapes → Found → Type 0
    FoundOn d no_cut = Unit {0}
    FoundOn d (cut_found c) = On d c.threshold

    search-on : (top : ℕ) (d : Tapes) (node : NodeRows) → Goes top d → Then (choose d node) (λ r. FoundOn r.1 r.0 × Goes (length d.thresholds) r.1)
    unfolding search tape take_words Trying
    search-on top d node g =
        then-then ((tape P.features).shuffle d) _ _ _ (words (each_once P.features (take P.features d.words)))
        (λ o h. then-then (try_all (tape P.features) P node (take (min P.tried P.features) o.0) (record { best = None; left = o.1 })) _ _ _
        (random-tries (length d.thresholds) node _ _ (h, tt)) (λ r q. (held r.left r.best q.1, record { used = q.0.used; left = q.0.left; whole = q.0.whole; fewer = q.0.fewer })))
      where
        words : (b : Bool) → Then (take_words b P.features d) (λ o. Goes (length d.thresholds) o.1)
        words false = tt
        words true = record { used = g.used; left = g.left; whole = g.whole; fewer = omega arith }

        held : (d : Tapes) (h : Held) → HeldOn d h → FoundOn (record { words = d.words; thresholds = d.thresholds; searches = suc d.searches }) (found h)
        held d None o = tt
        held d (Some (c, q)) o = o

    -- ---- and so does a growth

    abbrev Cuts : Tapes → List Waiting → Type 0
    Cuts d ws = Every (λ w. On d w.cut.threshold) ws

    cuts-later : (d d' : Tapes) (ws : List Waiting) → length d'.thresholds ≤ length d.thresholds → Cuts d ws → Cuts d' ws
    cuts-later d d' ws l c = every-imp _ _ (λ w o. on-later d d' w.cut.threshold l o) ws c

    abbrev KindOn : Tapes → Kind → Type 0
    KindOn d Leaf = Unit {0}
    KindOn d (Split f) = On d f.cut.threshold

    kind-later : (d d' : Tapes) (k : Kind) → length d'.thresholds ≤ length d.thresholds → KindOn d k → KindOn d' k
    kind-later d d' Leaf l o = tt
    kind-later d d' (Split f) l o = on-later d d' f.cut.threshold l o

    search_if-on : (top : ℕ) (b : Bool) (n level : ℕ) (node : NodeRows) (d : Tapes) → Goes top d
        → Then (search_if P choose b n level node d) (λ r. Cuts r.1 r.0 × Goes (length d.thresholds) r.1)
    unfolding search_if joins
    search_if-on top false n level node d g = (tt, goes_on top (length d.thresholds) d (omega arith) g)
    search_if-on top true n level node d g = then-then (choose d node) _ _ _ (search-on top d node g) (λ r h. (joined r.1 r.0 h.0, h.1))
      where
        joined : (d : Tapes) (f : Found) → FoundOn d f → Cuts d (joins n level node f)
        joined d no_cut o = tt
        joined d (cut_found c) o = (o, tt)

    abbrev Stand : List Waiting → State Tapes → Type 0
    Stand ws s = Cuts s.left ws × Every (λ (n : TreeNode). KindOn s.left n.kind) s.nodes × Goes (length all) s.left

    expand-on : (w : Waiting) (ws : List Waiting) (s : State Tapes) → w.level < P.limit → Stand (w ∷ ws) s → Then (expand P choose w s) (λ r. Stand (r.0 ++ ws) r.1)
    unfolding expand with_children split_of splitting leaf_of
    expand-on w ws s b h =
        then-then (search_if P choose (searchable P (suc w.level) (child on_true w)) (length s.nodes) (suc w.level) (child on_true w) s.left) _ _ _
        (search_if-on (length all) _ _ _ _ s.left h.2)
        (λ t ht. then-then (search_if P choose (searchable P (suc w.level) (child on_false w)) (suc (length s.nodes)) (suc w.level) (child on_false w) t.1) _ _ _
        (search_if-on (length s.left.thresholds) _ _ _ _ t.1 ht.1)
        (λ f hf.
        let l : length f.1.thresholds ≤ length s.left.thresholds = omega (arith, hf.1.fewer, ht.1.fewer) in (
          every_append _ (f.0 ++ t.0) ws (every_append _ f.0 t.0 hf.0 (cuts-later t.1 f.1 t.0 hf.1.fewer ht.0)) (cuts-later s.left f.1 ws l h.0.1),
          every_append _ (set s.nodes w.number (split_of w (length s.nodes))) _
              (every_set _ s.nodes w.number _ (every-imp _ _ (λ n o. kind-later s.left f.1 n.kind l o) s.nodes h.1) (on-later s.left f.1 w.cut.threshold l h.0.0))
              (tt, (tt, tt)),
          goes_on _ (length all) f.1 (omega (arith, l, h.2.fewer)) hf.1,
        )))

    growth-on : (node : NodeRows) (d : Tapes) → d.thresholds ≡ all → Then (from_root P choose node d) (Stand [])
    unfolding leaf_of
    growth-on node d e =
        root-keep P choose Stand expand-on node d
        (λ b. then-after (search_if P choose b 0 1 node d) _ _ (search_if-on (length all) b 0 1 node d begins)
        (λ r h. (h.0, (tt, tt), goes_on _ (length all) r.1 (omega (arith, h.1.fewer, ap length e)) h.1)))
      where
        begins : Goes (length all) d
        begins = record { used = 0; left = e; whole = omega (arith, ap length e); fewer = omega (arith, ap length e) }

-- as it is written
fit_cut : (F : OneTree) (D : Data) → F.params.splitter ≡ Random → Then (fit F D) (λ t. Every (CutAt F.thresholds t.report.thresholds) (entries t.nodes))
unfolding fit grow_from tree_of entries entry_of is_leaf
fit_cut F D random =
    then-then (from_root F.params (search (tape F.params.features) F.params) (root F D) _) _ _ _ (growth-on F.thresholds F.params random (root F D) _ refl)
    (λ s h. all s.left s.nodes h.1)
  where
    one : (d : Tapes) (v : Float) (k : Kind) → KindOn F.thresholds F.params random d k → CutAt F.thresholds (length F.thresholds - length d.thresholds) (entry_of v k)
    one d v Leaf o = inl refl
    one d v (Split f) o = inr (o.0, omega (arith, o.1), o.2)

    all : (d : Tapes) (ns : List TreeNode) → Every (λ (n : TreeNode). KindOn F.thresholds F.params random d n.kind) ns
        → Every (CutAt F.thresholds (length F.thresholds - length d.thresholds)) (entries ns)
    all d [] h = tt
    all d (n ∷ ns) h = (one d (value_of n.totals) n.kind h.0, all d ns h.1)

pub from-tape : FromTape
unfolding one_tree_of params_of
from-tape W K C R r random h =
    let a : TreeAnswered K C R r = tree-answered K C R r h in
    subst (Every (CutAt C.thresholds r.thresholds)) (sym (tree-left K C R r a))
    (subst (λ (x : Report). Every (CutAt C.thresholds x.thresholds) (entries a.tree.nodes)) a.reported
    (then-of (λ t. Every (CutAt C.thresholds t.report.thresholds) (entries t.nodes)) (fit (one_tree_of C) C.given.inputs) a.tree a.grew
    (fit_cut (one_tree_of C) C.given.inputs random)))
