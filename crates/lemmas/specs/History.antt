-- Every growth has its history, over any way to choose cuts: it begins with the root, each split keeps it, and so the end has it. Assumes nothing.
use Rattle.std.specs.Prelude.{ℕ, zero, suc, ◌+◌, ◌<◌, max, ◌≡◌, ◌≢◌, ◌⊎◌, Bool, ◌&&◌, List, [], ◌∷◌, ◌++◌, length, get_or, ltb}
use native.Mathlib.Omega.{arith}
use Rattle.std.proofs.Math.Decide.{ℕ_discrete}
use Rattle.std.proofs.Math.Path.{refl, ap, subst}
use Rattle.std.proofs.Common.{sym, ◌∙◌, inr, append_assoc}
use Rattle.std.proofs.Math.Logic.{inl}
use Rattle.std.proofs.Math.Bool.{true, false}
use Rattle.std.proofs.Math.Dec.{lit<}
use Rattle.rules.specs.declared.Params.{Params}
use Rattle.rules.specs.declared.Cut.{Cut}
use Rattle.rules.specs.declared.Kind.TheVariants.{Leaf, Split}
use Rattle.rules.specs.Draws.{Out, bad, ok, bind}
use Rattle.rules.specs.Search.{NodeRows, on_true, on_false, Found, no_cut, cut_found}
use Rattle.rules.specs.Growth.{TreeNode, Waiting, State, child, leaf_of, splitting, split_of, with_children, joins, searchable, search_if, expand, from_root}
use Rattle.lemmas.specs.Lists.{Every, every-imp, every-both, every_append, Ordered}
use Rattle.lemmas.specs.Outs.{Then, then-then, then-both}
use Rattle.lemmas.specs.WaitingOrder.{children-length, root-level, all_keep}
use Rattle.lemmas.specs.Nodes.{no_node, kind_at, as_leaf, Sits, at_split, at_other, at_true, at-false, as_it_was}
use Rattle.lemmas.specs.Splits.{leaf≢split}
use Rattle.lemmas.specs.Met.{Met, waiting_at, Awaits, asked, Gave, ChildOf, SplitAt, Became, Known, Born, Waits, History, extended, extended-old, extended-first, extended_second, all-places}

-- ---- who waits

awaits-rest : (k : ℕ) (w : Waiting) (ws : List Waiting) → k ≢ w.number → Awaits k (w ∷ ws) → Awaits k ws
awaits-rest k w ws d (inl e) = absurd (d (sym e))
awaits-rest k w ws d (inr h) = h

awaits-behind : (k : ℕ) (xs ws : List Waiting) → Awaits k ws → Awaits k (xs ++ ws)
awaits-behind k [] ws h = h
awaits-behind k (x ∷ xs) ws h = inr (awaits-behind k xs ws h)

awaits-before : (k : ℕ) (xs ws : List Waiting) → Awaits k xs → Awaits k (xs ++ ws)
awaits-before k [] ws h = elim h [ ]
awaits-before k (x ∷ xs) ws (inl e) = inl e
awaits-before k (x ∷ xs) ws (inr h) = inr (awaits-before k xs ws h)

module _ (P : Params) {S : Type 0} (choose : S → NodeRows → Out (Found × S)) where
  abbrev met_as : ℕ → NodeRows → ℕ → Found → S → S → Met S
  met_as level rows parent found before after = record { level = level; rows = rows; parent = parent; found = found; before = before; after = after }

  -- a node's search, or none
  record Searched (b : Bool) (k level : ℕ) (rows : NodeRows) (parent : ℕ) (s : S) (r : List Waiting × S) : Type 0 where
    found : Found
    gave : Gave choose b (met_as level rows parent found s r.1)
    joined : r.0 ≡ joins k level rows found

  search_if-gives : (b : Bool) (k level : ℕ) (rows : NodeRows) (parent : ℕ) (s : S) → Then (search_if P choose b k level rows s) (Searched b k level rows parent s)
  unfolding search_if joins bind
  search_if-gives false k level rows parent s = record { found = no_cut; gave = (refl, refl); joined = refl }
  search_if-gives true k level rows parent s = go (choose s rows) refl
    where
      go : (o : Out (Found × S)) → choose s rows ≡ o → Then (bind o (λ r. ok (joins k level rows r.0, r.1))) (Searched true k level rows parent s)
      go (bad n) e = tt
      go (ok x) e = record { found = x.0; gave = e; joined = refl }

  asked-later : (k : ℕ) (m : Met S) → 0 < k → asked P k m ≡ searchable P m.level m.rows
  asked-later zero m h = absurd (omega arith)
  asked-later (suc k) m h = refl

  abbrev Under : Waiting → Waiting → Type 0
  Under w v = v.number < w.number

  module _ (root : NodeRows) (s₀ : S) (w : Waiting) (ws : List Waiting) (s : State S) (h : History P choose root s₀ (w ∷ ws) s) (t f : List Waiting × S)
      (ht : Searched (searchable P (suc w.level) (child on_true w)) (length s.nodes) (suc w.level) (child on_true w) w.number s.left t)
      (hf : Searched (searchable P (suc w.level) (child on_false w)) (suc (length s.nodes)) (suc w.level) (child on_false w) w.number t.1 f) where
    abbrev n : ℕ
    n = length s.nodes

    abbrev nodes : List TreeNode
    nodes = with_children w s.nodes

    abbrev true_met : Met S
    true_met = met_as (suc w.level) (child on_true w) w.number ht.found s.left t.1

    abbrev false_met : Met S
    false_met = met_as (suc w.level) (child on_false w) w.number hf.found t.1 f.1

    abbrev met : ℕ → Met S
    met = extended n h.met true_met false_met

    abbrev joined : List Waiting
    joined = (f.0 ++ t.0) ++ ws

    old : (k : ℕ) → k < n → met k ≡ h.met k
    old = extended-old n h.met true_met false_met

    first : met n ≡ true_met
    first = extended-first n h.met true_met false_met

    second : met (suc n) ≡ false_met
    second = extended_second n h.met true_met false_met

    inside : w.number < n
    inside = h.waits.0.inside

    sits : Sits s.nodes w
    sits = record { inside = inside; same = (h.known w.number inside).same ∙ ap (λ (v : Waiting). leaf_of v.node) h.waits.0.same }

    now-same : waiting_at w.number (met w.number) w.cut ≡ w
    now-same = ap (λ m. waiting_at w.number m w.cut) (old w.number inside) ∙ h.waits.0.same

    -- ---- kinds

    kind-now : kind_at nodes w.number ≡ Split (splitting w n)
    unfolding split_of
    kind-now = ap (λ (x : TreeNode). x.kind) (at_split w s.nodes sits)

    kind-old : (k : ℕ) → k < n → k ≢ w.number → kind_at nodes k ≡ kind_at s.nodes k
    kind-old k l d = ap (λ (x : TreeNode). x.kind) (at_other w s.nodes sits k l d)

    kind-true : kind_at nodes n ≡ Leaf
    unfolding leaf_of
    kind-true = ap (λ (x : TreeNode). x.kind) (at_true w s.nodes sits)

    kind-false : kind_at nodes (suc n) ≡ Leaf
    unfolding leaf_of
    kind-false = ap (λ (x : TreeNode). x.kind) (at-false w s.nodes sits)

    more : length nodes ≡ n + 2
    more = children-length w s.nodes

    -- ---- splits

    child-old : (k c : ℕ) (cut : Cut) (b : Bool → Bool) → k < n → c < n → ChildOf h.met k cut b c → ChildOf met k cut b c
    child-old k c cut b lk lc q =
        record {
          parent = ap (λ (m : Met S). m.parent) (old c lc) ∙ q.parent;
          level = ap (λ (m : Met S). m.level) (old c lc) ∙ q.level ∙ ap (λ (m : Met S). suc m.level) (sym (old k lk));
          rows = ap (λ (m : Met S). m.rows) (old c lc) ∙ q.rows ∙ ap (λ m. child b (waiting_at k m cut)) (sym (old k lk));
        }

    split-old : (k : ℕ) (cut : Cut) → k < n → k ≢ w.number → SplitAt s.nodes h.met k cut → SplitAt nodes met k cut
    split-old k cut l d q =
        record {
          children = q.children;
          kind = kind-old k l d ∙ q.kind ∙ ap (λ m. Split (splitting (waiting_at k m cut) q.children)) (sym (old k l));
          above = q.above;
          inside = omega (arith, q.inside, more);
          true_child = child-old k q.children cut on_true l (omega (arith, q.inside)) q.true_child;
          false_child = child-old k (suc q.children) cut on_false l q.inside q.false_child;
        }

    child-new : (b : Bool → Bool) (c : ℕ) (m : Met S) → met c ≡ m → m.parent ≡ w.number → m.level ≡ suc w.level → m.rows ≡ child b w → ChildOf met w.number w.cut b c
    child-new b c m e parent level rows =
        record {
          parent = ap (λ (x : Met S). x.parent) e ∙ parent;
          level = ap (λ (x : Met S). x.level) e ∙ level ∙ ap (λ (v : Waiting). suc v.level) (sym now-same);
          rows = ap (λ (x : Met S). x.rows) e ∙ rows ∙ ap (child b) (sym now-same);
        }

    split-now : SplitAt nodes met w.number w.cut
    split-now =
        record {
          children = n;
          kind = kind-now ∙ ap (λ v. Split (splitting v n)) (sym now-same);
          above = inside;
          inside = omega (arith, more);
          true_child = child-new on_true n true_met first refl refl refl;
          false_child = child-new on_false (suc n) false_met second refl refl refl;
        }

    -- ---- what is known of each node

    became-old : (k : ℕ) → k < n → k ≢ w.number → (x : Found) → Became s.nodes h.met (w ∷ ws) k x → Became nodes met joined k x
    became-old k l d no_cut q = kind-old k l d ∙ q
    became-old k l d (cut_found c) (inl q) = inl (kind-old k l d ∙ q.0, awaits-behind k (f.0 ++ t.0) ws (awaits-rest k w ws d q.1))
    became-old k l d (cut_found c) (inr q) = inr (split-old k c l d q)

    known-old : (k : ℕ) → k < n → Known P choose nodes met joined k
    known-old k l =
        record {
          same = as_it_was w s.nodes sits k l ∙ (h.known k l).same ∙ ap (λ (m : Met S). leaf_of m.rows) (sym (old k l));
          gave = subst (λ m. Gave choose (asked P k m) m) (sym (old k l)) (h.known k l).gave;
          became = subst (λ (m : Met S). Became nodes met joined k m.found) (sym (old k l)) (go (ℕ_discrete k w.number));
        }
      where
        go : Dec (k ≡ w.number) → Became nodes met joined k (h.met k).found
        go (yes e) = subst (λ j. Became nodes met joined j (h.met j).found) (sym e) (subst (Became nodes met joined w.number) (sym h.waits.0.found) (inr split-now))
        go (no d) = became-old k l d (h.met k).found (h.known k l).became

    known-new : (k : ℕ) (m : Met S) → met k ≡ m → 0 < k → get_or nodes k no_node ≡ leaf_of m.rows → Gave choose (searchable P m.level m.rows) m
        → ((c : Cut) → m.found ≡ cut_found c → Awaits k joined) → Known P choose nodes met joined k
    unfolding leaf_of
    known-new k m e some is gave waits =
        record {
          same = ap as_leaf is ∙ ap (λ (x : Met S). leaf_of x.rows) (sym e);
          gave = subst (λ x. Gave choose (asked P k x) x) (sym e) (subst (λ b. Gave choose b m) (sym (asked-later k m some)) gave);
          became = subst (λ (x : Met S). Became nodes met joined k x.found) (sym e) (go m.found waits);
        }
      where
        leaf : kind_at nodes k ≡ Leaf
        leaf = ap (λ (x : TreeNode). x.kind) is

        go : (x : Found) → ((c : Cut) → x ≡ cut_found c → Awaits k joined) → Became nodes met joined k x
        go no_cut a = leaf
        go (cut_found c) a = inl (leaf, a c refl)

    -- whoever found a cut has joined
    joins-awaits : (k level : ℕ) (rows : NodeRows) (x : Found) (c : Cut) → x ≡ cut_found c → Awaits k (joins k level rows x)
    unfolding joins
    joins-awaits k level rows x c e = subst (λ y. Awaits k (joins k level rows y)) (sym e) (inl refl)

    known-all : (k : ℕ) → k < length nodes → Known P choose nodes met joined k
    known-all k l =
        all-places (Known P choose nodes met joined) n known-old
        (known-new n true_met first h.some (at_true w s.nodes sits) ht.gave
        (λ c e. awaits-before n (f.0 ++ t.0) ws (awaits-behind n f.0 t.0 (subst (Awaits n) (sym ht.joined) (joins-awaits n _ _ ht.found c e)))))
        (known-new (suc n) false_met second (omega arith) (at-false w s.nodes sits) hf.gave
        (λ c e. awaits-before (suc n) (f.0 ++ t.0) ws (awaits-before (suc n) f.0 t.0 (subst (Awaits (suc n)) (sym hf.joined) (joins-awaits (suc n) _ _ hf.found c e)))))
        k (subst (λ m. k < m) more l)

    born-old : (k : ℕ) → k < n → 0 < k → Born nodes met k
    born-old k l some =
        let b = h.born k some l in
        let e : (met k).parent ≡ (h.met k).parent = ap (λ (m : Met S). m.parent) (old k l) in
        record {
          before = subst (λ p. p < k) (sym e) b.before;
          fork = b.fork;
          split = ap (kind_at nodes) e
              ∙ kind-old (h.met k).parent (omega (arith, b.before)) (λ q. leaf≢split b.fork (sym h.waits.0.leaf ∙ ap (kind_at s.nodes) (sym q) ∙ b.split))
              ∙ b.split;
          which = b.which;
        }

    born-new : (k : ℕ) (m : Met S) → met k ≡ m → m.parent ≡ w.number → w.number < k → (k ≡ n) ⊎ (k ≡ suc n) → Born nodes met k
    unfolding splitting
    born-new k m e p l which =
        let q : (met k).parent ≡ w.number = ap (λ (x : Met S). x.parent) e ∙ p in
        record { before = subst (λ j. j < k) (sym q) l; fork = splitting w n; split = ap (kind_at nodes) q ∙ kind-now; which = which }

    born-all : (k : ℕ) → 0 < k → k < length nodes → Born nodes met k
    born-all k some l =
        all-places (λ j. 0 < j → Born nodes met j) n born-old
        (λ z. born-new n true_met first refl inside (inl refl))
        (λ z. born-new (suc n) false_met second refl (omega (arith, inside)) (inr refl))
        k (subst (λ m. k < m) more l) some

    -- ---- those that wait

    waits-old : (v : Waiting) → Waits s.nodes h.met v × Under w v → Waits nodes met v
    waits-old v q =
        record {
          inside = omega (arith, q.0.inside, more);
          leaf = kind-old v.number q.0.inside (λ e. omega (arith, q.1, e)) ∙ q.0.leaf;
          found = ap (λ (m : Met S). m.found) (old v.number q.0.inside) ∙ q.0.found;
          same = ap (λ m. waiting_at v.number m v.cut) (old v.number q.0.inside) ∙ q.0.same;
        }

    waits-new : (k : ℕ) (m : Met S) → met k ≡ m → k < length nodes → kind_at nodes k ≡ Leaf → (x : Found) → m.found ≡ x → Every (Waits nodes met) (joins k m.level m.rows x)
    unfolding joins
    waits-new k m e l leaf no_cut q = tt
    waits-new k m e l leaf (cut_found c) q =
        (record { inside = l; leaf = leaf; found = ap (λ (x : Met S). x.found) e ∙ q; same = ap (λ x. waiting_at k x c) e }, tt)

    waits-all : Every (Waits nodes met) joined
    waits-all =
        every_append _ (f.0 ++ t.0) ws
        (every_append _ f.0 t.0
        (subst (Every (Waits nodes met)) (sym hf.joined) (waits-new (suc n) false_met second (omega (arith, more)) kind-false hf.found refl))
        (subst (Every (Waits nodes met)) (sym ht.joined) (waits-new n true_met first (omega (arith, more)) kind-true ht.found refl)))
        (every-imp _ _ waits-old ws (every-both _ _ ws h.waits.1 h.falling.0))

    -- of one that joins under a number above all others
    joins-falling : (k level : ℕ) (rows : NodeRows) (x : Found) (vs : List Waiting) → Every (λ (v : Waiting). v.number < k) vs → Ordered Under vs → Ordered Under (joins k level rows x ++ vs)
    unfolding joins
    joins-falling k level rows no_cut vs low o = o
    joins-falling k level rows (cut_found c) vs low o = (low, o)

    joins-under : (k level : ℕ) (rows : NodeRows) (x : Found) → Every (λ (v : Waiting). v.number < suc k) (joins k level rows x)
    unfolding joins
    joins-under k level rows no_cut = tt
    joins-under k level rows (cut_found c) = (omega arith, tt)

    falling-all : Ordered Under joined
    falling-all =
        subst (Ordered Under) (sym (append_assoc f.0 t.0 ws))
        (subst (λ l. Ordered Under (l ++ (t.0 ++ ws))) (sym hf.joined)
        (joins-falling (suc n) _ _ hf.found (t.0 ++ ws)
        (every_append _ t.0 ws (subst (Every (λ (v : Waiting). v.number < suc n)) (sym ht.joined) (joins-under n _ _ ht.found)) (every-imp _ _ (λ v q. omega (arith, q)) ws low))
        (subst (λ l. Ordered Under (l ++ ws)) (sym ht.joined) (joins-falling n _ _ ht.found ws low h.falling.1))))
      where
        low : Every (λ (v : Waiting). v.number < n) ws
        low = every-imp _ _ (λ v q. q.inside) ws h.waits.1

    -- ---- all of it

    next-all : (k : ℕ) → suc k < length nodes → (met (suc k)).before ≡ (met k).after
    next-all k l =
        all-places (λ j. (i : ℕ) → j ≡ suc i → (met j).before ≡ (met i).after) n
        (λ j b i e. ap (λ (m : Met S). m.before) (old j b) ∙ (λ r. (h.met (e r)).before) ∙ h.next i (subst (λ x. x < n) e b) ∙ ap (λ (m : Met S). m.after) (sym (old i (omega (arith, b, e)))))
        (λ i e. ap (λ (m : Met S). m.before) first ∙ sym (h.last i (sym e)) ∙ ap (λ (m : Met S). m.after) (sym (old i (omega (arith, e)))))
        (λ i e. ap (λ (m : Met S). m.before) second ∙ ap (λ (m : Met S). m.after) (sym first) ∙ (λ r. (met (same-before i e r)).after))
        (suc k) (subst (λ m. suc k < m) more l) k refl
      where
        same-before : (i : ℕ) → suc n ≡ suc i → n ≡ i
        same-before i e = omega arith

    last-all : (k : ℕ) → suc k ≡ length nodes → (met k).after ≡ f.1
    last-all k e =
        let q : k ≡ suc n = omega (arith, e, more) in
        (λ i. (met (q i)).after) ∙ ap (λ (m : Met S). m.after) second

    history-on : History P choose root s₀ joined (record { nodes = nodes; depth = max s.depth (suc w.level); left = f.1 })
    history-on =
        record {
          met = met;
          some = omega (arith, more);
          root_level = ap (λ (m : Met S). m.level) (old 0 h.some) ∙ h.root_level;
          root_rows = ap (λ (m : Met S). m.rows) (old 0 h.some) ∙ h.root_rows;
          start = ap (λ (m : Met S). m.before) (old 0 h.some) ∙ h.start;
          next = next-all;
          last = last-all;
          known = known-all;
          born = born-all;
          waits = waits-all;
          falling = falling-all;
        }

  expand-history : (root : NodeRows) (s₀ : S) (w : Waiting) (ws : List Waiting) (s : State S) → w.level < P.limit → History P choose root s₀ (w ∷ ws) s
      → Then (expand P choose w s) (λ r. History P choose root s₀ (r.0 ++ ws) r.1)
  unfolding expand
  expand-history root s₀ w ws s b h =
      then-then (search_if P choose (searchable P (suc w.level) (child on_true w)) (length s.nodes) (suc w.level) (child on_true w) s.left) _ _ _
      (search_if-gives _ _ _ _ w.number _)
      (λ t ht. then-then (search_if P choose (searchable P (suc w.level) (child on_false w)) (suc (length s.nodes)) (suc w.level) (child on_false w) t.1) _ _ _
      (search_if-gives _ _ _ _ w.number _)
      (λ f hf. history-on root s₀ w ws s h t f ht hf))

  -- ---- from the root on

  module _ (root : NodeRows) (s s' : S) where
    abbrev root_met : Found → Met S
    root_met x = met_as 1 root 0 x s s'

    abbrev one : List TreeNode
    one = leaf_of root ∷ []

    root-waits : (x : Found) → Every (Waits one (λ k. root_met x)) (joins 0 1 root x)
    unfolding joins leaf_of
    root-waits no_cut = tt
    root-waits (cut_found c) = (record { inside = lit< tt; leaf = refl; found = refl; same = refl }, tt)

    root-falling : (x : Found) → Ordered Under (joins 0 1 root x)
    unfolding joins
    root-falling no_cut = tt
    root-falling (cut_found c) = (tt, tt)

    root-became : (x : Found) → Became one (λ k. root_met x) (joins 0 1 root x) 0 x
    unfolding joins leaf_of
    root-became no_cut = refl
    root-became (cut_found c) = inl (refl, inl refl)

    history-starts : (x : Found) → Gave choose (ltb 0 root.count && searchable P 1 root) (root_met x)
        → History P choose root s (joins 0 1 root x) (record { nodes = one; depth = 0; left = s' })
    unfolding leaf_of
    history-starts x gave =
        record {
          met = λ k. root_met x;
          some = lit< tt;
          root_level = refl;
          root_rows = refl;
          start = refl;
          next = λ k l. absurd (omega (arith, l));
          last = λ k e. refl;
          known = λ k l. let e : k ≡ 0 = omega (arith, l) in subst (Known P choose one (λ j. root_met x) (joins 0 1 root x)) (sym e) (record { same = refl; gave = gave; became = root-became x });
          born = λ k some l. absurd (omega (arith, some, l));
          waits = root-waits x;
          falling = root-falling x;
        }

  pub growth-history : (root : NodeRows) (s : S) → Then (from_root P choose root s) (λ s'. History P choose root s [] s')
  unfolding from_root
  growth-history root s =
      then-then (search_if P choose (ltb 0 root.count && searchable P 1 root) 0 1 root s) _ _ _
      (then-both (search_if P choose (ltb 0 root.count && searchable P 1 root) 0 1 root s) _ _ (search_if-gives _ 0 1 root 0 s) (root-level P choose root s))
      (λ r q. all_keep P choose (History P choose root s) (expand-history root s) r.0 _ (every-imp _ _ (λ v l. l.1) r.0 q.1)
      (subst (λ ws. History P choose root s ws (record { nodes = leaf_of root ∷ []; depth = 0; left = r.1 })) (sym q.0.joined) (history-starts root s r.1 q.0.found q.0.gave)))
