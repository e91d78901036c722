-- Two growths alike but for the height at which the best splitter cuts. Their cuts stand between the same two values, so each pair of cuts sends the same rows the same
-- way, and the two trees are the same but for their thresholds. Assumes nothing.
use Prim.Native.Nat.{ℕ, zero, suc, ◌-◌, ◌<◌, min}
use Rattle.std.specs.Prelude.{◌≡◌, not, ◌&&◌, set, T, ltb, Some, None}
use Rattle.std.proofs.Math.Path.{refl, ap, subst}
use Rattle.std.proofs.Common.{sym, ◌∙◌}
use Rattle.std.proofs.Math.Bool.{Bool, true, false, cond}
use mathlib.Core.List.{List, [], ◌∷◌, ◌++◌, map}
use Rattle.std.proofs.Math.ListN.{length, get_or, take, length-map}
use Rattle.std.specs.Float.Ieee.{Float, lt, le}
use Rattle.rules.specs.declared.Params.{Params}
use Rattle.rules.specs.declared.Height.{Height}
use Rattle.rules.specs.declared.Splitter.{Splitter}
use Rattle.rules.specs.declared.Splitter.TheVariants.{Best, Random}
use Rattle.rules.specs.declared.Cut.{Cut}
use Rattle.rules.specs.Results.{Held}
use Rattle.rules.specs.declared.Kind.{Kind}
use Rattle.rules.specs.declared.Kind.TheVariants.{Leaf, Split}
use Rattle.rules.specs.Words.{keep, total}
use Rattle.rules.specs.Totals.{empty, score}
use Rattle.rules.specs.Threshold.{threshold_between}
use Rattle.rules.specs.Draws.{Out, Source}
use Rattle.rules.specs.Search.{Element, Column, at, totals_of, tally, NodeRows, goes_true, on_true, on_false, side_of, true_side, final}
use Rattle.rules.specs.Search.{drawn, Tries, draw_in, random_in, try_one, try_all, Found, no_cut, cut_found, found, search}
use Rattle.rules.specs.Growth.{TreeNode, Waiting, State, child, leaf_of, splitting, split_of, with_children, searchable, joins, runs, search_if, expand, grow, grow_all, from_root}
use Rattle.lemmas.specs.Lists.{Every, every-all, every-imp, every-both, every_append, every-at, at_every, every_map, every-keep}
use Rattle.lemmas.specs.Lists.{map_same, keep_same, keep-none, none_kept, Pairs, pairs-append, pairs_set, pairs-length}
use Rattle.lemmas.specs.Outs.{Then, Both, both-then, both-same, both-any, both-with}
use Rattle.lemmas.specs.Values.{Value}
use Rattle.lemmas.specs.Heights.{reheight, Rising, cut_at, RunEnds, HeldBoth, judge-both, best-both}
use Rattle.lemmas.specs.Cuts.{Good, Suits, Ripe, Fair, place-between, place-sends, side-good}

-- M holds of every element of a node
module _ (P : Params) (g : Height) (M : Element → Type 0) (values : (j : ℕ) → j < P.features → (x : Element) → M x → Value (at j x)) where
  -- two cuts of the best splitter: at their heights between the same two values of the same feature
  pub record Matched (c c' : Cut) : Type 0 where
    pub low : Element
    pub high : Element
    pub low_in : M low
    pub high_in : M high
    pub at_least : T (le (at c.feature low) c.threshold)
    pub below : T (lt c.threshold (at c.feature high))
    pub here : c.threshold ≡ threshold_between P.height (at c.feature low) (at c.feature high)
    pub there : c'.threshold ≡ threshold_between g (at c.feature low) (at c.feature high)

  abbrev pub Told : Splitter → Cut → Cut → Type 0
  Told Best c c' = Matched c c'
  Told Random c c' = c.threshold ≡ c'.threshold

  pub record Twin (b : Splitter) (node : NodeRows) (c c' : Cut) : Type 0 where
    pub feature : c.feature ≡ c'.feature
    pub sides : Every (λ x. goes_true c x ≡ goes_true c' x) (get_or node.columns c.feature [])
    pub told : Told b c c'

  -- ---- a search

  one-twin : (node : NodeRows) (c : Cut) → Twin Random node c c
  one-twin node c = record { feature = refl; sides = every-all (λ x. goes_true c x ≡ goes_true c x) (λ x. refl) (get_or node.columns c.feature []); told = refl }

  place-twin : (node : NodeRows) (j : ℕ) → j < P.features → (earlier : Column) (low : Element) (run : Column) (high : Element) (after : Column)
      → RunEnds M j (get_or node.columns j []) earlier low run high after → Twin Best node (cut_at P.height j low high) (cut_at g j low high)
  place-twin node j h earlier low run high after p =
      record {
        feature = refl;
        sides = subst (Every _) p.whole
            (every_append _ (earlier ++ (low ∷ run)) (high ∷ after)
            (every-imp _ _ (λ x s. s.0 ∙ sym s.1) (earlier ++ (low ∷ run)) (every-both _ _ (earlier ++ (low ∷ run)) (sent P.height).0 (sent g).0))
            (every-imp _ _ (λ x s. s.0 ∙ sym s.1) (high ∷ after) (every-both _ _ (high ∷ after) (sent P.height).1 (sent g).1)));
        told = record { low = low; high = high; low_in = p.low_in; high_in = p.high_in; at_least = mid.0; below = mid.1; here = refl; there = refl };
      }
    where
      mid : T (le (at j low) (cut_at P.height j low high).threshold) × T (lt (cut_at P.height j low high).threshold (at j high))
      mid = place-between M P.height j (values j h) _ earlier low run high after p

      sent : (k : Height) → Every (λ x. goes_true (cut_at k j low high) x ≡ true) (earlier ++ (low ∷ run)) × Every (λ x. goes_true (cut_at k j low high) x ≡ false) (high ∷ after)
      sent k = place-sends M k j (values j h) _ earlier low run high after p

  module _ {S : Type 0} (src : Source S) where
    abbrev TriesBoth : Splitter → NodeRows → Tries S → Tries S → Type 0
    TriesBoth b node r r' = HeldBoth (Twin b node) r.best r'.best × (r.left ≡ r'.left)

    random-both : (node : NodeRows) (j : ℕ) (r : Tries S) (h' : Held) (col : Column) → HeldBoth (Twin Random node) r.best h'
        → Both (TriesBoth Random node) (random_in src P node j r col) (random_in src (reheight g P) node j (record { best = h'; left = r.left }) col)
    unfolding random_in draw_in drawn
    random-both node j r h' [] b = (b, refl)
    random-both node j r h' (e ∷ es) b = go (lt (at j e) (at j (final e es)))
      where
        drawn_at : Float × S → Cut
        drawn_at t = record { feature = j; threshold = t.0 }

        side : Float × S → Column
        side t = true_side (drawn_at t) (e ∷ es)

        go : (x : Bool) → Both (TriesBoth Random node) (draw_in src x P node j r e es) (draw_in src x (reheight g P) node j (record { best = h'; left = r.left }) e es)
        go false = (b, refl)
        go true =
            both-any _ (src.threshold r.left (at j e) (at j (final e es))) _ _
            (λ t. (judge-both P g (Twin Random node) node r.best h' (totals_of empty (side t)) (tally (side t)) (drawn_at t) (drawn_at t) b (λ l₁ l₂. one-twin node (drawn_at t)), refl))

    try-both : (b : Splitter) (node : NodeRows) (j : ℕ) → j < P.features → Every M (get_or node.columns j []) → Rising j (get_or node.columns j []) → (r r' : Tries S) → TriesBoth b node r r'
        → Both (TriesBoth b node) (try_one src b P node j r) (try_one src b (reheight g P) node j r')
    unfolding try_one
    try-both Best node j h ms rise r r' t =
        (best-both P g (Twin Best node) M node j (values j h) (λ earlier low run high after p l₁ l₂. place-twin node j h earlier low run high after p) r.best r'.best ms rise t.0, t.1)
    try-both Random node j h ms rise r r' t =
        subst (λ s. Both (TriesBoth Random node) (random_in src P node j r col) (random_in src (reheight g P) node j (record { best = r'.best; left = s }) col)) t.1
        (random-both node j r r'.best col t.0)
      where
        col : Column
        col = get_or node.columns j []

    tries-both : (node : NodeRows) → Good P node → ((j : ℕ) → j < P.features → Every M (get_or node.columns j [])) → (js : List ℕ) → Every (λ j. j < P.features) js
        → (r r' : Tries S) → TriesBoth P.splitter node r r' → Both (TriesBoth P.splitter node) (try_all src P node js r) (try_all src (reheight g P) node js r')
    unfolding try_all
    tries-both node good ms [] b r r' t = t
    tries-both node good ms (j ∷ js) b r r' t =
        both-then (TriesBoth P.splitter node) _ (try_one src P.splitter P node j r) (try_one src P.splitter (reheight g P) node j r') _ _
        (try-both P.splitter node j b.0 (ms j b.0) (good.sound j b.0).rising r r' t) (λ u u' t'. tries-both node good ms js b.1 u u' t')

  abbrev pub FoundBoth : NodeRows → Found → Found → Type 0
  FoundBoth node no_cut no_cut = Unit {0}
  FoundBoth node no_cut (cut_found c') = ⊥
  FoundBoth node (cut_found c) no_cut = ⊥
  FoundBoth node (cut_found c) (cut_found c') = Twin P.splitter node c c'

  -- two that were chosen, with the same left
  abbrev pub Chosen : {S : Type 0} → NodeRows → Found × S → Found × S → Type 0
  Chosen node r r' = FoundBoth node r.0 r'.0 × (r.1 ≡ r'.1)

  -- a node with a column for each feature, and M of all that is in them
  pub record Known (node : NodeRows) : Type 0 where
    pub wide : length node.columns ≡ P.features
    pub rows : Every (λ col. Every M col) node.columns

  known_at : (node : NodeRows) → Known node → (j : ℕ) → j < P.features → Every M (get_or node.columns j [])
  known_at node k j h = every-at (λ col. Every M col) node.columns [] j k.rows (subst (λ n. j < n) (sym k.wide) h)

  pub search-both : {S : Type 0} (src : Source S) → Fair P src → (s : S) (node : NodeRows) → Good P node → Known node
      → Both (Chosen node) (search src P s node) (search src (reheight g P) s node)
  unfolding search
  search-both {S} src fair s node good known =
      both-same _ _ (src.shuffle s) _ _ (fair.order s)
      (λ o h. both-then (TriesBoth src P.splitter node) _ (try_all src P node (js o) (start o)) (try_all src (reheight g P) node (js o) (start o)) _ _
      (tries-both src node good (known_at node known) (js o) h (start o) (start o) (tt, refl)) (λ r r' t. (held r.best r'.best t.0, ap src.done t.1)))
    where
      js : List ℕ × S → List ℕ
      js o = take (min P.tried P.features) o.0

      start : List ℕ × S → Tries S
      start o = record { best = None; left = o.1 }

      held : (h h' : Held) → HeldBoth (Twin P.splitter node) h h' → FoundBoth node (found h) (found h')
      held None None b = tt
      held None (Some (c', q')) b = absurd b
      held (Some (c, q)) None b = absurd b
      held (Some (c, q)) (Some (c', q')) b = b.0

  -- ---- a split

  abbrev pub recut : Cut → Waiting → Waiting
  recut c w = record { number = w.number; level = w.level; node = w.node; cut = c }

  -- two that wait with one node, and twin cuts
  pub record Waits (w w' : Waiting) : Type 0 where
    pub ripe : Ripe P w
    pub known : Known w.node
    pub twin : Twin P.splitter w.node w.cut w'.cut
    pub same : w' ≡ recut w'.cut w

  module _ (w : Waiting) (c' : Cut) (k : Waits w (recut c' w)) where
    -- what goes the same way in the split column goes the same way in each: the columns hold the same rows
    all-sides : Every (λ col. Every (λ x. goes_true w.cut x ≡ goes_true c' x) col) w.node.columns
    unfolding total
    all-sides =
        at_every _ w.node.columns [] (λ i b. every-imp _ _ (λ x q. agree (goes_true w.cut x) (goes_true c' x) q) (get_or w.node.columns i [])
        (none_kept differ (get_or w.node.columns i [])
        (k.ripe.good.level i w.cut.feature (subst (λ n. i < n) k.known.wide b) k.ripe.fine.known (λ x. 1) differ ∙ ap (total (λ x. 1)) none)))
      where
        other : Bool → Bool → Bool
        other a b = cond a (not b) b

        differ : Element → Bool
        differ x = other (goes_true w.cut x) (goes_true c' x)

        agree : (a b : Bool) → other a b ≡ false → a ≡ b
        agree true true q = refl
        agree true false q = q
        agree false true q = sym q
        agree false false q = refl

        alike : (a b : Bool) → a ≡ b → other a b ≡ false
        alike a b e = subst (λ z. other a z ≡ false) e (same a)
          where
            same : (a : Bool) → other a a ≡ false
            same true = refl
            same false = refl

        none : keep differ (get_or w.node.columns w.cut.feature []) ≡ []
        none = keep-none differ (get_or w.node.columns w.cut.feature []) (every-imp _ _ (λ x e. alike _ _ e) (get_or w.node.columns w.cut.feature []) k.twin.sides)

    child-same : (b : Bool → Bool) → child b w ≡ child b (recut c' w)
    unfolding child
    child-same b =
        λ i. record { columns = columns i; totals = totals_of empty (side i); count = tally (side i) }
      where
        columns : map (side_of b w.cut) w.node.columns ≡ map (side_of b c') w.node.columns
        columns = map_same _ _ w.node.columns (every-imp _ _ (λ col e. keep_same _ _ col (every-imp _ _ (λ x q. ap b q) col e)) w.node.columns all-sides)

        side : side_of b w.cut (get_or w.node.columns w.cut.feature []) ≡ side_of b c' (get_or w.node.columns c'.feature [])
        side =
            keep_same _ _ (get_or w.node.columns w.cut.feature []) (every-imp _ _ (λ x q. ap b q) (get_or w.node.columns w.cut.feature []) k.twin.sides)
            ∙ ap (λ j. side_of b c' (get_or w.node.columns j [])) k.twin.feature

  child-known : (b : Bool → Bool) (w : Waiting) → Known w.node → Known (child b w)
  unfolding child
  child-known b w k =
      record {
        wide = length-map w.node.columns (side_of b w.cut) ∙ k.wide;
        rows = every_map (λ col. Every M col) (side_of b w.cut) w.node.columns (every-imp _ _ (λ col e. every-keep M _ col e) w.node.columns k.rows);
      }

  -- ---- a growth

  abbrev pub KindBoth : Kind → Kind → Type 0
  KindBoth Leaf Leaf = Unit {0}
  KindBoth Leaf (Split f') = ⊥
  KindBoth (Split f) Leaf = ⊥
  KindBoth (Split f) (Split f') = (f.cut.feature ≡ f'.cut.feature) × Told P.splitter f.cut f'.cut × (f.score ≡ f'.score) × (f.children ≡ f'.children)

  abbrev pub NodeBoth : TreeNode → TreeNode → Type 0
  NodeBoth n n' = (n.totals ≡ n'.totals) × (n.count ≡ n'.count) × KindBoth n.kind n'.kind

  module _ {S : Type 0} (choose choose' : S → NodeRows → Out (Found × S))
      (fine : (s : S) (node : NodeRows) → Good P node → Then (choose s node) (λ r. Suits P node r.0))
      (twins : (s : S) (node : NodeRows) → Good P node → Known node → Both (Chosen node) (choose s node) (choose' s node)) where
    abbrev pub StateBoth : State S → State S → Type 0
    StateBoth s s' = Pairs NodeBoth s.nodes s'.nodes × (s.depth ≡ s'.depth) × (s.left ≡ s'.left)

    abbrev JoinBoth : List Waiting × S → List Waiting × S → Type 0
    JoinBoth r r' = Pairs Waits r.0 r'.0 × (r.1 ≡ r'.1)

    joins-both : (n level : ℕ) (node : NodeRows) (f f' : Found) → Good P node → Known node → FoundBoth node f f' → Suits P node f → Pairs Waits (joins n level node f) (joins n level node f')
    unfolding joins
    joins-both n level node no_cut no_cut good known t s = tt
    joins-both n level node no_cut (cut_found c') good known t s = absurd t
    joins-both n level node (cut_found c) no_cut good known t s = absurd t
    joins-both n level node (cut_found c) (cut_found c') good known t s = (record { ripe = record { good = good; fine = s }; known = known; twin = t; same = refl }, tt)

    search_if-both : (b : Bool) (n level : ℕ) (node : NodeRows) (s : S) → Good P node → Known node
        → Both JoinBoth (search_if P choose b n level node s) (search_if (reheight g P) choose' b n level node s)
    unfolding search_if
    search_if-both false n level node s good known = (tt, refl)
    search_if-both true n level node s good known =
        both-then (λ (r r' : Found × S). Chosen node r r' × Suits P node r.0) JoinBoth (choose s node) (choose' s node) _ _
        (both-with (Chosen node) (λ r. Suits P node r.0) (choose s node) (choose' s node) (twins s node good known) (fine s node good))
        (λ r r' h. (joins-both n level node r.0 r'.0 good known h.0.0 h.1, h.0.1))

    abbrev SplitBoth : List Waiting × State S → List Waiting × State S → Type 0
    SplitBoth r r' = Pairs Waits r.0 r'.0 × StateBoth r.1 r'.1

    module _ (w : Waiting) (c' : Cut) (k : Waits w (recut c' w)) (s : State S) (ns' : List TreeNode) (h : Pairs NodeBoth s.nodes ns') where
      abbrev w' : Waiting
      w' = recut c' w

      nodes-both : Pairs NodeBoth (with_children w s.nodes) (with_children w' ns')
      unfolding with_children split_of splitting leaf_of
      nodes-both = pairs-append NodeBoth (set s.nodes w.number _) (set ns' w.number _) _ _ (pairs_set NodeBoth s.nodes ns' w.number _ _ h split) (leaf on_true, (leaf on_false, tt))
        where
          leaf : (b : Bool → Bool) → NodeBoth (leaf_of (child b w)) (leaf_of (child b w'))
          leaf b = (ap (λ (n : NodeRows). n.totals) (child-same w c' k b), ap (λ (n : NodeRows). n.count) (child-same w c' k b), tt)

          split : NodeBoth (split_of w (length s.nodes)) (split_of w' (length ns'))
          split = (
            refl,
            refl,
            (k.twin.feature, k.twin.told, scores, pairs-length NodeBoth s.nodes ns' h),
          )
            where
              scores : (splitting w 0).score ≡ (splitting w' 0).score
              scores = λ i. score (child-same w c' k on_true i).totals (child-same w c' k on_false i).totals (totals_of empty (get_or w.node.columns (k.twin.feature i) [])).mass

      side-both : (b : Bool → Bool) (n n' : ℕ) (u u' : S) → n ≡ n' → u ≡ u'
          → Both JoinBoth (search_if P choose (searchable P (suc w.level) (child b w)) n (suc w.level) (child b w) u)
          (search_if (reheight g P) choose' (searchable (reheight g P) (suc w.level) (child b w')) n' (suc w.level) (child b w') u')
      unfolding searchable
      side-both b n n' u u' en eu =
          subst (λ (z : NodeRows × ℕ × S). Both JoinBoth (search_if P choose (searchable P (suc w.level) (child b w)) n (suc w.level) (child b w) u)
          (search_if (reheight g P) choose' (searchable (reheight g P) (suc w.level) z.0) z.1 (suc w.level) z.0 z.2))
          (λ i. (child-same w c' k b i, en i, eu i))
          (search_if-both (searchable P (suc w.level) (child b w)) n (suc w.level) (child b w) u (side-good P b w k.ripe) (child-known b w k.known))

      expand-one : Both SplitBoth (expand P choose w s) (expand (reheight g P) choose' w' (record { nodes = ns'; depth = s.depth; left = s.left }))
      unfolding expand
      expand-one =
          both-then JoinBoth SplitBoth _ _ _ _ (side-both on_true (length s.nodes) (length ns') s.left s.left long refl)
          (λ t t' ht. both-then JoinBoth SplitBoth _ _ _ _ (side-both on_false (suc (length s.nodes)) (suc (length ns')) t.1 t'.1 (ap suc long) ht.1)
          (λ f f' hf. (pairs-append Waits f.0 f'.0 t.0 t'.0 hf.0 ht.0, (nodes-both, refl, hf.1))))
        where
          long : length s.nodes ≡ length ns'
          long = pairs-length NodeBoth s.nodes ns' h

    expand-both : (w w' : Waiting) (s s' : State S) → Waits w w' → StateBoth s s' → Both SplitBoth (expand P choose w s) (expand (reheight g P) choose' w' s')
    expand-both w w' s s' k h =
        subst (λ (z : Waiting × State S). Both SplitBoth (expand P choose w s) (expand (reheight g P) choose' z.0 z.1))
        (λ i. (sym k.same i, record { nodes = s'.nodes; depth = h.1 i; left = h.2 i }))
        (expand-one w w'.cut (record { ripe = k.ripe; known = k.known; twin = k.twin; same = refl }) s s'.nodes h.0)

    runs-both : (f f' : Waiting → State S → Out (State S)) → ((w w' : Waiting) (s s' : State S) → Waits w w' → StateBoth s s' → Both StateBoth (f w s) (f' w' s'))
        → (ws ws' : List Waiting) (s s' : State S) → Pairs Waits ws ws' → StateBoth s s' → Both StateBoth (runs f ws s) (runs f' ws' s')
    unfolding runs
    runs-both f f' each [] [] s s' ks h = h
    runs-both f f' each [] (x' ∷ ws') s s' ks h = absurd ks
    runs-both f f' each (w ∷ ws) [] s s' ks h = absurd ks
    runs-both f f' each (w ∷ ws) (x' ∷ ws') s s' ks h =
        both-then StateBoth StateBoth (f w s) (f' x' s') _ _ (each w x' s s' ks.0 h) (λ u u' h'. runs-both f f' each ws ws' u u' ks.1 h')

    grow-both : (n : ℕ) (w x' : Waiting) (s s' : State S) → Waits w x' → StateBoth s s' → Both StateBoth (grow P choose n w s) (grow (reheight g P) choose' n x' s')
    unfolding grow
    grow-both zero w x' s s' k h = h
    grow-both (suc n) w x' s s' k h =
        both-then SplitBoth StateBoth (expand P choose w s) (expand (reheight g P) choose' x' s') _ _ (expand-both w x' s s' k h)
        (λ r r' q. runs-both _ _ (λ v v' u u' kv hu. grow-both n v v' u u' kv hu) r.0 r'.0 r.1 r'.1 q.0 q.1)

    -- from one root, the two end alike
    pub root-both : (root : NodeRows) (s : S) → Good P root → Known root → Both StateBoth (from_root P choose root s) (from_root (reheight g P) choose' root s)
    unfolding from_root grow_all searchable leaf_of
    root-both root s good known =
        both-then JoinBoth StateBoth _ _ _ _ (search_if-both (ltb 0 root.count && searchable P 1 root) 0 1 root s good known)
        (λ r r' h. runs-both _ _
        (λ w w' u u' k q. subst (λ l. Both StateBoth (grow P choose (P.limit - w.level) w u) (grow (reheight g P) choose' (P.limit - l) w' u'))
        (sym (ap (λ (v : Waiting). v.level) k.same)) (grow-both (P.limit - w.level) w w' u u' k q))
        r.0 r'.0 _ _ h.0 (((refl, refl, tt), tt), refl, h.1))
