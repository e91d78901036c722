-- One fit at two heights: the two trees have the same nodes and the same report, but for the thresholds; and under the random splitter they are the same tree. Assumes nothing.
use Prim.Native.Nat.{ℕ, suc, ◌-◌, ◌<◌}
use Rattle.std.proofs.Common.{zero-add, sym, subst, ◌∙◌}
use Rattle.std.specs.Prelude.{◌≡◌, true, length}
use Rattle.std.proofs.Math.Path.{refl, ap}
use mathlib.Core.List.{List, [], ◌∷◌, map}
use Rattle.std.proofs.Math.ListN.{length-map}
use Rattle.rules.specs.declared.Params.{Params}
use Rattle.rules.specs.declared.Height.{Height}
use Rattle.rules.specs.declared.Splitter.TheVariants.{Random}
use Rattle.rules.specs.declared.Kind.{Kind}
use Rattle.rules.specs.declared.Kind.TheVariants.{Leaf, Split}
use Rattle.rules.specs.Words.{nought, from, keep}
use Rattle.rules.specs.Totals.{value_of}
use Rattle.rules.specs.Lent.{Data, OneTree, behind_of, Entry, kept, kept_rows}
use Rattle.rules.specs.Draws.{Out, bad, ok, Tapes, tape}
use Rattle.rules.specs.Search.{Element, at, NodeRows, Found, search}
use Rattle.rules.specs.Growth.{TreeNode, State, from_root}
use Rattle.rules.specs.Fit.{element, listing, column, root, Tree, tree_of, grow_from, fit, entry_of, entries}
use Rattle.lemmas.specs.Lists.{every-imp, every-both, every-keep, every_map, kept-pass, length_from, from-below, Pairs, pairs-map, pairs-length}
use Rattle.lemmas.specs.Once.{once-below}
use Rattle.lemmas.specs.Outs.{Both, both-then, both-after}
use Rattle.lemmas.specs.Nodes.{behind_each}
use Rattle.lemmas.specs.Values.{Value}
use Rattle.lemmas.specs.Heights.{reheight}
use Rattle.lemmas.specs.Cuts.{search-fine, tape-fair}
use Rattle.lemmas.specs.Twins.{Told, NodeBoth, KindBoth, Known, search-both, root-both}
use Rattle.lemmas.specs.Root.{Listed, root-good}

-- an entry, but for its threshold
abbrev pub bare_entry : Entry → Entry
bare_entry e = record { value = e.value; feature = e.feature; threshold = nought; score = e.score; true_child = e.true_child; false_child = e.false_child }

-- two trees, the same but for their thresholds
abbrev pub Alike : Tree → Tree → Type 0
Alike t t' =
    (map bare_entry (entries t.nodes) ≡ map bare_entry (entries t'.nodes)) × (length t.nodes ≡ length t'.nodes) × (t.report ≡ t'.report)
    × (behind_each t.nodes ≡ behind_each t'.nodes)

module _ (F : OneTree) (D : Data) (right : Listed F D) (g : Height) where
  -- an element of a kept row
  abbrev pub Row : Element → Type 0
  Row e = (i : ℕ) × (i < F.rows) × (kept F i ≡ true) × (e ≡ element F D i)

  pub row-values : (j : ℕ) → j < F.params.features → (x : Element) → Row x → Value (at j x)
  row-values j h x r = subst (λ e. Value (at j e)) (sym r.3) (right.values r.0 j r.1 h)

  root-known : Known F.params g Row row-values (root F D)
  unfolding root column
  root-known =
      record {
        wide = length-map (from 0 F.params.features) (column F D) ∙ length_from 0 F.params.features;
        rows = every_map _ (column F D) (from 0 F.params.features)
            (every-imp _ _ (λ j b. every_map Row (element F D) (keep (kept F) (listing F D j))
            (every-imp _ _ (λ i p. (i, p.0, p.1, refl)) (keep (kept F) (listing F D j))
            (every-both _ _ (keep (kept F) (listing F D j))
            (every-keep _ (kept F) (listing F D j) (once-below F.rows (listing F D j) (right.once j (subst (λ n. j < n) (zero-add F.params.features) b))))
            (kept-pass (kept F) (listing F D j)))))
            (from 0 F.params.features) (from-below 0 F.params.features));
      }

  abbrev pub one_tree_cut : OneTree
  one_tree_cut = record { rows = F.rows; params = reheight g F.params; weights = F.weights; counts = F.counts; words = F.words; thresholds = F.thresholds }

  abbrev pub Nodes : TreeNode → TreeNode → Type 0
  Nodes n n' = NodeBoth F.params g Row row-values n n'

  abbrev pub Trees : Tree → Tree → Type 0
  Trees t t' = Pairs Nodes t.nodes t'.nodes × (t.report ≡ t'.report)

  pub fit-both : Both Trees (fit F D) (fit one_tree_cut D)
  unfolding fit grow_from tree_of root column listing element kept kept_rows
  fit-both =
      both-then (λ s s'. Pairs Nodes s.nodes s'.nodes × (s.depth ≡ s'.depth) × (s.left ≡ s'.left)) Trees
      (from_root F.params (choose F.params) (root F D) start) (from_root (reheight g F.params) (choose (reheight g F.params)) (root F D) start) _ _
      (root-both F.params g Row row-values (choose F.params) (choose (reheight g F.params)) (search-fine F.params (tape F.params.features) (tape-fair F.params))
      (search-both F.params g Row row-values (tape F.params.features) (tape-fair F.params)) (root F D) start (root-good F D right) root-known)
      (λ s s' h. (h.0, told s s' h))
    where
      choose : Params → Tapes → NodeRows → Out (Found × Tapes)
      choose Q = search (tape Q.features) Q

      start : Tapes
      start = record { words = F.words; thresholds = F.thresholds; searches = 0 }

      told : (s s' : State Tapes) → Pairs Nodes s.nodes s'.nodes × (s.depth ≡ s'.depth) × (s.left ≡ s'.left) → (tree_of F (root F D) s).report ≡ (tree_of one_tree_cut (root F D) s').report
      told s s' h =
          λ i.
          record {
            nodes = pairs-length Nodes s.nodes s'.nodes h.0 i;
            depth = h.1 i;
            mass = (root F D).totals.mass;
            searches = (h.2 i).searches;
            words = length F.words - length (h.2 i).words;
            thresholds = length F.thresholds - length (h.2 i).thresholds;
          }

  -- ---- what the other choice leaves

  node-bare : (n n' : TreeNode) → Nodes n n' → bare_entry (entry_of (value_of n.totals) n.kind) ≡ bare_entry (entry_of (value_of n'.totals) n'.kind)
  unfolding entry_of
  node-bare n n' h = ap (λ t. bare_entry (entry_of (value_of t) n.kind)) h.0 ∙ go n.kind n'.kind h.2
    where
      go : (k k' : Kind) → KindBoth F.params g Row row-values k k' → bare_entry (entry_of (value_of n'.totals) k) ≡ bare_entry (entry_of (value_of n'.totals) k')
      go Leaf Leaf b = refl
      go Leaf (Split f') b = absurd b
      go (Split f) Leaf b = absurd b
      go (Split f) (Split f') b =
          λ i. record { value = value_of n'.totals; feature = b.0 i; threshold = nought; score = b.2 i; true_child = b.3 i; false_child = suc (b.3 i) }

  nodes-bare : (ns ns' : List TreeNode) → Pairs Nodes ns ns' → map bare_entry (entries ns) ≡ map bare_entry (entries ns')
  unfolding entries
  nodes-bare [] [] h = refl
  nodes-bare [] (n' ∷ ns') h = absurd h
  nodes-bare (n ∷ ns) [] h = absurd h
  nodes-bare (n ∷ ns) (n' ∷ ns') h = λ i. node-bare n n' h.0 i ∷ nodes-bare ns ns' h.1 i

  nodes-behind : (ns ns' : List TreeNode) → Pairs Nodes ns ns' → behind_each ns ≡ behind_each ns'
  nodes-behind ns ns' h =
      λ i. behind_of (pairs-map Nodes (λ n. n.count) (λ n. n.count) (λ n n' b. b.1) ns ns' h i) (pairs-map Nodes (λ n. n.totals.mass) (λ n. n.totals.mass) (λ n n' b k. (b.0 k).mass) ns ns' h i)

  pub fit-alike : Both Alike (fit F D) (fit one_tree_cut D)
  fit-alike =
      both-after Trees Alike (fit F D) (fit one_tree_cut D) fit-both
      (λ t t' h. (nodes-bare t.nodes t'.nodes h.0, pairs-length Nodes t.nodes t'.nodes h.0, h.1, nodes-behind t.nodes t'.nodes h.0))

  -- ---- and what it leaves of the random splitter's tree

  node-same : F.params.splitter ≡ Random → (n n' : TreeNode) → Nodes n n' → n ≡ n'
  node-same random n n' h = λ i. record { totals = h.0 i; count = h.1 i; kind = go n.kind n'.kind h.2 i }
    where
      go : (k k' : Kind) → KindBoth F.params g Row row-values k k' → k ≡ k'
      go Leaf Leaf b = refl
      go Leaf (Split f') b = absurd b
      go (Split f) Leaf b = absurd b
      go (Split f) (Split f') b =
          let t : f.cut.threshold ≡ f'.cut.threshold = subst (λ z. Told F.params g Row row-values z f.cut f'.cut) random b.1 in
          λ i. Split (record { cut = record { feature = b.0 i; threshold = t i }; score = b.2 i; children = b.3 i })

  nodes-same : F.params.splitter ≡ Random → (ns ns' : List TreeNode) → Pairs Nodes ns ns' → ns ≡ ns'
  nodes-same random [] [] h = refl
  nodes-same random [] (n' ∷ ns') h = absurd h
  nodes-same random (n ∷ ns) [] h = absurd h
  nodes-same random (n ∷ ns) (n' ∷ ns') h = λ i. node-same random n n' h.0 i ∷ nodes-same random ns ns' h.1 i

  pub fit_same : F.params.splitter ≡ Random → fit F D ≡ fit one_tree_cut D
  fit_same random = go (fit F D) (fit one_tree_cut D) fit-both
    where
      go : (o o' : Out Tree) → Both Trees o o' → o ≡ o'
      go (bad m) (bad n) h = ap bad h
      go (bad m) (ok t') h = absurd h
      go (ok t) (bad n) h = absurd h
      go (ok t) (ok t') h = λ i. ok (record { nodes = nodes-same random t.nodes t'.nodes h.0 i; report = h.1 i })
