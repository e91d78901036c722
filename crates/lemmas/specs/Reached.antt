-- The rows of a node are those whose walk passes through it. Growth parts a node's rows by its cut, column by column; a reader walks a row through the table that was written. That the two
-- agree is shown here, of every growth and at any time of it: a node's columns are the root's, with the rows alone that pass through it as the nodes stand, and a node's level is the one
-- that the table gives it. Assumes nothing.
use Prim.Native.Nat.{ℕ, suc, ◌<◌}
use Rattle.std.proofs.Common.{arith, sym, ◌∙◌, subst, inl, inr, true≢false}
use Rattle.std.specs.Prelude.{◌≡◌, ◌⊎◌, Bool, true, false, not, ◌&&◌, ◌||◌, cond, List, [], ◌∷◌, map, length, get_or}
use Rattle.std.proofs.Math.Path.{refl, ap}
use Rattle.std.proofs.Math.Dec.{T, eqb, eqb_refl}
use Rattle.std.specs.Float.Ieee.Fits.{and_i}
use Rattle.floats.specs.Order.{or_l, or_r}
use Rattle.rules.specs.declared.Params.{Params}
use Rattle.rules.specs.declared.Fork.{Fork}
use Rattle.rules.specs.declared.Kind.{Kind}
use Rattle.rules.specs.declared.Kind.TheVariants.{Leaf, Split}
use Rattle.rules.specs.Words.{keep}
use Rattle.rules.specs.Totals.{value_of}
use Rattle.rules.specs.Lent.{Entry}
use Rattle.rules.specs.Draws.{Out}
use Rattle.rules.specs.Search.{Element, Column, at, NodeRows, goes_true, on_true, on_false, Found}
use Rattle.rules.specs.Growth.{Waiting, State, child}
use Rattle.rules.specs.Fit.{entry_of, entries}
use Rattle.rules.specs.Table.{is_leaf, good_tree}
use Rattle.rules.specs.Reading.{no_entry, onto}
use Rattle.lemmas.specs.Lists.{every-all, keep_all, keep_same, keep-keep}
use Rattle.lemmas.specs.Once.{eqb_yes, eqb_no}
use Rattle.lemmas.specs.Nodes.{no_node, kind_at}
use Rattle.lemmas.specs.Splits.{Stands}
use Rattle.lemmas.specs.Tables.{length-entries, entry-of, stands_good}
use Rattle.lemmas.specs.Passes.{sends_to, passes, level_in, sends-child, passes-root, passes-child, level-is}
use Rattle.lemmas.specs.Met.{ChildOf, Born, History}
use Rattle.lemmas.specs.Settled.{Forked, forked, from-root}

module _ {P : Params} {S : Type 0} {choose : S → NodeRows → Out (Found × S)} {root : NodeRows} {s₀ : S} {ws : List Waiting} {s : State S}
    (h : History P choose root s₀ ws s) (stands : Stands P s.nodes) where
  abbrev table : List Entry
  table = entries s.nodes

  abbrev entry_on : ℕ → Entry
  entry_on k = get_or table k no_entry

  within : (k : ℕ) → k < length table → k < length s.nodes
  within k l = subst (λ n. k < n) (length-entries s.nodes) l

  beyond : (k : ℕ) → k < length s.nodes → k < length table
  beyond k l = subst (λ n. k < n) (sym (length-entries s.nodes)) l

  -- ---- what is written of a leaf and of a split

  pub leaf-written : (k : ℕ) → k < length s.nodes → kind_at s.nodes k ≡ Leaf → is_leaf (entry_on k) ≡ true
  unfolding is_leaf entry_of
  leaf-written k l e = ap is_leaf (entry-of s.nodes k l ∙ ap (entry_of (value_of (get_or s.nodes k no_node).totals)) e)

  pub split-written : (k : ℕ) → k < length s.nodes → (fork : Fork) → kind_at s.nodes k ≡ Split fork → entry_on k ≡ entry_of (value_of (get_or s.nodes k no_node).totals) (Split fork)
  split-written k l fork e = entry-of s.nodes k l ∙ ap (entry_of (value_of (get_or s.nodes k no_node).totals)) e

  -- a split's children are above it, so neither is 0
  pub split-inner : (k : ℕ) → k < length s.nodes → (fork : Fork) → kind_at s.nodes k ≡ Split fork → is_leaf (entry_on k) ≡ false
  unfolding is_leaf entry_of
  split-inner k l fork e =
      ap is_leaf (split-written k l fork e) ∙ ap (λ b. b && eqb (suc fork.children) 0) (eqb_no fork.children 0 (λ q. omega (arith, q, (forked h k l fork e).above)))

  -- it sends to its two children
  fork-sends : (k : ℕ) → k < length s.nodes → (fork : Fork) → kind_at s.nodes k ≡ Split fork → (c : ℕ) → (c ≡ fork.children) ⊎ (c ≡ suc fork.children) → T (sends_to c (entry_on k))
  unfolding sends_to entry_of
  fork-sends k l fork e c w =
      and_i (not (is_leaf (entry_on k))) _ (subst (λ b. T (not b)) (sym (split-inner k l fork e)) tt)
      (subst (λ (x : Entry). T (eqb x.true_child c || eqb x.false_child c)) (sym (split-written k l fork e)) (go w))
    where
      go : (c ≡ fork.children) ⊎ (c ≡ suc fork.children) → T (eqb fork.children c || eqb (suc fork.children) c)
      go (inl q) = or_l (eqb fork.children c) (eqb (suc fork.children) c) (subst (λ m. T (eqb m c)) q (eqb_refl c))
      go (inr q) = or_r (eqb fork.children c) (eqb (suc fork.children) c) (subst (λ m. T (eqb m c)) q (eqb_refl c))

  -- and no other sends there
  parent_is : (k c : ℕ) → k < length s.nodes → T (sends_to c (entry_on k)) → (h.met c).parent ≡ k
  unfolding entry_of
  parent_is k c l t = go (kind_at s.nodes k) refl
    where
      go : (z : Kind) → kind_at s.nodes k ≡ z → (h.met c).parent ≡ k
      go Leaf e = absurd (true≢false (sym (leaf-written k l e) ∙ (sends-child c (entry_on k) t).0))
      go (Split fork) e = child-of (subst (λ (x : Entry). (c ≡ x.true_child) ⊎ (c ≡ x.false_child)) (split-written k l fork e) (sends-child c (entry_on k) t).1)
        where
          f : Forked h k fork
          f = forked h k l fork e

          child-of : (c ≡ fork.children) ⊎ (c ≡ suc fork.children) → (h.met c).parent ≡ k
          child-of (inl q) = ap (λ j. (h.met j).parent) q ∙ f.true_child.parent
          child-of (inr q) = ap (λ j. (h.met j).parent) q ∙ f.false_child.parent

  apart : (k k' c : ℕ) → k < length table → k' < length table → T (sends_to c (entry_on k)) → T (sends_to c (entry_on k')) → k ≡ k'
  apart k k' c l l' t t' = sym (parent_is k c (within k l) t) ∙ parent_is k' c (within k' l') t'

  good : T (good_tree P.features table)
  good = stands_good P s.nodes stands

  -- ---- rows

  -- whether an element's walk passes through node k
  abbrev pub through : ℕ → Element → Bool
  through k e = passes table e.values k

  sifted : (p q r : Element → Bool) → ((e : Element) → r e ≡ (p e && q e)) → (cs : List Column) → map (keep q) (map (keep p) cs) ≡ map (keep r) cs
  sifted p q r same [] = refl
  sifted p q r same (c ∷ cs) = λ i. (keep-keep q p c ∙ keep_same (λ e. p e && q e) r c (every-all _ (λ e. sym (same e)) c)) i ∷ sifted p q r same cs i

  all-kept : (r : Element → Bool) → ((e : Element) → r e ≡ true) → (cs : List Column) → cs ≡ map (keep r) cs
  all-kept r same [] = refl
  all-kept r same (c ∷ cs) = λ i. sym (keep_all r c (every-all _ same c)) i ∷ all-kept r same cs i

  -- a reader's step from a split is growth's choice of side
  step-meets : (k : ℕ) → k < length s.nodes → (fork : Fork) → kind_at s.nodes k ≡ Split fork → (e : Element)
      → (eqb (onto (entry_on k) e.values k) fork.children ≡ goes_true fork.cut e) × (eqb (onto (entry_on k) e.values k) (suc fork.children) ≡ not (goes_true fork.cut e))
  unfolding onto goes_true at entry_of
  step-meets k l fork q e = (ap (λ m. eqb m fork.children) goes ∙ (side (goes_true fork.cut e)).0, ap (λ m. eqb m (suc fork.children)) goes ∙ (side (goes_true fork.cut e)).1)
    where
      is : entry_on k ≡ entry_of (value_of (get_or s.nodes k no_node).totals) (Split fork)
      is = split-written k l fork q

      goes : onto (entry_on k) e.values k ≡ cond (goes_true fork.cut e) fork.children (suc fork.children)
      goes = ap (λ x. onto x e.values k) is ∙ ap (λ b. cond b k (cond (goes_true fork.cut e) fork.children (suc fork.children))) (sym (ap is_leaf is) ∙ split-inner k l fork q)

      side : (b : Bool) → (eqb (cond b fork.children (suc fork.children)) fork.children ≡ b) × (eqb (cond b fork.children (suc fork.children)) (suc fork.children) ≡ not b)
      side true = (eqb_yes fork.children fork.children refl, eqb_no fork.children (suc fork.children) (λ z. omega (arith, z)))
      side false = (eqb_no (suc fork.children) fork.children (λ z. omega (arith, z)), eqb_yes (suc fork.children) (suc fork.children) refl)

  -- through a child pass those that pass through the split and go that way
  pub through-child : (k : ℕ) → k < length s.nodes → (fork : Fork) → kind_at s.nodes k ≡ Split fork → (e : Element)
      → (through fork.children e ≡ (through k e && goes_true fork.cut e)) × (through (suc fork.children) e ≡ (through k e && not (goes_true fork.cut e)))
  through-child k l fork q e = (
    subst (λ b. through fork.children e ≡ (through k e && b)) (step-meets k l fork q e).0
        (passes-child P.features table good apart e.values k fork.children (beyond k l) (fork-sends k l fork q fork.children (inl refl))),
    subst (λ b. through (suc fork.children) e ≡ (through k e && b)) (step-meets k l fork q e).1
        (passes-child P.features table good apart e.values k (suc fork.children) (beyond k l) (fork-sends k l fork q (suc fork.children) (inr refl))),
  )

  -- a side of a node whose rows pass through it
  side-met : (k c : ℕ) (fork : Fork) (b : Bool → Bool) → ChildOf h.met k fork.cut b c → ((e : Element) → through c e ≡ (through k e && b (goes_true fork.cut e)))
      → (h.met k).rows.columns ≡ map (keep (through k)) root.columns → (h.met c).rows.columns ≡ map (keep (through c)) root.columns
  unfolding child
  side-met k c fork b side goes q =
      ap (λ (r : NodeRows). r.columns) side.rows ∙ ap (map (keep (λ e. b (goes_true fork.cut e)))) q ∙ sifted (through k) (λ e. b (goes_true fork.cut e)) (through c) goes root.columns

  pub rows-met : (k : ℕ) → k < length s.nodes → (h.met k).rows.columns ≡ map (keep (through k)) root.columns
  rows-met =
      from-root h (λ k. (h.met k).rows.columns ≡ map (keep (through k)) root.columns)
      (ap (λ (r : NodeRows). r.columns) h.root_rows ∙ all-kept (through 0) (λ e. passes-root P.features table good apart e.values) root.columns)
      (λ k l fork e f q. (
        side-met k fork.children fork on_true f.true_child (λ x. (through-child k l fork e x).0) q,
        side-met k (suc fork.children) fork on_false f.false_child (λ x. (through-child k l fork e x).1) q,
      ))

  -- ---- levels

  pub level-met : (k : ℕ) → k < length s.nodes → level_in table k ≡ (h.met k).level
  level-met k l =
      level-is P.features table good apart (λ j. (h.met j).level) h.root_level (λ j some b. up j (h.born j some (within j b)) (within j b)) k (beyond k l)
    where
      up : (j : ℕ) → Born s.nodes h.met j → j < length s.nodes → (p : ℕ) × (p < j) × T (sends_to j (entry_on p)) × ((h.met j).level ≡ suc (h.met p).level)
      up j o b = ((h.met j).parent, o.before, fork-sends (h.met j).parent inside o.fork o.split j o.which, level o.which)
        where
          inside : (h.met j).parent < length s.nodes
          inside = omega (arith, o.before, b)

          f : Forked h (h.met j).parent o.fork
          f = forked h (h.met j).parent inside o.fork o.split

          level : (j ≡ o.fork.children) ⊎ (j ≡ suc o.fork.children) → (h.met j).level ≡ suc (h.met (h.met j).parent).level
          level (inl q) = ap (λ c. (h.met c).level) q ∙ f.true_child.level
          level (inr q) = ap (λ c. (h.met c).level) q ∙ f.false_child.level
