-- What its history says of a growth, at any time of it. Every node but the root is a child of a split below it in number, and of no other: so what holds of the root, and of both children of a
-- split where it holds of the split, holds of every node. From a good root, where choices are fine, every node is good, every split divides its node, and every node but the root has the
-- least leaf. Once none waits, a node is a split exactly where its search found a cut. Over any way to choose cuts. Assumes nothing.
use Rattle.std.specs.Prelude.{ℕ, zero, suc, ◌<◌, ◌≤◌, ◌≡◌, ◌⊎◌, Bool, true, false, List, [], length}
use Rattle.std.proofs.Math.Decide.{dec_lt}
use Rattle.std.proofs.Common.{arith, sym, ◌∙◌, subst, inl, inr}
use Rattle.std.proofs.Math.Path.{refl, ap}
use Rattle.std.proofs.Math.ListN.{get_or-eq_default}
use Rattle.rules.specs.declared.Params.{Params}
use Rattle.rules.specs.declared.Cut.{Cut}
use Rattle.rules.specs.declared.Fork.{Fork}
use Rattle.rules.specs.declared.Kind.TheVariants.{Leaf, Split}
use Rattle.rules.specs.Draws.{Out}
use Rattle.rules.specs.Search.{NodeRows, on_true, on_false, Found, no_cut, cut_found}
use Rattle.rules.specs.Growth.{TreeNode, Waiting, State, child, leaf_of, splitting, from_root}
use Rattle.lemmas.specs.Outs.{Then, then-after, then-of}
use Rattle.lemmas.specs.Nodes.{no_node, kind_at, count_at, First}
use Rattle.lemmas.specs.Cuts.{Good, Suits, Ripe, side-good}
use Rattle.lemmas.specs.Splits.{Counts, counts, Divides, Stands, leaf≢split}
use Rattle.lemmas.specs.Met.{Met, waiting_at, asked, Gave, ChildOf, SplitAt, Became, Born, History}
use Rattle.lemmas.specs.History.{growth-history}

module _ {P : Params} {S : Type 0} {choose : S → NodeRows → Out (Found × S)} {root : NodeRows} {s₀ : S} {ws : List Waiting} {s : State S} (h : History P choose root s₀ ws s) where
  abbrev ns : List TreeNode
  ns = s.nodes

  abbrev met : ℕ → Met S
  met = h.met

  pub uncut-leaf : (k : ℕ) → k < length ns → (met k).found ≡ no_cut → kind_at ns k ≡ Leaf
  uncut-leaf k l e = subst (Became ns met ws k) e (h.known k l).became

  -- a split found its cut, and its children are the two sides
  pub record Forked (k : ℕ) (fork : Fork) : Type 0 where
    pub found : (met k).found ≡ cut_found fork.cut
    pub above : k < fork.children
    pub inside : suc fork.children < length ns
    pub true_child : ChildOf met k fork.cut on_true fork.children
    pub false_child : ChildOf met k fork.cut on_false (suc fork.children)

  pub forked : (k : ℕ) → k < length ns → (fork : Fork) → kind_at ns k ≡ Split fork → Forked k fork
  unfolding splitting
  forked k l fork e = go (met k).found refl (h.known k l).became
    where
      same : (other : Fork) → kind_at ns k ≡ Split other → other ≡ fork
      same other q = cc

      go : (x : Found) → (met k).found ≡ x → Became ns met ws k x → Forked k fork
      go no_cut q b = absurd (leaf≢split fork (sym b ∙ e))
      go (cut_found c) q (inl b) = absurd (leaf≢split fork (sym b.0 ∙ e))
      go (cut_found c) q (inr b) =
          subst (Forked k) (same _ b.kind) (record { found = q; above = b.above; inside = b.inside; true_child = b.true_child; false_child = b.false_child })

  -- ---- from the root up

  module _ (Q : ℕ → Type 0) (first : Q 0) (up : (k : ℕ) → k < length ns → (fork : Fork) → kind_at ns k ≡ Split fork → Forked k fork → Q k → Q fork.children × Q (suc fork.children)) where
    up_to : (f k : ℕ) → k ≤ f → k < length ns → Q k
    up_to zero k b l = let e : k ≡ 0 = omega arith in subst Q (sym e) first
    up_to (suc f) zero b l = first
    up_to (suc f) (suc k) b l = go (up p inside o.fork o.split (forked p inside o.fork o.split) (up_to f p (omega (arith, o.before, b)) inside)) o.which
      where
        o : Born ns met (suc k)
        o = h.born (suc k) (omega arith) l

        p : ℕ
        p = (met (suc k)).parent

        inside : p < length ns
        inside = omega (arith, o.before, l)

        go : Q o.fork.children × Q (suc o.fork.children) → (suc k ≡ o.fork.children) ⊎ (suc k ≡ suc o.fork.children) → Q (suc k)
        go q (inl e) = subst Q (sym e) q.0
        go q (inr e) = subst Q (sym e) q.1

    pub from-root : (k : ℕ) → k < length ns → Q k
    from-root k l = up_to k k (omega arith) l

  -- ---- good nodes

  -- the count that is written is that of its rows
  pub count-met : (k : ℕ) → k < length ns → count_at ns k ≡ (met k).rows.count
  unfolding leaf_of
  count-met k l = ap (λ (n : TreeNode). n.count) (h.known k l).same

  module _ (fine : (t : S) (node : NodeRows) → Good P node → Then (choose t node) (λ r. Suits P node r.0)) (good : Good P root) where
    -- a split whose rows are good waited ripe
    ripe-from : (k : ℕ) → k < length ns → (fork : Fork) → Forked k fork → Good P (met k).rows → Ripe P (waiting_at k (met k) fork.cut)
    ripe-from k l fork f g = record { good = g; fine = subst (Suits P (met k).rows) f.found (go (asked P k (met k)) (h.known k l).gave) }
      where
        go : (b : Bool) → Gave choose b (met k) → Suits P (met k).rows (met k).found
        go false q = subst (Suits P (met k).rows) (sym q.0) tt
        go true q = then-of (λ r. Suits P (met k).rows r.0) (choose (met k).before (met k).rows) _ q (fine (met k).before (met k).rows g)

    pub good-met : (k : ℕ) → k < length ns → Good P (met k).rows
    good-met =
        from-root (λ k. Good P (met k).rows) (subst (Good P) (sym h.root_rows) good)
        (λ k l fork e f g. let r = ripe-from k l fork f g in (subst (Good P) (sym f.true_child.rows) (side-good P on_true _ r), subst (Good P) (sym f.false_child.rows) (side-good P on_false _ r)))

    divides-met : (k : ℕ) → k < length ns → (fork : Fork) → kind_at ns k ≡ Split fork → Divides P ns k fork
    divides-met k l fork e =
        record {
          known = r.fine.known;
          above = f.above;
          inside = f.inside;
          some_true = omega (arith, t, c.some_true);
          some_false = omega (arith, u, c.some_false);
          leaf_true = omega (arith, t, c.leaf_true);
          leaf_false = omega (arith, u, c.leaf_false);
          whole = omega (arith, t, u, c.whole, count-met k l);
        }
      where
        f : Forked k fork
        f = forked k l fork e

        r : Ripe P (waiting_at k (met k) fork.cut)
        r = ripe-from k l fork f (good-met k l)

        c : Counts P (waiting_at k (met k) fork.cut) r
        c = counts P (waiting_at k (met k) fork.cut) r

        t : count_at ns fork.children ≡ (child on_true (waiting_at k (met k) fork.cut)).count
        t = count-met fork.children (omega (arith, f.inside)) ∙ ap (λ (x : NodeRows). x.count) f.true_child.rows

        u : count_at ns (suc fork.children) ≡ (child on_false (waiting_at k (met k) fork.cut)).count
        u = count-met (suc fork.children) f.inside ∙ ap (λ (x : NodeRows). x.count) f.false_child.rows

    pub stands-met : Stands P ns
    stands-met = record { some = h.some; splits = λ k fork e. divides-met k (inside k fork e (dec_lt k (length ns))) fork e }
      where
        -- what is behind the last node is no split
        inside : (k : ℕ) (fork : Fork) → kind_at ns k ≡ Split fork → Dec (k < length ns) → k < length ns
        inside k fork e (yes l) = l
        inside k fork e (no l) = absurd (leaf≢split fork (sym (ap (λ (n : TreeNode). n.kind) (get_or-eq_default ns no_node {n = k} (omega (arith, l)))) ∙ e))

    -- every node but the root has something, and the least leaf
    pub least-met : (k : ℕ) → k < length ns → 0 < k → (1 ≤ count_at ns k) × (P.leaf ≤ count_at ns k)
    least-met =
        from-root (λ k. 0 < k → (1 ≤ count_at ns k) × (P.leaf ≤ count_at ns k)) (λ z. absurd (omega (arith, z)))
        (λ k l fork e f q. let d = divides-met k l fork e in ((λ z. (d.some_true, d.leaf_true)), (λ z. (d.some_false, d.leaf_false))))

-- ---- once none waits

module _ {P : Params} {S : Type 0} {choose : S → NodeRows → Out (Found × S)} {root : NodeRows} {s₀ : S} {s : State S} (h : History P choose root s₀ [] s) where
  pub cut-splits : (k : ℕ) → k < length s.nodes → (c : Cut) → (h.met k).found ≡ cut_found c → SplitAt s.nodes h.met k c
  cut-splits k l c e = go (h.met k).found (h.known k l).became e
    where
      go : (x : Found) → Became s.nodes h.met [] k x → x ≡ cut_found c → SplitAt s.nodes h.met k c
      go no_cut b e = let z : ◌≡◌ {A = ℕ} 0 1 = cc in absurd (omega arith)
      go (cut_found d) (inl b) e = absurd b.1
      go (cut_found d) (inr b) e = let q : d ≡ c = cc in subst (SplitAt s.nodes h.met k) q b

-- ---- of every growth

module _ (P : Params) {S : Type 0} (choose : S → NodeRows → Out (Found × S)) (root : NodeRows) (s : S) where
  -- the first node is the root
  pub growth-first : Then (from_root P choose root s) (λ s'. First root s'.nodes)
  growth-first =
      then-after (from_root P choose root s) _ _ (growth-history P choose root s)
      (λ s' h. record { some = h.some; same = (h.known 0 h.some).same ∙ ap leaf_of h.root_rows })

  -- every split divides its node
  pub growth-stands : ((t : S) (node : NodeRows) → Good P node → Then (choose t node) (λ r. Suits P node r.0)) → Good P root → Then (from_root P choose root s) (λ s'. Stands P s'.nodes)
  growth-stands fine g = then-after (from_root P choose root s) _ _ (growth-history P choose root s) (λ s' h. stands-met h fine g)
