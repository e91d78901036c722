-- The nodes of a growth, and what a split does to them: two more at the end, and where the split node is, its kind. A node has its totals and its count from when it was made,
-- so a split has what it had as a leaf. Assumes nothing.
use Rattle.std.specs.Prelude.{ℕ, suc, ◌+◌, ◌<◌, ◌≡◌, ◌≢◌, List, [], ◌∷◌, ◌++◌, map, length, set}
use Rattle.std.proofs.Math.Decide.{ℕ_discrete}
use Rattle.std.proofs.Common.{arith, ◌∙◌, subst, length-set}
use Rattle.std.proofs.Math.Path.{sym, ap}
use Rattle.std.proofs.Math.ListN.{get_or, get_or-append}
use Rattle.std.proofs.Math.Seq.{get_or-set_same, get_or-set_other, get_or-append-add}
use Rattle.rules.specs.declared.Kind.{Kind}
use Rattle.rules.specs.declared.Kind.TheVariants.{Leaf}
use Rattle.rules.specs.Totals.{empty}
use Rattle.rules.specs.Lent.{Behind, behind_of}
use Rattle.rules.specs.Search.{NodeRows, on_true, on_false}
use Rattle.rules.specs.Growth.{TreeNode, Waiting, child, leaf_of, split_of, with_children}

abbrev pub no_node : TreeNode
no_node = record { totals = empty; count = 0; kind = Leaf }

abbrev pub kind_at : List TreeNode → ℕ → Kind
kind_at ns k = (get_or ns k no_node).kind

abbrev pub count_at : List TreeNode → ℕ → ℕ
count_at ns k = (get_or ns k no_node).count

-- counts and masses, as they are written
abbrev pub behind_each : List TreeNode → Behind
behind_each ns = behind_of (map (λ (n : TreeNode). n.count) ns) (map (λ (n : TreeNode). n.totals.mass) ns)

-- a node as it was when it was a leaf
abbrev pub as_leaf : TreeNode → TreeNode
as_leaf n = record { totals = n.totals; count = n.count; kind = Leaf }

-- a node that waits, at its place among the nodes
pub record Sits (ns : List TreeNode) (w : Waiting) : Type 0 where
  pub inside : w.number < length ns
  pub same : as_leaf (get_or ns w.number no_node) ≡ leaf_of w.node

-- there is a first node, and it has what the root was given
pub record First (root : NodeRows) (ns : List TreeNode) : Type 0 where
  pub some : 0 < length ns
  pub same : as_leaf (get_or ns 0 no_node) ≡ leaf_of root

-- ---- after a split

module _ (w : Waiting) (ns : List TreeNode) (sits : Sits ns w) where
  abbrev after : List TreeNode
  after = with_children w ns

  -- the split node, and the two new ones
  pub at_split : get_or after w.number no_node ≡ split_of w (length ns)
  unfolding with_children
  at_split =
      get_or-append (set ns w.number (split_of w (length ns))) _ no_node w.number (subst (λ n. w.number < n) (sym (length-set ns w.number (split_of w (length ns)))) sits.inside)
      ∙ get_or-set_same ns w.number (split_of w (length ns)) no_node sits.inside

  pub at_other : (k : ℕ) → k < length ns → k ≢ w.number → get_or after k no_node ≡ get_or ns k no_node
  unfolding with_children
  at_other k l d =
      get_or-append (set ns w.number (split_of w (length ns))) _ no_node k (subst (λ n. k < n) (sym (length-set ns w.number (split_of w (length ns)))) l)
      ∙ get_or-set_other ns w.number k (split_of w (length ns)) no_node d

  pub at_new : (i : ℕ) → get_or after (length ns + i) no_node ≡ get_or (leaf_of (child on_true w) ∷ leaf_of (child on_false w) ∷ []) i no_node
  unfolding with_children
  at_new i =
      ap (λ n. get_or (set ns w.number (split_of w (length ns)) ++ (leaf_of (child on_true w) ∷ leaf_of (child on_false w) ∷ [])) (n + i) no_node) (sym (length-set ns w.number (split_of w (length ns))))
      ∙ get_or-append-add (set ns w.number (split_of w (length ns))) (leaf_of (child on_true w) ∷ leaf_of (child on_false w) ∷ []) i no_node

  pub at_true : get_or after (length ns) no_node ≡ leaf_of (child on_true w)
  at_true = ap (λ k. get_or after k no_node) (zero_more (length ns)) ∙ at_new 0
    where
      zero_more : (n : ℕ) → n ≡ n + 0
      zero_more n = omega arith

  pub at-false : get_or after (suc (length ns)) no_node ≡ leaf_of (child on_false w)
  at-false = ap (λ k. get_or after k no_node) (one_more (length ns)) ∙ at_new 1
    where
      one_more : (n : ℕ) → suc n ≡ n + 1
      one_more n = omega arith

  -- totals and counts that stood still stand
  pub as_it_was : (k : ℕ) → k < length ns → as_leaf (get_or after k no_node) ≡ as_leaf (get_or ns k no_node)
  unfolding split_of leaf_of
  as_it_was k l = go (ℕ_discrete k w.number)
    where
      go : Dec (k ≡ w.number) → as_leaf (get_or after k no_node) ≡ as_leaf (get_or ns k no_node)
      go (yes q) = ap (λ n. as_leaf (get_or after n no_node)) q ∙ ap as_leaf at_split ∙ sym sits.same ∙ ap (λ n. as_leaf (get_or ns n no_node)) (sym q)
      go (no d) = ap as_leaf (at_other k l d)
