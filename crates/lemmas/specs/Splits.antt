-- What a split with a fine cut leaves: its children lie above it and inside, and each has some of its count, the least leaf at the least. Assumes nothing.
use Rattle.std.specs.Prelude.{ℕ, suc, ◌+◌, ◌<◌, ◌≤◌, ◌≡◌, Bool, List, [], length, get_or}
use Rattle.std.proofs.Math.Nat.{le_trans}
use Rattle.std.proofs.Math.Path.{sym}
use Rattle.std.proofs.Common.{◌∙◌, subst}
use Rattle.rules.specs.declared.Params.{Params}
use Rattle.rules.specs.declared.Fork.{Fork}
use Rattle.rules.specs.declared.Kind.{Kind}
use Rattle.rules.specs.declared.Kind.TheVariants.{Leaf, Split}
use Rattle.rules.specs.Words.{keep, total}
use Rattle.rules.specs.Search.{goes_true, on_true, on_false}
use Rattle.rules.specs.Growth.{TreeNode, Waiting, child}
use Rattle.lemmas.specs.Lists.{every-keep, total-le, total-sides}
use Rattle.lemmas.specs.Nodes.{kind_at, count_at}
use Rattle.lemmas.specs.Cuts.{Ripe}

-- ---- the counts of a fine cut's two sides

module _ (P : Params) (w : Waiting) (h : Ripe P w) where
  -- where rows are, their counts are
  side-some : (b : Bool → Bool) → 0 < total (λ e. 1) (keep (λ e. b (goes_true w.cut e)) (get_or w.node.columns w.cut.feature [])) → 1 ≤ (child b w).count
  unfolding child
  side-some b some =
      le_trans some
      (total-le (λ e. 1) (λ e. e.count) _ (every-keep _ (λ e. b (goes_true w.cut e)) _ (h.good.sound w.cut.feature h.fine.known).some))

  pub record Counts : Type 0 where
    pub some_true : 1 ≤ (child on_true w).count
    pub some_false : 1 ≤ (child on_false w).count
    pub leaf_true : P.leaf ≤ (child on_true w).count
    pub leaf_false : P.leaf ≤ (child on_false w).count
    pub whole : (child on_true w).count + (child on_false w).count ≡ w.node.count

  pub counts : Counts
  unfolding child
  counts =
      record {
        some_true = side-some on_true h.fine.some_true;
        some_false = side-some on_false h.fine.some_false;
        leaf_true = h.fine.leaf_true;
        leaf_false = h.fine.leaf_false;
        whole = total-sides (λ e. e.count) (goes_true w.cut) (get_or w.node.columns w.cut.feature []) ∙ sym (h.good.sound w.cut.feature h.fine.known).counted;
      }

-- ---- nodes

-- a split's feature is in range, its children lie above it and inside, and each has some of its count, the least leaf at the least
pub record Divides (P : Params) (ns : List TreeNode) (k : ℕ) (s : Fork) : Type 0 where
  pub known : s.cut.feature < P.features
  pub above : k < s.children
  pub inside : suc s.children < length ns
  pub some_true : 1 ≤ count_at ns s.children
  pub some_false : 1 ≤ count_at ns (suc s.children)
  pub leaf_true : P.leaf ≤ count_at ns s.children
  pub leaf_false : P.leaf ≤ count_at ns (suc s.children)
  pub whole : count_at ns s.children + count_at ns (suc s.children) ≡ count_at ns k

pub record Stands (P : Params) (ns : List TreeNode) : Type 0 where
  pub some : 0 < length ns
  pub splits : (k : ℕ) (s : Fork) → kind_at ns k ≡ Split s → Divides P ns k s

abbrev is_leaf : Kind → Type 0
is_leaf Leaf = Unit {0}
is_leaf (Split s) = ⊥

pub leaf≢split : (s : Fork) → Leaf ≡ Split s → ⊥
leaf≢split s p = subst is_leaf p tt
