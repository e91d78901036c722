-- Every node but the root has the least leaf: the count beside it is at least as great, whatever the least leaf is, and never 0. It holds of every tree of every fit that answers, because
-- every node but the root is a side of a cut that was found, and no cut is found that leaves less on either side, or no row at all: it is at least the lowest value of the node's rows and
-- below the highest. Assumes nothing.
use Rattle.std.specs.Prelude.{ℕ, ◌<◌, ◌≤◌, length, get_or}
use Rattle.std.proofs.Common.{sym, subst}
use Rattle.std.proofs.Math.ListN.{get_or-map}
use Rattle.rules.specs.Lent.{Data, OneTree}
use Rattle.rules.specs.Growth.{TreeNode}
use Rattle.lemmas.specs.Nodes.{no_node}
use Rattle.lemmas.specs.Tables.{length-entries}
use Rattle.lemmas.specs.FitHistory.{least_at}
use Rattle.demands.specs.TreesLeft.{Left, OfEveryTree, of-every-tree}

-- ---- the statement

abbrev pub LeastLeaf : OneTree → Data → Left → Type 0
LeastLeaf F D L = (k : ℕ) → 0 < k → k < length L.entries → (1 ≤ get_or L.counts k 0) × (F.params.leaf ≤ get_or L.counts k 0)

-- ---- of every tree

pub least-leaf : OfEveryTree LeastLeaf
least-leaf =
    of-every-tree LeastLeaf
    (λ F D l some s g k up h. subst (λ n. (1 ≤ n) × (F.params.leaf ≤ n)) (sym (get_or-map (λ (n : TreeNode). n.count) s.nodes k no_node))
    (least_at l g k (subst (λ n. k < n) (length-entries s.nodes) h) up))
