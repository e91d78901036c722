-- The count beside a node is the sum of the counts of the kept rows that pass through it: of the rows that the tree keeps, those whose walk through the table that is left, with the values
-- that they were trained on, visits the node. So the support of a leaf is what stands behind it, no more and no less. It holds of every tree of every fit that answers, because where growth
-- sends a row and where a reader sends it is decided by the same comparison. Assumes nothing.
use Rattle.std.specs.Prelude.{ℕ, ◌<◌, ◌≡◌, length, get_or}
use Rattle.std.proofs.Common.{◌∙◌, subst}
use Rattle.std.proofs.Math.ListN.{get_or-map}
use Rattle.rules.specs.Words.{keep, total}
use Rattle.rules.specs.Lent.{Data, OneTree, count_in, kept_rows}
use Rattle.rules.specs.Draws.{Tapes}
use Rattle.rules.specs.Growth.{TreeNode, State}
use Rattle.lemmas.specs.Nodes.{no_node}
use Rattle.lemmas.specs.Root.{Listed}
use Rattle.lemmas.specs.Tables.{length-entries}
use Rattle.lemmas.specs.Passes.{passes}
use Rattle.lemmas.specs.FitHistory.{Grown, trained, count-through}
use Rattle.demands.specs.TreesLeft.{Left, OfEveryTree, left_of, of-every-tree}

-- ---- the statement

abbrev pub Through : OneTree → Data → Left → Type 0
Through F D L =
    (k : ℕ) → k < length L.entries → get_or L.counts k 0 ≡ total (count_in F.counts) (keep (λ i. passes L.entries (trained F D i) k) (kept_rows F))

-- ---- of every tree

pub grown-through : (F : OneTree) (D : Data) → Listed F D → 0 < F.params.features → (s : State Tapes) → Grown F D s → Through F D (left_of F D s)
grown-through F D l some s g k h =
    get_or-map (λ (n : TreeNode). n.count) s.nodes k no_node ∙ count-through l g some k (subst (λ n. k < n) (length-entries s.nodes) h)

pub through : OfEveryTree Through
through = of-every-tree Through grown-through
