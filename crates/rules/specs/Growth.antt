-- The growth of one tree from its root, over any way to choose cuts.
use Rattle.std.specs.Prelude.{ℕ, zero, suc, ◌-◌, max, Bool, true, false, ◌&&◌, List, [], ◌∷◌, ◌++◌, map, length, get_or, set, leb, ltb}
use Rattle.rules.specs.declared.Totals.{Totals}
use Rattle.rules.specs.declared.Params.{Params}
use Rattle.rules.specs.declared.Cut.{Cut}
use Rattle.rules.specs.declared.Fork.{Fork}
use Rattle.rules.specs.declared.Kind.{Kind}
use Rattle.rules.specs.declared.Kind.TheVariants.{Leaf, Split}
use Rattle.rules.specs.Totals.{empty, score}
use Rattle.rules.specs.Draws.{Out, ok, bind}
use Rattle.rules.specs.Search.{totals_of, tally, NodeRows, on_true, on_false, side_of, Found, no_cut, cut_found}

-- R9.1: a node of a tree that grows; of its totals the value and the mass are written
pub record TreeNode : Type 0 where
  pub totals : Totals
  pub count : ℕ
  pub kind : Kind

-- R9.2: a searched node that waits for its split
pub record Waiting : Type 0 where
  pub number : ℕ
  pub level : ℕ
  pub node : NodeRows
  pub cut : Cut

-- ---- a split

-- R9.3: one side of a waiting node. Its totals are not taken over from the search: they are added up again along the split column
unfoldable pub child : (Bool → Bool) → Waiting → NodeRows
child b w =
    let side = side_of b w.cut (get_or w.node.columns w.cut.feature []) in
    record { columns = map (side_of b w.cut) w.node.columns; totals = totals_of empty side; count = tally side }

-- R9.4
unfoldable pub leaf_of : NodeRows → TreeNode
leaf_of t = record { totals = t.totals; count = t.count; kind = Leaf }

-- R9.5: the score takes the whole node's mass afresh too; k is the true child's number
unfoldable pub splitting : Waiting → ℕ → Fork
splitting w k =
    record {
      cut = w.cut;
      score = score (child on_true w).totals (child on_false w).totals (totals_of empty (get_or w.node.columns w.cut.feature [])).mass;
      children = k;
    }

-- R9.6
unfoldable pub split_of : Waiting → ℕ → TreeNode
split_of w k = record { totals = w.node.totals; count = w.node.count; kind = Split (splitting w k) }

-- R9.6: two nodes more at the end, the true child before the false one
unfoldable pub with_children : Waiting → List TreeNode → List TreeNode
with_children w ns = set ns w.number (split_of w (length ns)) ++ (leaf_of (child on_true w) ∷ leaf_of (child on_false w) ∷ [])

-- ---- growth

-- R9.7: nodes and depth so far, and what is left to choose cuts by
pub record State (S : Type 0) : Type 0 where
  pub nodes : List TreeNode
  pub depth : ℕ
  pub left : S

-- R9.8: whether a node is searched, by its level and count
unfoldable pub searchable : Params → ℕ → NodeRows → Bool
searchable P level node = ltb level P.limit && leb P.split node.count

-- R9.9: who waits after a search: the node, if it has a cut now
unfoldable pub joins : ℕ → ℕ → NodeRows → Found → List Waiting
joins n level node no_cut = []
joins n level node (cut_found c) = record { number = n; level = level; node = node; cut = c } ∷ []

-- R9.11: one after the other, the head first
unfoldable pub runs : {S : Type 0} → (Waiting → S → Out S) → List Waiting → S → Out S
runs f [] s = ok s
runs f (w ∷ ws) s = bind (f w s) (λ s'. runs f ws s')

module _ (P : Params) {S : Type 0} (choose : S → NodeRows → Out (Found × S)) where
  -- R9.9
  unfoldable pub search_if : Bool → ℕ → ℕ → NodeRows → S → Out (List Waiting × S)
  search_if false n level node s = ok ([], s)
  search_if true n level node s = bind (choose s node) (λ r. ok (joins n level node r.0, r.1))

  -- R9.10: one split: two nodes more, the true child searched first, and those that wait now, the last to join at the head
  unfoldable pub expand : Waiting → State S → Out (List Waiting × State S)
  expand w s =
      bind (search_if (searchable P (suc w.level) (child on_true w)) (length s.nodes) (suc w.level) (child on_true w) s.left) (λ t.
      bind (search_if (searchable P (suc w.level) (child on_false w)) (suc (length s.nodes)) (suc w.level) (child on_false w) t.1) (λ f.
      ok (f.0 ++ t.0, record { nodes = with_children w s.nodes; depth = max s.depth (suc w.level); left = f.1 })))

  -- R9.11: w is split, and then all that comes of it, k levels down to the limit. No bound on the splits is asked: a child waits only below the limit.
  unfoldable pub grow : ℕ → Waiting → State S → Out (State S)
  grow zero w s = ok s
  grow (suc k) w s = bind (expand w s) (λ r. runs (λ w' s'. grow k w' s') r.0 r.1)

  -- R9.11: the waiting nodes are a stack, the last to join at the head and split first. `pop` in crate lemmas, WaitingOrder, says so of a w below the limit:
  -- grow_all (w ∷ ws) s ≡ bind (expand w s) (λ r. grow_all (r.0 ++ ws) r.1)
  unfoldable pub grow_all : List Waiting → State S → Out (State S)
  grow_all ws s = runs (λ w s'. grow (P.limit - w.level) w s') ws s

  -- R9.12: the root has level 1, and is searched only if something is kept
  unfoldable pub from_root : NodeRows → S → Out (State S)
  from_root root s =
      bind (search_if (ltb 0 root.count && searchable P 1 root) 0 1 root s) (λ r.
      grow_all r.0 (record { nodes = leaf_of root ∷ []; depth = 0; left = r.1 }))
