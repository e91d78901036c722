-- Tree tables: when one is good, refusal 8, the calls that check one alone, and a node read out.
use Rattle.std.specs.Prelude.{ℕ, zero, suc, ◌-◌, Bool, true, ◌&&◌, ◌||◌, cond, List, [], ◌∷◌, map, length, get_or, take, leb, ltb, eqb, Ok, Err, Some, None}
use Rattle.rules.specs.declared.Kind.TheVariants.{Leaf, Split}
use Rattle.rules.specs.declared.Node.{Node}
use Rattle.rules.specs.Results.{Reply, NodeReply}
use Rattle.rules.specs.Words.{from, every, along}
use Rattle.rules.specs.Lent.{Columns, Entry, shortest, entry_at, entries_at}
use Rattle.rules.specs.Checks.{Test, test, first_failed, replies, features_in, trees_in}

-- ---- one tree

-- R12.1
unfoldable pub is_leaf : Entry → Bool
is_leaf e = eqb e.true_child 0 && eqb e.false_child 0

-- R12.2: node k of a tree of n nodes: a leaf, or its children come in order, above it and inside the tree, and its feature is one of them
unfoldable pub good_entry : ℕ → ℕ → ℕ → Entry → Bool
good_entry features n k e =
    is_leaf e || (ltb k e.true_child && (eqb e.false_child (suc e.true_child)
    && (ltb e.false_child n && ltb e.feature features)))

-- R12.3
unfoldable pub good_from : ℕ → ℕ → ℕ → List Entry → Bool
good_from features n k [] = true
good_from features n k (e ∷ es) = good_entry features n k e && good_from features n (suc k) es

-- R12.3
unfoldable pub good_tree : ℕ → List Entry → Bool
good_tree features es = ltb 0 (length es) && good_from features (length es) 0 es

-- R12.4: all that is lent is the tree
unfoldable pub tree_in : Columns → List Entry
tree_in c = entries_at c 0 (shortest c)

-- R12.5
unfoldable pub tree_table_tests : ℕ → Columns → List Test
tree_table_tests features c = test 1 (features_in features) ∷ test 8 (good_tree features (tree_in c)) ∷ []

-- R12.5
unfoldable pub check_tree : ℕ → Columns → Reply
check_tree features c = replies (first_failed (tree_table_tests features c))

-- ---- a forest: its trees lie one after another

-- R12.6: as it is lent to a reader
pub record ForestTable : Type 0 where
  pub trees : ℕ
  pub nodes : Columns
  pub starts : List ℕ

-- R12.6: from slices
abbrev pub table_of : ℕ → List ℕ → Columns → ForestTable
table_of trees starts c = record { trees = trees; nodes = c; starts = starts }

-- R12.7: the start table's rule: from 0, each above the one before, the last no further than the columns reach
unfoldable pub starts_good : ForestTable → Bool
starts_good T =
    eqb (get_or T.starts 0 1) 0 && (along ltb (take (suc T.trees) T.starts)
    && leb (get_or T.starts T.trees (suc (shortest T.nodes))) (shortest T.nodes))

-- R12.8: a tree lies between two starts
unfoldable pub tree_at : Columns → List ℕ → ℕ → List Entry
tree_at c starts t = entries_at c (get_or starts t 0) (get_or starts (suc t) 0 - get_or starts t 0)

-- R12.8
unfoldable pub trees_of : ForestTable → List (List Entry)
trees_of T = map (tree_at T.nodes T.starts) (from 0 T.trees)

-- R12.9
unfoldable pub good_forest : ℕ → ForestTable → Bool
good_forest features T = starts_good T && every (good_tree features) (trees_of T)

-- R12.10
abbrev pub starts_enough : ForestTable → Bool
starts_enough T = leb (suc T.trees) (length T.starts)

-- R12.10
unfoldable pub forest_table_tests : ℕ → ForestTable → List Test
forest_table_tests features T =
    test 1 (features_in features && trees_in T.trees)
    ∷ test 6 (starts_enough T)
    ∷ test 8 (good_forest features T)
    ∷ []

-- R12.10
unfoldable pub check_forest : ℕ → ForestTable → Reply
check_forest features T = replies (first_failed (forest_table_tests features T))

-- ---- a node read out

-- R12.11
unfoldable pub node_of : Entry → Node
node_of e =
    record {
      value = e.value;
      kind = cond (is_leaf e) Leaf
          (Split (record { cut = record { feature = e.feature; threshold = e.threshold }; score = e.score; children = e.true_child }));
    }

-- R12.12: refused as the table is; else node k, if there is one
unfoldable pub node_read : ℕ → Columns → ℕ → NodeReply
node_read zero c k = cond (ltb k (shortest c)) (Ok (Some (node_of (entry_at c k)))) (Ok None)
node_read (suc n) c k = Err (suc n)

-- R12.12
unfoldable pub read_node : ℕ → Columns → ℕ → NodeReply
read_node features c k = node_read (first_failed (tree_table_tests features c)) c k
