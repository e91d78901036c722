-- A model as a file: its bytes, written and read.
use Rattle.std.specs.Prelude.{ℕ, zero, suc, ◌+◌, Bool, ◌&&◌, ◌||◌, cond, List, [], ◌∷◌, ◌++◌, length, leb, ltb, eqb, Ok, Err}
use Rattle.rules.specs.declared.Misread.{Misread}
use Rattle.rules.specs.declared.Sizes.{Sizes}
use Rattle.rules.specs.Results.{ModelReply, SizeReply}
use Rattle.rules.specs.Words.{joined, total, stretch, front}
use Rattle.rules.specs.Lent.{Columns, Entry, Outcome, outcome_of, shortest, leaf_entry, write_entries}
use Rattle.rules.specs.Checks.{Test, test, first_failed, features_in, trees_in}
use Rattle.rules.specs.Table.{ForestTable, trees_of, forest_table_tests}
use Rattle.rules.specs.Bytes.{bytes_of, number_in, float_bytes, good_pattern, float_of}

-- ---- written

-- R18.1: R, G and F
abbrev pub mark : List ℕ
mark = 0x52 ∷ 0x47 ∷ 0x46 ∷ []

-- R18.2: a node
unfoldable pub node_bytes : Entry → List ℕ
node_bytes e =
    float_bytes e.value
    ++ (bytes_of 4 e.true_child
    ++ cond (eqb e.true_child 0) [] (bytes_of 2 e.feature ++ (float_bytes e.threshold ++ float_bytes e.score)))

-- R18.3: a tree
unfoldable pub tree_bytes : List Entry → List ℕ
tree_bytes es = bytes_of 4 (length es) ++ joined node_bytes es

-- R18.4: a forest; version 1
unfoldable pub file_of : ℕ → List (List Entry) → List ℕ
file_of features ts = mark ++ (bytes_of 2 1 ++ (bytes_of 2 features ++ (bytes_of 2 (length ts) ++ joined tree_bytes ts)))

-- ---- read, field by field

-- R18.5: what comes of a field at some place of a file: it is misread, or it says something and the next field is at another place
pub data Field (A : Type 0) : Type 0 where
  misread : Misread → Field A
  says : A → ℕ → Field A

-- R18.5
abbrev pub wrong : {A : Type 0} → ℕ → ℕ → Field A
wrong n at = misread (record { number = n; place = at })

-- R18.5: what follows goes by what was said
unfoldable pub and_then : {A B : Type 0} → Field A → (A → ℕ → Field B) → Field B
and_then (misread m) f = misread m
and_then (says a at) f = f a at

-- R18.6: a number of k bytes: the file may end before it does, and the number may fail its test
unfoldable pub field : List ℕ → ℕ → ℕ → (ℕ → Bool) → ℕ → Field ℕ
field bs k n passes at =
    cond (leb (at + k) (length bs))
    (cond (passes (number_in (stretch at k bs))) (says (number_in (stretch at k bs)) (at + k)) (wrong n at))
    (wrong 14 at)

-- R18.7
unfoldable pub float_at : List ℕ → ℕ → Field ℕ
float_at bs at = field bs 8 16 good_pattern at

-- R18.8: what a file says first
pub record Header : Type 0 where
  pub features : ℕ
  pub trees : ℕ

-- R18.8
unfoldable pub header_in : List ℕ → Field Header
header_in bs =
    and_then (field bs 3 15 (eqb (number_in mark)) 0) (λ m at.
    and_then (field bs 2 15 (eqb 1) at) (λ v at.
    and_then (field bs 2 16 features_in at) (λ features at.
    and_then (field bs 2 16 trees_in at) (λ trees at.
    says (record { features = features; trees = trees }) at))))

-- R18.9: node k's true child in a tree of n nodes: none, or it is above the node and the next one inside the tree
unfoldable pub child_good : ℕ → ℕ → ℕ → Bool
child_good n k y = eqb y 0 || (ltb k y && ltb (suc y) n)

-- R18.9: what else a split says
unfoldable pub split_at : List ℕ → ℕ → ℕ → ℕ → ℕ → Field Entry
split_at bs features v y at =
    and_then (field bs 2 16 (λ j. ltb j features) at) (λ j at.
    and_then (float_at bs at) (λ t at.
    and_then (float_at bs at) (λ s at.
    says (record { value = float_of v; feature = j; threshold = float_of t; score = float_of s; true_child = y; false_child = suc y }) at)))

-- R18.9: node k
unfoldable pub node_at : List ℕ → ℕ → ℕ → ℕ → ℕ → Field Entry
node_at bs features n k at =
    and_then (float_at bs at) (λ v at.
    and_then (field bs 4 16 (child_good n k) at) (λ y at.
    cond (eqb y 0) (says (leaf_entry (float_of v)) at) (split_at bs features v y at)))

-- R18.10
unfoldable pub before : {A : Type 0} → A → Field (List A) → Field (List A)
before x f = and_then f (λ l at. says (x ∷ l) at)

-- R18.10: m nodes from node k on
unfoldable pub nodes_at : List ℕ → ℕ → ℕ → ℕ → ℕ → ℕ → Field (List Entry)
nodes_at bs features n k zero at = says [] at
nodes_at bs features n k (suc m) at = and_then (node_at bs features n k at) (λ e at. before e (nodes_at bs features n (suc k) m at))

-- R18.11: a tree has a node, and all nodes so far can be counted in 32 bits
unfoldable pub count_good : ℕ → ℕ → Bool
count_good sofar n = leb 1 n && leb (sofar + n) 4294967295

-- R18.11: m trees, after trees of so many nodes
unfoldable pub trees_at : List ℕ → ℕ → ℕ → ℕ → ℕ → Field (List (List Entry))
trees_at bs features sofar zero at = says [] at
trees_at bs features sofar (suc m) at =
    and_then (field bs 4 16 (count_good sofar) at) (λ n at.
    and_then (nodes_at bs features n 0 n at) (λ es at.
    before es (trees_at bs features (sofar + n) m at)))

-- R18.12: what a file says
pub record Model : Type 0 where
  pub features : ℕ
  pub trees : List (List Entry)

-- R18.12: with nothing after the last node
unfoldable pub model_in : List ℕ → Field Model
model_in bs =
    and_then (header_in bs) (λ h at.
    and_then (trees_at bs h.features 0 h.trees at) (λ ts at.
    cond (eqb at (length bs)) (says (record { features = h.features; trees = ts }) at) (wrong 17 at)))

-- ---- the calls

-- R18.13: how many bytes a table takes, or why it has no file
unfoldable pub sized : ℕ → ℕ → SizeReply
sized zero n = Ok n
sized (suc r) n = Err (suc r)

-- R18.13
unfoldable pub model_size : ℕ → ForestTable → SizeReply
model_size features T = sized (first_failed (forest_table_tests features T)) (length (file_of features (trees_of T)))

-- R18.14: a room that is too short comes after a bad table
unfoldable pub write_tests : ℕ → ForestTable → List ℕ → List Test
write_tests features T out = forest_table_tests features T ++ (test 6 (leb (length (file_of features (trees_of T))) (length out)) ∷ [])

-- R18.14
unfoldable pub wrote : ℕ → List ℕ → List ℕ → Outcome SizeReply (List ℕ)
wrote zero file out = outcome_of (Ok (length file)) (front file out)
wrote (suc r) file out = outcome_of (Err (suc r)) out

-- R18.14
unfoldable pub write_model : ℕ → ForestTable → List ℕ → Outcome SizeReply (List ℕ)
write_model features T out = wrote (first_failed (write_tests features T out)) (file_of features (trees_of T)) out

-- R18.15: rooms for a table
pub record TableRooms : Type 0 where
  pub nodes : Columns
  pub starts : List ℕ

-- R18.15: from slices
abbrev pub table_rooms_of : Columns → List ℕ → TableRooms
table_rooms_of c starts = record { nodes = c; starts = starts }

-- R18.15: where each tree starts, and where the last ends
unfoldable pub starts_of : ℕ → List (List Entry) → List ℕ
starts_of a [] = a ∷ []
starts_of a (t ∷ ts) = a ∷ starts_of (a + length t) ts

-- R18.15: the rooms may be longer than the table
unfoldable pub rooms_enough : List (List Entry) → TableRooms → Bool
rooms_enough ts R = leb (total length ts) (shortest R.nodes) && leb (suc (length ts)) (length R.starts)

-- R18.15
unfoldable pub filled_by : List (List Entry) → TableRooms → TableRooms
filled_by ts R = record { nodes = write_entries (joined (λ t. t) ts) R.nodes; starts = front (starts_of 0 ts) R.starts }

-- R18.16
unfoldable pub sizes_of : Model → Sizes
sizes_of M = record { features = M.features; trees = length M.trees; nodes = total length M.trees }

-- R18.16: what is misread, or has no room, changes nothing
unfoldable pub reading : Field Model → TableRooms → Outcome ModelReply TableRooms
reading (misread m) R = outcome_of (Err m) R
reading (says M at) R =
    cond (rooms_enough M.trees R) (outcome_of (Ok (sizes_of M)) (filled_by M.trees R))
    (outcome_of (Err (record { number = 6; place = 0 })) R)

-- R18.16
unfoldable pub read_model : List ℕ → TableRooms → Outcome ModelReply TableRooms
read_model bs R = reading (model_in bs) R
