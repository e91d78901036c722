-- How many bytes a table takes, by its start table and its true children. Assumes nothing.
use Rattle.std.specs.Prelude.{ℕ, suc, ◌+◌, ◌-◌, ◌*◌, ◌<◌, ◌≤◌, ◌≡◌, refl, Bool, true, false, cond, List, map, get_or, eqb}
use Rattle.std.proofs.Common.{mul_comm, add-one, arith, sym, ◌∙◌, eq-eqb, ne_eqb}
use Rattle.std.proofs.Math.Path.{ap}
use Rattle.std.proofs.Math.ListN.{length, length-append}
use Rattle.rules.specs.Words.{from, joined, total}
use Rattle.rules.specs.Lent.{Columns, Entry, entry_at, entries_at}
use Rattle.rules.specs.Table.{ForestTable, tree_at, trees_of}
use Rattle.rules.specs.Bytes.{bytes_of}
use Rattle.rules.specs.Model.{node_bytes, tree_bytes, file_of}
use Rattle.lemmas.specs.Lists.{every-all, total-same, total-map, total-under, length_from}
use Rattle.lemmas.specs.ByteNumbers.{bytes-long}
use Rattle.lemmas.specs.FileRead.{header_bytes, file-is}
use Rattle.lemmas.specs.FileLength.{node_size, joined-long, node-long, header-long}
use Rattle.tables.specs.Table.{Started}

-- the nodes from place a up to place e, as a tree
unfoldable pub tree_long : List ℕ → ℕ → ℕ → ℕ
tree_long ys a e = 4 + total (λ k. node_size (get_or ys k 0)) (from a (e - a))

-- tree t
abbrev pub long_at : List ℕ → List ℕ → ℕ → ℕ
long_at starts ys t = tree_long ys (get_or starts t 0) (get_or starts (t + 1) 0)

-- all trees, after what the file says first
unfoldable pub file_long : ℕ → List ℕ → List ℕ → ℕ
file_long trees starts ys = 9 + total (long_at starts ys) (from 0 trees)

-- ---- what is asked

-- the nodes up to place e are there, and can be counted in 32 bits
pub record Reached (e : ℕ) (ys : List ℕ) : Type 0 where
  pub inside : e ≤ length ys
  pub few : e ≤ 4294967295

-- so are those of each tree, one tree after another
pub record Counted (trees : ℕ) (starts ys : List ℕ) : Type 0 where
  pub started : Started trees starts
  pub below : (t : ℕ) → t < trees → get_or starts t 0 < get_or starts (t + 1) 0
  pub inside : (t : ℕ) → t < trees → get_or starts (t + 1) 0 ≤ length ys

-- ---- bounds

pub leaf-long : (y : ℕ) → y ≡ 0 → node_size y ≡ 12
unfolding node_size
leaf-long y h = ap (λ b. cond b 12 30) (eq-eqb y 0 h)

pub split-long : (y : ℕ) → (y ≡ 0 → ⊥) → node_size y ≡ 30
unfolding node_size
split-long y h = ap (λ b. cond b 12 30) (ne_eqb y 0 h)

pub node-high : (y : ℕ) → 12 ≤ node_size y
unfolding node_size
node-high y = go (eqb y 0)
  where
    go : (b : Bool) → 12 ≤ cond b 12 30
    go true = omega arith
    go false = omega arith

pub node-low : (y : ℕ) → node_size y ≤ 30
unfolding node_size
node-low y = go (eqb y 0)
  where
    go : (b : Bool) → cond b 12 30 ≤ 30
    go true = omega arith
    go false = omega arith

pub tree-low : (ys : List ℕ) (a e : ℕ) → tree_long ys a e ≤ 4 + 30 * (e - a)
unfolding tree_long
tree-low ys a e =
    omega (
      arith,
      total-under (λ k. node_size (get_or ys k 0)) 30 (from a (e - a)) (every-all _ (λ k. node-low (get_or ys k 0)) (from a (e - a))),
      ap (λ n. n * 30) (length_from a (e - a)),
      mul_comm (e - a) 30,
    )

-- ---- the bytes that are written

nodes-long : (c : Columns) (l : List ℕ) → length (joined node_bytes (map (entry_at c) l)) ≡ total (λ k. node_size (get_or c.true_child k 0)) l
nodes-long c l =
    joined-long node_bytes (λ (e : Entry). node_size e.true_child) node-long (map (entry_at c) l) ∙ total-map (λ (e : Entry). node_size e.true_child) (entry_at c) l

tree-long : (c : Columns) (a e : ℕ) → length (tree_bytes (entries_at c a (e - a))) ≡ tree_long c.true_child a e
unfolding tree_bytes tree_long entries_at
tree-long c a e =
    length-append (bytes_of 4 (length (entries_at c a (e - a)))) (joined node_bytes (entries_at c a (e - a)))
    ∙ (λ i. bytes-long 4 (length (entries_at c a (e - a))) i + nodes-long c (from a (e - a)) i)

tree-at-long : (c : Columns) (starts : List ℕ) (t : ℕ) → length (tree_bytes (tree_at c starts t)) ≡ long_at starts c.true_child t
unfolding tree_at
tree-at-long c starts t = tree-long c (get_or starts t 0) (get_or starts (suc t) 0) ∙ ap (λ k. tree_long c.true_child (get_or starts t 0) (get_or starts k 0)) (sym (add-one t))

module _ (F : ForestTable) where
  pub trees-long : length (joined tree_bytes (trees_of F)) ≡ total (long_at F.starts F.nodes.true_child) (from 0 F.trees)
  unfolding trees_of
  trees-long =
      joined-long tree_bytes (λ es. length (tree_bytes es)) (λ es. refl) (trees_of F)
      ∙ total-map (λ es. length (tree_bytes es)) (tree_at F.nodes F.starts) (from 0 F.trees)
      ∙ total-same _ _ (from 0 F.trees) (every-all _ (tree-at-long F.nodes F.starts) (from 0 F.trees))

  pub size-long : (features : ℕ) → length (file_of features (trees_of F)) ≡ file_long F.trees F.starts F.nodes.true_child
  unfolding file_long
  size-long features =
      ap length (file-is features (trees_of F)) ∙ length-append (header_bytes features (length (trees_of F))) (joined tree_bytes (trees_of F))
      ∙ (λ i. header-long features (length (trees_of F)) i + trees-long i)

-- the bytes so far are few
pub sum-few : (starts ys : List ℕ) (t sum one : ℕ) → sum ≤ 9 + 4 * t + 30 * get_or starts t 0 → get_or starts t 0 < get_or starts (t + 1) 0 → one ≡ long_at starts ys t
    → sum + one ≤ 9 + 4 * (t + 1) + 30 * get_or starts (t + 1) 0
sum-few starts ys t sum one h below e = omega (arith, h, below, e, tree-low ys (get_or starts t 0) (get_or starts (t + 1) 0))
