-- A forest's sums tree by tree, and the means. Assumes nothing.
use Prim.Native.Nat.{ℕ, zero, suc, ◌+◌, ◌-◌, ◌*◌, ◌<◌, ◌≤◌}
use Rattle.std.proofs.Common.{zero-add, add-one, ◌∙◌}
use native.Mathlib.Omega.{arith}
use Rattle.std.specs.Prelude.{◌≡◌, Bool, cond, List, [], ◌∷◌, map, length, get_or, Float}
use Rattle.std.proofs.Math.Path.{refl, sym, ap}
use Rattle.std.proofs.Math.Bool.{true, false}
use Rattle.std.specs.Float.Ieee.{binary64, add, div}
use Rattle.rules.specs.declared.Shape.{Shape}
use Rattle.means.specs.declared.sums.Sample.{Sample}
use Rattle.means.specs.declared.sums.Tree.{Tree}
use Rattle.rules.specs.Words.{nought, float, from, put_if, total, filled}
use Rattle.rules.specs.Lent.{Entry, values_at, entries_at}
use Rattle.rules.specs.Slices.{columns_in}
use Rattle.rules.specs.Table.{ForestTable, tree_at, trees_of}
use Rattle.rules.specs.Reading.{leaf_value, add_trees, mean_of}
use Rattle.rules.specs.OutOfBag.{out_trees, out_of_bag_mean}
use Rattle.lemmas.specs.Scans.{range-next, range-end, range_all}
use Rattle.tables.specs.Table.{TreeLies, TreesLie}
use Rattle.tables.specs.Laws.{tree-lies}
use Rattle.walks.specs.Walks.{Readable, leaf_at}
use Rattle.bags.specs.Bags.{is_out, out_mark, out_number, out-beyond}
use Rattle.means.specs.Rows.{rewritten, length-rewritten, rewritten-twice, rewritten-same, rewritten-kept, rewritten-all, rewritten-filled}

-- a tree taken in, where its count is 0
abbrev pub with_tree : List ℕ → ℕ → (ℕ → Float) → ℕ → Float → Float
with_tree counts base f k x = cond (is_out counts (base + k)) (add binary64 x (f k)) x

-- without counts it is taken in everywhere
pub taken_in : (counts : List ℕ) → length counts ≡ 0 → (base : ℕ) (f : ℕ → Float) (k : ℕ) (x : Float) → add binary64 x (f k) ≡ with_tree counts base f k x
taken_in counts h base f k x = sym (ap (λ b. cond b (add binary64 x (f k)) x) (out-beyond counts (base + k) (omega arith)))

-- what row i comes to in a tree, and its sum once the tree is taken in
abbrev pub leaf_in : Sample → Tree → ℕ → Float
leaf_in s t = leaf_at s.shape.features s.values.now (entries_at (columns_in t.table) t.a t.n)

abbrev pub with_tree_of : Sample → Tree → ℕ → Float → Float
with_tree_of s t = with_tree s.counts.now t.base (leaf_in s t)

-- and the trees from tree t on
abbrev pub summed : ℕ → ℕ → List Float → List ℕ → ℕ → List (List Entry) → ℕ → Float → Float
summed rows features xs counts t ts k x = add_trees x (out_trees rows counts k t ts) (values_at features xs k)

-- ---- what the sums ask

pub record Countable (base : ℕ) : Type 0 where
  pub low : base ≤ 67107840

-- a good tree, and values and places of all rows
abbrev pub TreeReadable : Sample → Tree → List Float → Type 0
TreeReadable s t out = Readable s.shape.rows s.shape.features t.a t.n s.values.now (columns_in t.table) out

-- a good forest, and values and places of all rows
pub record ForestReadable (rows features : ℕ) (xs : List Float) (F : ForestTable) (out : List Float) : Type 0 where
  pub trees : TreesLie features F
  pub some : 0 < features
  pub few : rows ≤ 65535
  pub long : length xs ≡ rows * features
  pub room : length out ≡ rows

-- ---- counts

module _ (rows : ℕ) (counts : List ℕ) (i : ℕ) where
  one_more : (b : Bool) (es : List Entry) (ts : List (List Entry)) → length (put_if b es ts) ≡ cond b 1 0 + length ts
  unfolding put_if
  one_more true es ts = up (length ts)
    where
      up : (n : ℕ) → suc n ≡ 1 + n
      up n = omega arith
  one_more false es ts = sym (zero-add (length ts))

  out-length : (g : ℕ → List Entry) (t n : ℕ) → length (out_trees rows counts i t (map g (from t n))) ≡ total (out_mark rows counts i) (from t n)
  unfolding out_trees from total
  out-length g t zero = refl
  out-length g t (suc n) = one_more (is_out counts (t * rows + i)) (g t) _ ∙ ap (λ m. out_mark rows counts i t + m) (out-length g (suc t) n)

-- without counts it is all trees
pub out-all : (rows i t : ℕ) (ts : List (List Entry)) → out_trees rows [] i t ts ≡ ts
unfolding out_trees put_if
out-all rows i t [] = refl
out-all rows i t (es ∷ ts) = ap (λ l. es ∷ l) (out-all rows i (suc t) ts)

-- ---- tree by tree

module _ (rows features : ℕ) (xs : List Float) (counts : List ℕ) (F : ForestTable) where
  abbrev pub tree : ℕ → List Entry
  tree = tree_at F.nodes F.starts

  -- from tree t on
  abbrev pub sums_on : ℕ → ℕ → Float → Float
  sums_on t = summed rows features xs counts t (map tree (from t (F.trees - t)))

  abbrev pub sums_all : ℕ → Float → Float
  sums_all = summed rows features xs counts 0 (trees_of F)

  taken : (b : Bool) (x : Float) (es : List Entry) (ts : List (List Entry)) (vs : List Float) → add_trees x (put_if b es ts) vs ≡ add_trees (cond b (add binary64 x (leaf_value es vs)) x) ts vs
  unfolding put_if add_trees
  taken true x es ts vs = refl
  taken false x es ts vs = refl

  sums_next : (t : ℕ) → t < F.trees → (k : ℕ) (x : Float) → sums_on t k x ≡ sums_on (t + 1) k (with_tree counts (t * rows) (leaf_at features xs (tree t)) k x)
  unfolding out_trees
  sums_next t h k x =
      ap (λ l. summed rows features xs counts t (map tree l) k x) (range-next t t F.trees h)
      ∙ taken (is_out counts (t * rows + k)) x (tree t) (out_trees rows counts k (suc t) (map tree (from (suc t) (F.trees - (t + 1))))) (values_at features xs k)
      ∙ ap (λ m. summed rows features xs counts m (map tree (from m (F.trees - (t + 1)))) k (with_tree counts (t * rows) (leaf_at features xs (tree t)) k x)) (sym (add-one t))

  -- the room at tree t: with the trees that are left it comes to what it comes to with all
  pub record Adding (old : List Float) (t : ℕ) (room : List Float) : Type 0 where
    pub within : t ≤ F.trees
    pub long : length room ≡ length old
    pub same : rewritten sums_all 0 rows old ≡ rewritten (sums_on t) 0 rows room

  pub tree-first : (old : List Float) → Adding old 0 old
  unfolding trees_of
  tree-first old = record { within = omega arith; long = refl; same = ap (λ l. rewritten (summed rows features xs counts 0 (map tree l)) 0 rows old) (range_all 0 F.trees) }

  pub tree-next : (old room new : List Float) (t : ℕ) → t < F.trees → Adding old t room
      → new ≡ rewritten (with_tree counts (t * rows) (leaf_at features xs (tree t))) 0 rows room → Adding old (t + 1) new
  tree-next old room new t h r e =
      record {
        within = omega (arith, h);
        long = ap length e ∙ length-rewritten (with_tree counts (t * rows) (leaf_at features xs (tree t))) 0 rows room ∙ r.long;
        same = r.same ∙ rewritten-same (sums_on t) (λ k x. sums_on (t + 1) k (with_tree counts (t * rows) (leaf_at features xs (tree t)) k x)) 0 rows room (sums_next t h)
            ∙ sym (rewritten-twice (sums_on (t + 1)) (with_tree counts (t * rows) (leaf_at features xs (tree t))) 0 rows room)
            ∙ ap (rewritten (sums_on (t + 1)) 0 rows) (sym e);
      }

  pub tree-last : (old room : List Float) (t : ℕ) → F.trees ≤ t → Adding old t room → room ≡ rewritten sums_all 0 rows old
  unfolding out_trees add_trees
  tree-last old room t h r =
      sym (r.same ∙ ap (λ l. rewritten (summed rows features xs counts t (map tree l)) 0 rows room) (range-end t t F.trees h) ∙ rewritten-kept 0 rows room)

-- cleared, summed and divided
module _ (S : Shape) (xs : List Float) (counts : List ℕ) (F : ForestTable) where
  abbrev sums : ℕ → Float → Float
  sums = sums_all S.rows S.features xs counts F

  abbrev numbers : ℕ → Float
  numbers k = float (out_number S.rows F.trees counts k)

  mean-is : (k : ℕ) → div binary64 (sums k nought) (numbers k) ≡ out_of_bag_mean S xs counts F k
  unfolding out_of_bag_mean mean_of trees_of
  mean-is k = ap (λ n. div binary64 (sums k nought) (float n)) (sym (out-length S.rows counts k (tree_at F.nodes F.starts) 0 F.trees))

  pub means-are : (old : List Float) → length old ≡ S.rows
      → rewritten (λ k x. div binary64 x (numbers k)) 0 S.rows (rewritten sums 0 S.rows (filled nought old))
      ≡ map (out_of_bag_mean S xs counts F) (from 0 S.rows)
  means-are old h =
      ap (λ l. rewritten (λ k x. div binary64 x (numbers k)) 0 S.rows (rewritten sums 0 S.rows l)) (sym (rewritten-filled nought 0 S.rows old h))
      ∙ rewritten-twice (λ k x. div binary64 x (numbers k)) sums 0 S.rows (rewritten (λ k x. nought) 0 S.rows old)
      ∙ rewritten-twice (λ k x. div binary64 (sums k x) (numbers k)) (λ k x. nought) 0 S.rows old
      ∙ rewritten-same (λ k x. div binary64 (sums k nought) (numbers k)) (λ k x. out_of_bag_mean S xs counts F k) 0 S.rows old (λ k x. mean-is k)
      ∙ rewritten-all (out_of_bag_mean S xs counts F) 0 S.rows old h

-- tree t of a good forest
pub tree-at : (rows features : ℕ) (xs : List Float) (F : ForestTable) (out : List Float) → ForestReadable rows features xs F out → (t : ℕ) → t < F.trees
    → TreeLies features (get_or F.starts t 0) (get_or F.starts (t + 1) 0 - get_or F.starts t 0) F.nodes
tree-at rows features xs F out r t h = tree-lies features F r.trees t h refl (ap (λ m. get_or F.starts m 0) (add-one t))
