-- How long a model file is: 9 bytes, 4 for each tree, 12 for each leaf and 30 for each split. And each number that is written is a byte, as the reader of files is asked. Assumes nothing.
use Rattle.std.specs.Prelude.{ℕ, ◌+◌, ◌≡◌, Bool, true, false, cond, List, [], ◌∷◌, ◌++◌, length, eqb, Float}
use Rattle.std.proofs.Common.{arith}
use Rattle.rules.specs.Words.{joined, total}
use Rattle.rules.specs.Lent.{Entry}
use Rattle.rules.specs.Bytes.{bytes_of, float_bytes}
use Rattle.rules.specs.Model.{node_bytes, tree_bytes, file_of}
use Rattle.lemmas.specs.Lists.{Every, every_append}
use Rattle.lemmas.specs.ByteNumbers.{Byte, bytes-are, pattern_of}
use Rattle.lemmas.specs.FileLength.{tree_size, file-long}

-- ---- the statements

abbrev pub FileSize : Type 0
FileSize = (features : ℕ) (ts : List (List Entry)) → length (file_of features ts) ≡ 9 + total tree_size ts

abbrev pub FileBytes : Type 0
FileBytes = (features : ℕ) (ts : List (List Entry)) → Every Byte (file_of features ts)

-- ---- proved

pub file-size : FileSize
file-size features ts = file-long features ts

joined_bytes : {A : Type 0} (f : A → List ℕ) → ((a : A) → Every Byte (f a)) → (l : List A) → Every Byte (joined f l)
unfolding joined
joined_bytes f h [] = tt
joined_bytes f h (a ∷ l) = every_append Byte (f a) (joined f l) (h a) (joined_bytes f h l)

float-bytes : (x : Float) → Every Byte (float_bytes x)
unfolding float_bytes
float-bytes x = bytes-are 8 (pattern_of x)

node-bytes : (e : Entry) → Every Byte (node_bytes e)
unfolding node_bytes
node-bytes e = every_append Byte (float_bytes e.value) _ (float-bytes e.value) (every_append Byte (bytes_of 4 e.true_child) _ (bytes-are 4 e.true_child) (go (eqb e.true_child 0)))
  where
    go : (b : Bool) → Every Byte (cond b [] (bytes_of 2 e.feature ++ (float_bytes e.threshold ++ float_bytes e.score)))
    go true = tt
    go false = every_append Byte (bytes_of 2 e.feature) _ (bytes-are 2 e.feature) (every_append Byte (float_bytes e.threshold) _ (float-bytes e.threshold) (float-bytes e.score))

tree-bytes : (es : List Entry) → Every Byte (tree_bytes es)
unfolding tree_bytes
tree-bytes es = every_append Byte (bytes_of 4 (length es)) (joined node_bytes es) (bytes-are 4 (length es)) (joined_bytes node_bytes node-bytes es)

pub file-bytes : FileBytes
unfolding file_of
file-bytes features ts = (
  omega arith,
  (
    omega arith,
    (
      omega arith,
      every_append Byte (bytes_of 2 1) _ (bytes-are 2 1)
          (every_append Byte (bytes_of 2 features) _ (bytes-are 2 features) (every_append Byte (bytes_of 2 (length ts)) _ (bytes-are 2 (length ts)) (joined_bytes tree_bytes tree-bytes ts))),
    ),
  ),
)
