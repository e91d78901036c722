-- How long what is written to a model file is. Assumes nothing.
use Rattle.std.specs.Prelude.{ℕ, ◌+◌, ◌≡◌, refl, Bool, true, false, cond, List, [], ◌∷◌, ◌++◌, length, eqb, Float}
use Rattle.std.proofs.Common.{ap, ◌∙◌, length-append}
use Rattle.rules.specs.Words.{joined, total}
use Rattle.rules.specs.Lent.{Entry}
use Rattle.rules.specs.Bytes.{bytes_of, float_bytes}
use Rattle.rules.specs.Model.{node_bytes, tree_bytes, file_of}
use Rattle.lemmas.specs.ByteNumbers.{bytes-long}
use Rattle.lemmas.specs.FileRead.{header_bytes, file-is}

-- a node, by its true child
unfoldable pub node_size : ℕ → ℕ
node_size y = cond (eqb y 0) 12 30

abbrev pub tree_size : List Entry → ℕ
tree_size es = 4 + total (λ (e : Entry). node_size e.true_child) es

pub float-long : (x : Float) → length (float_bytes x) ≡ 8
unfolding float_bytes
float-long x = bytes-long 8 _

pub joined-long : {A : Type 0} (f : A → List ℕ) (size : A → ℕ) → ((a : A) → length (f a) ≡ size a) → (l : List A) → length (joined f l) ≡ total size l
unfolding joined total
joined-long f size h [] = refl
joined-long f size h (a ∷ l) = length-append (f a) (joined f l) ∙ (λ i. h a i + joined-long f size h l i)

pub node-long : (e : Entry) → length (node_bytes e) ≡ node_size e.true_child
unfolding node_bytes node_size float_bytes bytes_of
node-long e = go (eqb e.true_child 0)
  where
    go : (b : Bool) → length (float_bytes e.value ++ (bytes_of 4 e.true_child ++ cond b [] (bytes_of 2 e.feature ++ (float_bytes e.threshold ++ float_bytes e.score)))) ≡ cond b 12 30
    go true = refl
    go false = refl

pub tree-long : (es : List Entry) → length (tree_bytes es) ≡ tree_size es
unfolding tree_bytes
tree-long es = length-append (bytes_of 4 (length es)) (joined node_bytes es) ∙ (λ i. bytes-long 4 (length es) i + joined-long node_bytes _ node-long es i)

pub header-long : (features trees : ℕ) → length (header_bytes features trees) ≡ 9
unfolding bytes_of
header-long features trees = refl

pub file-long : (features : ℕ) (ts : List (List Entry)) → length (file_of features ts) ≡ 9 + total tree_size ts
file-long features ts =
    ap length (file-is features ts) ∙ length-append (header_bytes features (length ts)) (joined tree_bytes ts)
    ∙ (λ i. header-long features (length ts) i + joined-long tree_bytes tree_size tree-long ts i)
