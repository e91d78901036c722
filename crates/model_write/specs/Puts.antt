-- What is put where: node by node, and tree by tree. Assumes nothing.
use Rattle.std.specs.Prelude.{ℕ, suc, ◌+◌, ◌-◌, ◌<◌, ◌≤◌, ◌≡◌, Float}
use Rattle.std.proofs.Common.{add-one, arith, ◌∙◌, subst, length-append, eq-eqb, ne_eqb}
use Rattle.std.proofs.Math.Path.{refl, sym, ap}
use Rattle.std.proofs.Math.Bool.{cond}
use mathlib.Core.List.{List, [], ◌∷◌, ◌++◌, map, append-nil}
use Rattle.std.proofs.Math.ListN.{length, get_or, length-map}
use Rattle.rules.specs.Words.{from, front, joined}
use Rattle.rules.specs.Lent.{Columns, Entry, shortest, entry_at, entries_at}
use Rattle.rules.specs.Table.{ForestTable, tree_at, trees_of}
use Rattle.rules.specs.Bytes.{bytes_of, float_bytes}
use Rattle.rules.specs.Model.{node_bytes, tree_bytes, file_of}
use Rattle.lemmas.specs.Lists.{length_from}
use Rattle.lemmas.specs.Scans.{from_next, range-end, range_all}
use Rattle.lemmas.specs.Laid.{entries-long}
use Rattle.lemmas.specs.ByteNumbers.{bytes-long}
use Rattle.lemmas.specs.FileRead.{header_bytes, file-is}
use Rattle.lemmas.specs.FileLength.{float-long, node-long, header-long}
use Rattle.lemmas.specs.Spliced.{spliced, spliced-none, spliced-front, spliced-length, spliced-then}
use Rattle.tables.specs.Table.{Lying}
use Rattle.tables.specs.Laws.{start-below, start-inside}
use Rattle.model_write.specs.Sizes.{node-high, leaf-long, split-long}

-- ---- fields

-- what a split says more than a leaf
abbrev pub cut_bytes : ℕ → Float → Float → List ℕ
cut_bytes j t s = bytes_of 2 j ++ (float_bytes t ++ float_bytes s)

-- what node k's split says
abbrev pub cut_at : Columns → ℕ → List ℕ
cut_at c k = cut_bytes (entry_at c k).feature (entry_at c k).threshold (entry_at c k).score

-- all of it
abbrev pub bytes_at : Columns → ℕ → List ℕ
bytes_at c k = node_bytes (entry_at c k)

-- bytes from place at on, and where the next ones come
pub record Put (at : ℕ) (bytes old : List ℕ) (place : ℕ) (new : List ℕ) : Type 0 where
  pub next : place ≡ at + length bytes
  pub file : new ≡ spliced at bytes old

put-length : {at place : ℕ} {bytes old new : List ℕ} → Put at bytes old place new → at + length bytes ≤ length old → length new ≡ length old
put-length {at} {place} {bytes} {old} p h = ap length p.file ∙ spliced-length at bytes old h

pub put_same : {at place : ℕ} {bytes other old new : List ℕ} → bytes ≡ other → Put at bytes old place new → Put at other old place new
put_same {at} {place} {old = old} {new = new} e p = subst (λ l. Put at l old place new) e p

-- ---- fields put one after another

three-put : (at : ℕ) (a b c old : List ℕ) {p q : ℕ} {one two new : List ℕ} → one ≡ spliced at a old → two ≡ spliced p b one → new ≡ spliced q c two → p ≡ at + length a
    → q ≡ p + length b → q ≤ length old → new ≡ spliced at (a ++ (b ++ c)) old
three-put at a b c old {p} {q} {one} x y z d e h =
    spliced-then at a (b ++ c) old x (spliced-then p b c one y z e (omega (arith, h, d, e, long))) d (omega (arith, h, d, e))
  where
    long : length one ≡ length old
    long = ap length x ∙ spliced-length at a old (omega (arith, h, d, e))

pub cut-put : (j : ℕ) (t s : Float) (at : ℕ) (old : List ℕ) {one two new : List ℕ} → one ≡ spliced at (bytes_of 2 j) old → two ≡ spliced (at + 2) (float_bytes t) one
    → new ≡ spliced (at + 10) (float_bytes s) two → at + 18 ≤ length old → new ≡ spliced at (cut_bytes j t s) old
cut-put j t s at old x y z h =
    three-put at (bytes_of 2 j) (float_bytes t) (float_bytes s) old x y z (omega (arith, bytes-long 2 j)) (omega (arith, float-long t)) (omega (arith, h))

pub header-put : (features trees : ℕ) (old : List ℕ) {one two three new : List ℕ} → one ≡ spliced 0 (bytes_of 3 0x464752) old → two ≡ spliced 3 (bytes_of 2 1) one
    → three ≡ spliced 5 (bytes_of 2 features) two → new ≡ spliced 7 (bytes_of 2 trees) three → 9 ≤ length old → new ≡ spliced 0 (header_bytes features trees) old
unfolding bytes_of
header-put features trees old {one} {two} x y z w h =
    three-put 0 (bytes_of 3 0x464752) (bytes_of 2 1) (bytes_of 2 features ++ bytes_of 2 trees) old x y
    (spliced-then 5 (bytes_of 2 features) (bytes_of 2 trees) two z w (omega (arith, bytes-long 2 features)) (omega (arith, bytes-long 2 features, long, h)))
    (omega (arith, bytes-long 3 0x464752)) (omega (arith, bytes-long 2 1)) (omega (arith, h))
  where
    first : length one ≡ length old
    first = ap length x ∙ spliced-length 0 (bytes_of 3 0x464752) old (omega (arith, bytes-long 3 0x464752, h))

    long : length two ≡ length old
    long = ap length y ∙ spliced-length 3 (bytes_of 2 1) one (omega (arith, bytes-long 2 1, first, h)) ∙ first

-- ---- a node

module _ (e : Entry) where
  leaf-bytes : e.true_child ≡ 0 → float_bytes e.value ++ bytes_of 4 e.true_child ≡ node_bytes e
  unfolding node_bytes
  leaf-bytes h =
      ap (λ l. float_bytes e.value ++ l) (sym (append-nil (bytes_of 4 e.true_child)))
      ∙ ap (λ b. float_bytes e.value ++ (bytes_of 4 e.true_child ++ cond b [] (cut_bytes e.feature e.threshold e.score))) (sym (eq-eqb e.true_child 0 h))

  split-bytes : (e.true_child ≡ 0 → ⊥) → float_bytes e.value ++ (bytes_of 4 e.true_child ++ cut_bytes e.feature e.threshold e.score) ≡ node_bytes e
  unfolding node_bytes
  split-bytes h = ap (λ b. float_bytes e.value ++ (bytes_of 4 e.true_child ++ cond b [] (cut_bytes e.feature e.threshold e.score))) (sym (ne_eqb e.true_child 0 h))

  module _ (at : ℕ) (old : List ℕ) {one two : List ℕ} (x : one ≡ spliced at (float_bytes e.value) old) (z : two ≡ spliced (at + 8) (bytes_of 4 e.true_child) one)
      (h : at + length (node_bytes e) ≤ length old) where
    pub leaf-put : e.true_child ≡ 0 → Put at (node_bytes e) old (at + 12) two
    leaf-put n =
        record {
          next = omega (arith, node-long e, leaf-long e.true_child n);
          file = spliced-then at (float_bytes e.value) (bytes_of 4 e.true_child) old x z (omega (arith, float-long e.value))
              (omega (arith, float-long e.value, h, node-long e, node-high e.true_child))
              ∙ ap (λ l. spliced at l old) (leaf-bytes n);
        }

    pub split-put : {new : List ℕ} → (e.true_child ≡ 0 → ⊥) → new ≡ spliced (at + 12) (cut_bytes e.feature e.threshold e.score) two → Put at (node_bytes e) old (at + 30) new
    split-put n w =
        record {
          next = omega (arith, node-long e, split-long e.true_child n);
          file = three-put at (float_bytes e.value) (bytes_of 4 e.true_child) (cut_bytes e.feature e.threshold e.score) old x z w (omega (arith, float-long e.value))
              (omega (arith, bytes-long 4 e.true_child)) (omega (arith, h, node-long e, node-high e.true_child))
              ∙ ap (λ l. spliced at l old) (split-bytes n);
        }

-- ---- one after another: what the numbers from i up to e are written as

module _ (g : ℕ → List ℕ) (e : ℕ) where
  unfoldable pub left : ℕ → List ℕ
  left i = joined g (from i (e - i))

  left-next : (i : ℕ) → i < e → left i ≡ g i ++ left (i + 1)
  unfolding left joined
  left-next i h = ap (joined g) (from_next i e h)

  left-none : (i : ℕ) → e ≤ i → left i ≡ []
  unfolding left joined
  left-none i h = ap (joined g) (range-end i i e h)

  -- with what is left, put from place spot on, the file comes to what it comes to with all
  pub record Putting (at a : ℕ) (old : List ℕ) (spot i : ℕ) (new : List ℕ) : Type 0 where
    pub long : length new ≡ length old
    pub place : spot + length (left i) ≡ at + length (left a)
    pub file : spliced spot (left i) new ≡ spliced at (left a) old

  pub putting-starts : (at a : ℕ) (old : List ℕ) → Putting at a old at a old
  putting-starts at a old = record { long = refl; place = refl; file = refl }

  module _ {at a : ℕ} {old : List ℕ} {spot i : ℕ} {mid : List ℕ} (so : Putting at a old spot i mid) where
    pub putting-room : i < e → at + length (left a) ≤ length old → spot + length (g i) ≤ length mid
    putting-room h room = omega (arith, room, so.long, so.place, ap length (left-next i h), length-append (g i) (left (i + 1)))

    pub putting-goes : {next : ℕ} {new : List ℕ} → i < e → at + length (left a) ≤ length old → Put spot (g i) mid next new → Putting at a old next (i + 1) new
    putting-goes {next} {new} h room put =
        record {
          long = put-length put (putting-room h room) ∙ so.long;
          place = omega (arith, so.place, put.next, ap length (left-next i h), length-append (g i) (left (i + 1)));
          file = spliced-then spot (g i) (left (i + 1)) mid put.file refl put.next (putting-room h room) ∙ ap (λ l. spliced spot l mid) (sym (left-next i h)) ∙ so.file;
        }

    pub putting-ends : e ≤ i → Put at (left a) old spot mid
    putting-ends h =
        record {
          next = omega (arith, so.place, ap length (left-none i h));
          file = sym (ap (λ l. spliced spot l mid) (left-none i h) ∙ spliced-none spot mid) ∙ so.file;
        }

joined-mapped : {A B : Type 0} (f : B → List ℕ) (g : A → B) (l : List A) → joined f (map g l) ≡ joined (λ x. f (g x)) l
unfolding joined
joined-mapped f g [] = refl
joined-mapped f g (x ∷ l) = ap (λ r. f (g x) ++ r) (joined-mapped f g l)

-- ---- nodes, and a tree

-- what the nodes from place a up to place e are written as
abbrev pub nodes_on : Columns → ℕ → ℕ → List ℕ
nodes_on c e a = left (bytes_at c) e a

pub record NodesFit (at a e : ℕ) (c : Columns) (file : List ℕ) : Type 0 where
  pub inside : e ≤ shortest c
  pub room : at + length (nodes_on c e a) ≤ length file

pub record TreeFits (at a e : ℕ) (c : Columns) (file : List ℕ) : Type 0 where
  pub order : a ≤ e
  pub inside : e ≤ shortest c
  pub room : at + length (tree_bytes (entries_at c a (e - a))) ≤ length file

tree-bytes : (c : Columns) (a e : ℕ) → bytes_of 4 (e - a) ++ nodes_on c e a ≡ tree_bytes (entries_at c a (e - a))
unfolding tree_bytes left entries_at
tree-bytes c a e = λ i. bytes_of 4 (sym (entries-long c a (e - a)) i) ++ sym (joined-mapped node_bytes (entry_at c) (from a (e - a))) i

tree-high : (c : Columns) (a e : ℕ) → length (tree_bytes (entries_at c a (e - a))) ≡ 4 + length (nodes_on c e a)
tree-high c a e = omega (arith, ap length (tree-bytes c a e), length-append (bytes_of 4 (e - a)) (nodes_on c e a), bytes-long 4 (e - a))

module _ {at a e : ℕ} {c : Columns} {old : List ℕ} (h : TreeFits at a e c old) where
  pub count_room : at + 4 ≤ length old
  count_room = omega (arith, h.room, tree-high c a e)

  module _ {mid : List ℕ} (x : mid ≡ spliced at (bytes_of 4 (e - a)) old) where
    pub nodes-fit : NodesFit (at + 4) a e c mid
    nodes-fit =
        record {
          inside = h.inside;
          room = omega (arith, h.room, tree-high c a e, ap length x, spliced-length at (bytes_of 4 (e - a)) old (omega (arith, count_room, bytes-long 4 (e - a))));
        }

    pub tree-put : {next : ℕ} {new : List ℕ} → Put (at + 4) (nodes_on c e a) mid next new → Put at (tree_bytes (entries_at c a (e - a))) old next new
    tree-put p =
        record {
          next = omega (arith, p.next, tree-high c a e);
          file = spliced-then at (bytes_of 4 (e - a)) (nodes_on c e a) old x p.file (omega (arith, bytes-long 4 (e - a)))
              (omega (arith, count_room, bytes-long 4 (e - a)))
              ∙ ap (λ l. spliced at l old) (tree-bytes c a e);
        }

-- ---- trees, and the file

-- what tree t is written as
abbrev pub tree_bytes_at : ForestTable → ℕ → List ℕ
tree_bytes_at F t = tree_bytes (tree_at F.nodes F.starts t)

-- good starts, and room for what the trees are written as
pub record FileFits (F : ForestTable) (file : List ℕ) : Type 0 where
  pub lying : Lying F
  pub room : 9 + length (joined tree_bytes (trees_of F)) ≤ length file

module _ (F : ForestTable) where
  pub trees-left : joined tree_bytes (trees_of F) ≡ left (tree_bytes_at F) F.trees 0
  unfolding trees_of left
  trees-left = joined-mapped tree_bytes (tree_at F.nodes F.starts) (from 0 F.trees) ∙ ap (joined (tree_bytes_at F)) (range_all 0 F.trees)

  pub trees-room : {file : List ℕ} → FileFits F file → 9 + length (left (tree_bytes_at F) F.trees 0) ≤ length file
  trees-room h = omega (arith, h.room, ap length trees-left)

  -- tree t, by its two starts
  module _ (t : ℕ) {a e : ℕ} (p : a ≡ get_or F.starts t 0) (q : e ≡ get_or F.starts (t + 1) 0) where
    pub tree_is : tree_bytes (entries_at F.nodes a (e - a)) ≡ tree_bytes_at F t
    unfolding tree_at
    tree_is = λ i. tree_bytes (entries_at F.nodes (p i) ((q ∙ ap (λ k. get_or F.starts k 0) (add-one t)) i - p i))

    pub tree-fits : {spot : ℕ} {mid : List ℕ} → Lying F → t < F.trees → spot + length (tree_bytes_at F t) ≤ length mid → TreeFits spot a e F.nodes mid
    tree-fits h b room =
        record {
          order = omega (arith, p, q, start-below F h t b, next);
          inside = omega (arith, q, start-inside F h t b, next);
          room = omega (arith, room, ap length tree_is);
        }
      where
        next : get_or F.starts (t + 1) 0 ≡ get_or F.starts (suc t) 0
        next = ap (λ k. get_or F.starts k 0) (add-one t)

  file-bytes : (features : ℕ) → header_bytes features F.trees ++ joined tree_bytes (trees_of F) ≡ file_of features (trees_of F)
  unfolding trees_of
  file-bytes features = ap (λ n. header_bytes features n ++ joined tree_bytes (trees_of F)) (sym many) ∙ sym (file-is features (trees_of F))
    where
      many : length (trees_of F) ≡ F.trees
      many = length-map (from 0 F.trees) (tree_at F.nodes F.starts) ∙ length_from 0 F.trees

  module _ (features : ℕ) {old mid : List ℕ} (h : FileFits F old) (x : mid ≡ spliced 0 (header_bytes features F.trees) old) where
    header-room : 0 + length (header_bytes features F.trees) ≤ length old
    header-room = omega (arith, h.room, header-long features F.trees)

    pub trees-fit : FileFits F mid
    trees-fit = record { lying = h.lying; room = omega (arith, h.room, ap length x, spliced-length 0 (header_bytes features F.trees) old header-room) }

    pub file-put : {new : List ℕ} → new ≡ spliced 9 (joined tree_bytes (trees_of F)) mid → new ≡ front (file_of features (trees_of F)) old
    file-put y =
        spliced-then 0 (header_bytes features F.trees) (joined tree_bytes (trees_of F)) old x y (omega (arith, header-long features F.trees)) header-room
        ∙ ap (λ l. spliced 0 l old) (file-bytes features)
        ∙ spliced-front (file_of features (trees_of F)) old
