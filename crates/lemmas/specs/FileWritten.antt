-- What is written to a file is read from it: where the bytes of a good node, tree or forest lie, a file says it, with a leaf's unused fields 0. Assumes nothing.
use Prim.Native.Nat.{ℕ, suc, ◌+◌, ◌^◌, ◌<◌, ◌≤◌}
use Rattle.std.proofs.Common.{zero-add, arith, sym, ap, ◌∙◌, leb→le, le→leb, lt→ltb, lit<}
use Rattle.std.specs.Prelude.{◌≡◌, Bool, ◌&&◌, ◌||◌, cond, leb}
use Rattle.std.proofs.Math.Path.{refl, subst}
use Rattle.std.proofs.Math.Bool.{true, false}
use mathlib.Core.List.{List, [], ◌∷◌, ◌++◌, map, append_assoc}
use Rattle.std.proofs.Math.ListN.{length}
use Rattle.std.proofs.Math.Dec.{T, ltb, eqb, ltb→lt, eqb→eq}
use Rattle.std.specs.Float.Ieee.Fits.{and_l, and_r, and_i}
use borrow.Author.Tests.{ne_eqb, eq-eqb}
use Rattle.rules.specs.Words.{every, joined, total}
use Rattle.rules.specs.Lent.{Entry, leaf_entry}
use Rattle.rules.specs.Checks.{within, features_in, trees_in}
use Rattle.rules.specs.Table.{is_leaf, good_entry, good_from, good_tree}
use Rattle.rules.specs.Bytes.{bytes_of, number_in, float_bytes, float_of}
use Rattle.rules.specs.Model.{mark, node_bytes, tree_bytes, file_of, says, wrong, field, float_at, header_in, child_good, split_at, node_at, before, nodes_at, count_good, trees_at, model_in}
use Rattle.lemmas.specs.Lists.{or-other, Every}
use Rattle.lemmas.specs.Passed.{and2, and4}
use Rattle.lemmas.specs.ByteNumbers.{pattern_of, float_back}
use Rattle.lemmas.specs.Lies.{Lies, lies_whole, lies-front, lies-rest, after_both}
use Rattle.lemmas.specs.Fields.{goes_on, Reads, reads_then, reads-last, reads_nothing, reads_before, field-written, float-written}
use Rattle.lemmas.specs.Seen.{seen, EntryFits}
use Rattle.lemmas.specs.FileRead.{header_bytes, file-is}

module _ (bs : List ℕ) (features : ℕ) (wide : features ≤ 1024) where
  -- ---- a node

  -- its first field, and its second
  node-head : (n k : ℕ) (e : Entry) (d : Entry) (x : List ℕ) → EntryFits e → e.true_child < 256 ^ 4 → T (child_good n k e.true_child)
      → Reads bs (λ at. cond (eqb e.true_child 0) (says (leaf_entry (float_of (pattern_of e.value))) at) (split_at bs features (pattern_of e.value) e.true_child at)) x d
      → Reads bs (node_at bs features n k) (float_bytes e.value ++ (bytes_of 4 e.true_child ++ x)) d
  unfolding node_at
  node-head n k e d x fit below child rest =
      reads_then bs (float_at bs) _ (float_bytes e.value) (bytes_of 4 e.true_child ++ x) (pattern_of e.value) d (float-written bs e.value fit.value)
      (reads_then bs (field bs 4 16 (child_good n k)) _ (bytes_of 4 e.true_child) x e.true_child d (field-written bs 4 16 (child_good n k) e.true_child below child) rest)

  split-written : (e : Entry) → EntryFits e → e.feature < features → e.false_child ≡ suc e.true_child
      → Reads bs (split_at bs features (pattern_of e.value) e.true_child) (bytes_of 2 e.feature ++ (float_bytes e.threshold ++ float_bytes e.score)) e
  unfolding split_at
  split-written e fit known next =
      subst (λ d. Reads bs (split_at bs features (pattern_of e.value) e.true_child) (bytes_of 2 e.feature ++ (float_bytes e.threshold ++ float_bytes e.score)) d) same
      (reads_then bs (field bs 2 16 (λ j. ltb j features)) _ (bytes_of 2 e.feature) _ e.feature _
      (field-written bs 2 16 (λ j. ltb j features) e.feature (omega (arith, known, wide)) (lt→ltb e.feature features known))
      (reads_then bs (float_at bs) _ (float_bytes e.threshold) (float_bytes e.score) (pattern_of e.threshold) _ (float-written bs e.threshold fit.threshold)
      (reads-last bs (float_at bs) (λ s. made (pattern_of e.threshold) s) (float_bytes e.score) (pattern_of e.score) (float-written bs e.score fit.score))))
    where
      made : ℕ → ℕ → Entry
      made t s =
          record { value = float_of (pattern_of e.value); feature = e.feature; threshold = float_of t; score = float_of s; true_child = e.true_child; false_child = suc e.true_child }

      same : made (pattern_of e.threshold) (pattern_of e.score) ≡ e
      same =
          λ i.
          record {
            value = float_back e.value fit.value i;
            feature = e.feature;
            threshold = float_back e.threshold fit.threshold i;
            score = float_back e.score fit.score i;
            true_child = e.true_child;
            false_child = sym next i;
          }

  abbrev node_rest : Entry → List ℕ
  node_rest e = bytes_of 2 e.feature ++ (float_bytes e.threshold ++ float_bytes e.score)

  -- what follows the true child, by whether there is one
  abbrev Follows : Entry → Bool → Entry → Type 0
  Follows e b d =
      Reads bs (λ at. cond b (says (leaf_entry (float_of (pattern_of e.value))) at) (split_at bs features (pattern_of e.value) e.true_child at)) (cond b [] (node_rest e)) d

  leaf-child : (e : Entry) → is_leaf e ≡ true → e.true_child ≡ 0
  unfolding is_leaf
  leaf-child e q = eqb→eq e.true_child 0 (and_l (eqb e.true_child 0) (eqb e.false_child 0) (subst T (sym q) tt))

  leaf-follows : (e : Entry) → EntryFits e → Follows e true (leaf_entry e.value)
  leaf-follows e fit = subst (λ v. Reads bs (says (leaf_entry v)) [] (leaf_entry e.value)) (sym (float_back e.value fit.value)) (reads_nothing bs (leaf_entry e.value))

  pub node-written : (n k : ℕ) (e : Entry) → n ≤ 4294967295 → T (good_entry features n k e) → EntryFits e → Reads bs (node_at bs features n k) (node_bytes e) (seen e)
  unfolding node_bytes good_entry child_good
  node-written n k e few good fit = go (is_leaf e) refl
    where
      go : (b : Bool) → is_leaf e ≡ b → Reads bs (node_at bs features n k) (node_bytes e) (cond b (leaf_entry e.value) e)
      go true q =
          let none : e.true_child ≡ 0 = leaf-child e q in
          let test : eqb e.true_child 0 ≡ true = eq-eqb e.true_child 0 none in
          node-head n k e (leaf_entry e.value) (cond (eqb e.true_child 0) [] (node_rest e)) fit (subst (λ y. y < 256 ^ 4) (sym none) (lit< tt))
          (subst (λ b. T (b || (ltb k e.true_child && ltb (suc e.true_child) n))) (sym test) tt) (subst (λ b. Follows e b (leaf_entry e.value)) (sym test) (leaf-follows e fit))
      go false q =
          let (above, next, inside, known) = and4 (ltb k e.true_child) (eqb e.false_child (suc e.true_child)) (ltb e.false_child n) (ltb e.feature features)
          (or-other (is_leaf e) _ q good) in
          let f : e.false_child ≡ suc e.true_child = eqb→eq e.false_child (suc e.true_child) next in
          let low : k < e.true_child = ltb→lt k e.true_child above in
          let top : e.false_child < n = ltb→lt e.false_child n inside in
          let test : eqb e.true_child 0 ≡ false = ne_eqb e.true_child 0 (λ z. absurd (omega (arith, z, low))) in
          node-head n k e e (cond (eqb e.true_child 0) [] (node_rest e)) fit (omega (arith, f, top, few))
          (subst (λ b. T (b || (ltb k e.true_child && ltb (suc e.true_child) n))) (sym test)
          (and_i (ltb k e.true_child) (ltb (suc e.true_child) n) above (subst (λ z. T (ltb z n)) f inside)))
          (subst (λ b. Follows e b e) (sym test) (split-written e fit (ltb→lt e.feature features known) f))

  -- ---- the nodes of a tree

  pub nodes-written : (n k : ℕ) (es : List Entry) → n ≤ 4294967295 → T (good_from features n k es) → Every EntryFits es
      → Reads bs (nodes_at bs features n k (length es)) (joined node_bytes es) (map seen es)
  unfolding nodes_at joined good_from
  nodes-written n k [] few good fit = reads_nothing bs []
  nodes-written n k (e ∷ es) few good fit =
      let (one, others) = and2 (good_entry features n k e) (good_from features n (suc k) es) good in
      reads_then bs (node_at bs features n k) (λ d at. before d (nodes_at bs features n (suc k) (length es) at)) (node_bytes e) (joined node_bytes es) (seen e) (map seen (e ∷ es))
      (node-written n k e few one fit.0)
      (reads_before bs (seen e) (nodes_at bs features n (suc k) (length es)) (joined node_bytes es) (map seen es) (nodes-written n (suc k) es few others fit.1))

  -- ---- the trees

  pub trees-written : (sofar : ℕ) (ts : List (List Entry)) → sofar + total length ts ≤ 4294967295 → T (every (good_tree features) ts) → Every (Every EntryFits) ts
      → Reads bs (trees_at bs features sofar (length ts)) (joined tree_bytes ts) (map (map seen) ts)
  unfolding trees_at joined every total tree_bytes good_tree count_good
  trees-written sofar [] few good fit = reads_nothing bs []
  trees-written sofar (t ∷ ts) few good fit =
      let n = length t in
      let (one, others) = and2 (good_tree features t) (every (good_tree features) ts) good in
      let (some, nodes) = and2 (ltb 0 n) (good_from features n 0 t) one in
      subst (λ x. Reads bs (trees_at bs features sofar (suc (length ts))) x (map (map seen) (t ∷ ts))) (sym (append_assoc (bytes_of 4 n) (joined node_bytes t) (joined tree_bytes ts)))
      (reads_then bs (field bs 4 16 (count_good sofar)) _ (bytes_of 4 n) (joined node_bytes t ++ joined tree_bytes ts) n (map (map seen) (t ∷ ts))
      (field-written bs 4 16 (count_good sofar) n (omega (arith, few)) (and_i (leb 1 n) (leb (sofar + n) 4294967295) some (le→leb (sofar + n) 4294967295 (omega (arith, few)))))
      (reads_then bs (nodes_at bs features n 0 n) (λ es at. before es (trees_at bs features (sofar + n) (length ts) at)) (joined node_bytes t) (joined tree_bytes ts) (map seen t) (map (map seen) (t ∷ ts))
      (nodes-written n 0 t (omega (arith, few)) nodes fit.0)
      (reads_before bs (map seen t) (trees_at bs features (sofar + n) (length ts)) (joined tree_bytes ts) (map (map seen) ts)
      (trees-written (sofar + n) ts (omega (arith, few)) others fit.1))))

-- ---- the header

within-below : (n : ℕ) → T (within 1024 n) → n ≤ 1024
unfolding within
within-below n t = leb→le n 1024 (and_r (leb 1 n) (leb n 1024) t)

pub header-written : (bs : List ℕ) (features trees : ℕ) → T (features_in features) → T (trees_in trees) → Lies bs 0 (header_bytes features trees)
    → header_in bs ≡ says (record { features = features; trees = trees }) (0 + length (header_bytes features trees))
unfolding header_in bytes_of number_in
header-written bs features trees f t l =
    reads_then bs (field bs 3 15 (eqb (number_in mark))) _ mark _ (number_in mark) _ (field-written bs 3 15 (eqb (number_in mark)) (number_in mark) (lit< tt) tt)
    (reads_then bs (field bs 2 15 (eqb 1)) _ (bytes_of 2 1) _ 1 _ (field-written bs 2 15 (eqb 1) 1 (lit< tt) tt)
    (reads_then bs (field bs 2 16 features_in) _ (bytes_of 2 features) _ features _ (field-written bs 2 16 features_in features (omega (arith, within-below features f)) f)
    (reads-last bs (field bs 2 16 trees_in) (λ m. record { features = features; trees = m }) (bytes_of 2 trees) trees (field-written bs 2 16 trees_in trees (omega (arith, within-below trees t)) t)))) 0 l

-- ---- the whole

pub model-written : (features : ℕ) (ts : List (List Entry)) → T (features_in features) → T (trees_in (length ts)) → total length ts ≤ 4294967295
    → T (every (good_tree features) ts) → Every (Every EntryFits) ts
    → model_in (file_of features ts) ≡ says (record { features = features; trees = map (map seen) ts }) (length (file_of features ts))
unfolding model_in
model-written features ts f t few good fit =
    goes_on _ (header-written bs features (length ts) f t (lies-front bs 0 head body whole))
    ∙ goes_on _ (trees-written bs features (within-below features f) 0 ts (omega (arith, few)) good fit (0 + length head) (lies-rest bs 0 head body whole))
    ∙ ap (λ at. cond (eqb at (length bs)) (says (record { features = features; trees = map (map seen) ts }) at) (wrong 17 at)) ends
    ∙ ap (λ b. cond b (says (record { features = features; trees = map (map seen) ts }) (length bs)) (wrong 17 (length bs))) (eq-eqb (length bs) (length bs) refl)
  where
    bs : List ℕ
    bs = file_of features ts

    head : List ℕ
    head = header_bytes features (length ts)

    body : List ℕ
    body = joined tree_bytes ts

    whole : Lies bs 0 (head ++ body)
    whole = subst (λ x. Lies bs 0 x) (file-is features ts) (lies_whole bs)

    ends : 0 + length head + length body ≡ length bs
    ends = after_both bs 0 head body ∙ zero-add (length (head ++ body)) ∙ sym (ap length (file-is features ts))
