-- What is read from a file is written there: the bytes of each node, tree and header that a file says lie where they were read. And it is good. Assumes nothing.
use Prim.Native.Nat.{ℕ, zero, suc, ◌+◌, ◌≤◌}
use Rattle.std.proofs.Common.{add-zero, zero-add, arith, ◌∙◌, leb→le, eqb→eq, eqb-true}
use Rattle.std.specs.Prelude.{◌≡◌, Bool, ◌&&◌, ◌||◌, length, leb}
use Rattle.std.proofs.Math.Path.{refl, sym, ap, subst}
use Rattle.std.proofs.Math.Bool.{true, false, cond}
use mathlib.Core.List.{List, [], ◌∷◌, ◌++◌, map}
use Rattle.std.proofs.Math.Dec.{T, ltb, eqb, eqb_refl}
use Rattle.std.specs.Float.Ieee.{binary64}
use Rattle.std.specs.Float.Ieee.Bits.{of_bits-fits}
use Rattle.std.specs.Float.Ieee.Fits.{and_l, and_r, and_i}
use Rattle.rules.specs.Words.{every, joined, total}
use Rattle.rules.specs.Lent.{Entry, leaf_entry}
use Rattle.rules.specs.Checks.{features_in, trees_in}
use Rattle.rules.specs.Table.{is_leaf, good_entry, good_from, good_tree}
use Rattle.rules.specs.Bytes.{bytes_of, number_in, float_bytes, good_pattern, float_of}
use Rattle.rules.specs.Model.{mark, node_bytes, tree_bytes, file_of, says, wrong, Header, header_in, child_good, split_at, node_at, before, nodes_at, count_good, trees_at, Model, model_in}
use Rattle.lemmas.specs.Lists.{or-other, Every}
use Rattle.lemmas.specs.ByteNumbers.{Byte}
use Rattle.lemmas.specs.Lies.{lies-none, lies-all}
use Rattle.lemmas.specs.Fields.{no_says, says_first, says-next, parts, Found, found-then, Met, field-met, met-found, float-met, float-found}
use Rattle.lemmas.specs.Seen.{seen, EntryFits}

-- what stands before the trees
abbrev pub header_bytes : ℕ → ℕ → List ℕ
header_bytes features trees = mark ++ (bytes_of 2 1 ++ (bytes_of 2 features ++ bytes_of 2 trees))

pub file-is : (features : ℕ) (ts : List (List Entry)) → file_of features ts ≡ header_bytes features (length ts) ++ joined tree_bytes ts
unfolding file_of bytes_of
file-is features ts = refl

module _ (bs : List ℕ) where
  -- ---- a node

  pub record NodeRead (features n k at : ℕ) (e : Entry) (end : ℕ) : Type 0 where
    pub found : Every Byte bs → Found bs at (node_bytes e) end
    pub good : T (good_entry features n k e)
    pub plain : seen e ≡ e
    pub fit : EntryFits e
    pub inside : end ≤ length bs

  leaf-read : (features n k at v mid y end : ℕ) → y ≡ 0 → Met bs 8 16 good_pattern at v mid → Met bs 4 16 (child_good n k) mid y end → NodeRead features n k at (leaf_entry (float_of v)) end
  unfolding node_bytes good_entry is_leaf
  leaf-read features n k at v mid y end none mv my =
      record {
        found = λ are. found-then bs at _ mid _ end (float-found bs at v mid are mv)
            (found-then bs mid _ end [] end (subst (λ z. Found bs mid (bytes_of 4 z) end) none (met-found bs 4 16 (child_good n k) mid y end are my))
            (record { lies = lies-none bs end (omega (arith, my.inside, my.next)); ends = sym (add-zero end) }));
        good = tt;
        plain = refl;
        fit = record { value = of_bits-fits binary64 v; threshold = of_bits-fits binary64 0; score = of_bits-fits binary64 0 };
        inside = omega (arith, my.inside, my.next);
      }

  abbrev split_of : ℕ → ℕ → ℕ → ℕ → ℕ → Entry
  split_of v y j t s = record { value = float_of v; feature = j; threshold = float_of t; score = float_of s; true_child = y; false_child = suc y }

  split-is : (features n k at v a y b j c t d s end : ℕ) → eqb y 0 ≡ false → Met bs 8 16 good_pattern at v a → Met bs 4 16 (child_good n k) a y b
      → Met bs 2 16 (λ f. ltb f features) b j c → Met bs 8 16 good_pattern c t d → Met bs 8 16 good_pattern d s end → NodeRead features n k at (split_of v y j t s) end
  unfolding node_bytes good_entry is_leaf child_good
  split-is features n k at v a y b j c t d s end some mv my mj mt ms =
      record {
        found = λ are.
            found-then bs at _ a _ end (float-found bs at v a are mv)
            (found-then bs a _ b _ end (met-found bs 4 16 (child_good n k) a y b are my)
            (subst (λ z. Found bs b (cond z [] rest) end) (sym some)
            (found-then bs b _ c _ end (met-found bs 2 16 (λ f. ltb f features) b j c are mj) (found-then bs c _ d _ end (float-found bs c t d are mt) (float-found bs d s end are ms)))));
        good = subst (λ z. T ((z && eqb (suc y) 0) || ordered)) (sym some) (and_i (ltb k y) _ (and_l (ltb k y) (ltb (suc y) n) child) inner);
        plain = λ i. cond (some i && eqb (suc y) 0) (leaf_entry (float_of v)) (split_of v y j t s);
        fit = record { value = of_bits-fits binary64 v; threshold = of_bits-fits binary64 t; score = of_bits-fits binary64 s };
        inside = omega (arith, ms.inside, ms.next);
      }
    where
      rest : List ℕ
      rest = bytes_of 2 j ++ (float_bytes (float_of t) ++ float_bytes (float_of s))

      child : T (ltb k y && ltb (suc y) n)
      child = or-other (eqb y 0) _ some my.passed

      inner : T (eqb (suc y) (suc y) && (ltb (suc y) n && ltb j features))
      inner = and_i (eqb (suc y) (suc y)) _ (eqb_refl (suc y)) (and_i (ltb (suc y) n) (ltb j features) (and_r (ltb k y) (ltb (suc y) n) child) mj.passed)

      ordered : Bool
      ordered = ltb k y && (eqb (suc y) (suc y) && (ltb (suc y) n && ltb j features))

  split-read : (features n k at v mid y from : ℕ) (e : Entry) (end : ℕ) → eqb y 0 ≡ false → Met bs 8 16 good_pattern at v mid → Met bs 4 16 (child_good n k) mid y from
      → split_at bs features v y from ≡ says e end → NodeRead features n k at e end
  unfolding split_at
  split-read features n k at v mid y from e end some mv my h =
      let p = parts _ _ e end h in
      let q = parts _ _ e end p.two in
      let r = parts _ _ e end q.two in
      subst (λ d. NodeRead features n k at d end) (says_first r.two)
      (subst (λ z. NodeRead features n k at (split_of v y p.said q.said r.said) z) (says-next r.two)
      (split-is features n k at v mid y from p.said p.mid q.said q.mid r.said r.mid some mv my
      (field-met bs 2 16 (λ j. ltb j features) from p.said p.mid p.one) (float-met bs p.mid q.said q.mid q.one) (float-met bs q.mid r.said r.mid r.one)))

  pub node-read : (features n k at : ℕ) (e : Entry) (end : ℕ) → node_at bs features n k at ≡ says e end → NodeRead features n k at e end
  unfolding node_at
  node-read features n k at e end h =
      let p = parts _ _ e end h in
      let q = parts _ _ e end p.two in
      go p.said p.mid q.said q.mid (float-met bs at p.said p.mid p.one) (field-met bs 4 16 (child_good n k) p.mid q.said q.mid q.one) (eqb q.said 0) refl q.two
    where
      go : (v mid y from : ℕ) → Met bs 8 16 good_pattern at v mid → Met bs 4 16 (child_good n k) mid y from → (b : Bool) → eqb y 0 ≡ b
          → cond b (says (leaf_entry (float_of v)) from) (split_at bs features v y from) ≡ says e end → NodeRead features n k at e end
      go v mid y from mv my true s h =
          subst (λ d. NodeRead features n k at d end) (says_first h)
          (subst (λ z. NodeRead features n k at (leaf_entry (float_of v)) z) (says-next h) (leaf-read features n k at v mid y from (eqb-true y 0 s) mv my))
      go v mid y from mv my false s h = split-read features n k at v mid y from e end s mv my h

  -- ---- the nodes of a tree

  pub record NodesRead (features n k m at : ℕ) (es : List Entry) (end : ℕ) : Type 0 where
    pub found : Every Byte bs → Found bs at (joined node_bytes es) end
    pub number : length es ≡ m
    pub good : T (good_from features n k es)
    pub plain : map seen es ≡ es
    pub fit : Every EntryFits es
    pub inside : end ≤ length bs

  no-nodes : (features n k at : ℕ) → at ≤ length bs → NodesRead features n k 0 at [] at
  unfolding joined good_from
  no-nodes features n k at h =
      record { found = λ are. record { lies = lies-none bs at h; ends = sym (add-zero at) }; number = refl; good = tt; plain = refl; fit = tt; inside = h }

  one_more : (features n k m at : ℕ) (e : Entry) (mid : ℕ) (es : List Entry) (end : ℕ) → NodeRead features n k at e mid → NodesRead features n (suc k) m mid es end
      → NodesRead features n k (suc m) at (e ∷ es) end
  unfolding joined good_from
  one_more features n k m at e mid es end h r =
      record {
        found = λ are. found-then bs at (node_bytes e) mid (joined node_bytes es) end (h.found are) (r.found are);
        number = ap suc r.number;
        good = and_i (good_entry features n k e) (good_from features n (suc k) es) h.good r.good;
        plain = λ i. h.plain i ∷ r.plain i;
        fit = (h.fit, r.fit);
        inside = r.inside;
      }

  pub nodes-read : (features n k m at : ℕ) (es : List Entry) (end : ℕ) → at ≤ length bs → nodes_at bs features n k m at ≡ says es end → NodesRead features n k m at es end
  unfolding nodes_at before
  nodes-read features n k zero at es end l h =
      subst (λ d. NodesRead features n k 0 at d end) (says_first h) (subst (λ z. NodesRead features n k 0 at [] z) (says-next h) (no-nodes features n k at l))
  nodes-read features n k (suc m) at es end l h =
      let p = parts _ _ es end h in
      let q = parts (nodes_at bs features n (suc k) m p.mid) (λ d z. says (p.said ∷ d) z) es end p.two in
      let r = node-read features n k at p.said p.mid p.one in
      subst (λ d. NodesRead features n k (suc m) at d end) (says_first q.two)
      (subst (λ z. NodesRead features n k (suc m) at (p.said ∷ q.said) z) (says-next q.two)
      (one_more features n k m at p.said p.mid q.said q.mid r (nodes-read features n (suc k) m p.mid q.said q.mid r.inside q.one)))

  -- ---- the trees

  pub record TreesRead (features sofar m at : ℕ) (ts : List (List Entry)) (end : ℕ) : Type 0 where
    pub found : Every Byte bs → Found bs at (joined tree_bytes ts) end
    pub number : length ts ≡ m
    pub good : T (every (good_tree features) ts)
    pub plain : map (map seen) ts ≡ ts
    pub fit : Every (Every EntryFits) ts
    pub few : sofar ≤ 4294967295 → sofar + total length ts ≤ 4294967295
    pub inside : end ≤ length bs

  no-trees : (features sofar at : ℕ) → at ≤ length bs → TreesRead features sofar 0 at [] at
  unfolding joined every total
  no-trees features sofar at h =
      record {
        found = λ are. record { lies = lies-none bs at h; ends = sym (add-zero at) };
        number = refl;
        good = tt;
        plain = refl;
        fit = tt;
        few = λ g. omega (arith, g);
        inside = h;
      }

  tree-more : (features sofar n m at a : ℕ) (es : List Entry) (b : ℕ) (ts : List (List Entry)) (end : ℕ) → Met bs 4 16 (count_good sofar) at n a → NodesRead features n 0 n a es b
      → TreesRead features (sofar + n) m b ts end → TreesRead features sofar (suc m) at (es ∷ ts) end
  unfolding joined every total tree_bytes count_good good_tree
  tree-more features sofar n m at a es b ts end h e r =
      record {
        found = λ are.
            found-then bs at (tree_bytes es) b (joined tree_bytes ts) end
            (found-then bs at (bytes_of 4 (length es)) a (joined node_bytes es) b
            (subst (λ z. Found bs at (bytes_of 4 z) a) (sym e.number) (met-found bs 4 16 (count_good sofar) at n a are h)) (e.found are))
            (r.found are);
        number = ap suc r.number;
        good = and_i (good_tree features es) (every (good_tree features) ts)
            (subst (λ z. T (ltb 0 z && good_from features z 0 es)) (sym e.number)
            (and_i (ltb 0 n) (good_from features n 0 es) (and_l (leb 1 n) (leb (sofar + n) 4294967295) h.passed) e.good))
            r.good;
        plain = λ i. e.plain i ∷ r.plain i;
        fit = (e.fit, r.fit);
        few = λ g. omega (arith, e.number, r.few (leb→le (sofar + n) 4294967295 (and_r (leb 1 n) (leb (sofar + n) 4294967295) h.passed)));
        inside = r.inside;
      }

  pub trees-read : (features sofar m at : ℕ) (ts : List (List Entry)) (end : ℕ) → at ≤ length bs → trees_at bs features sofar m at ≡ says ts end → TreesRead features sofar m at ts end
  unfolding trees_at before
  trees-read features sofar zero at ts end l h =
      subst (λ d. TreesRead features sofar 0 at d end) (says_first h) (subst (λ z. TreesRead features sofar 0 at [] z) (says-next h) (no-trees features sofar at l))
  trees-read features sofar (suc m) at ts end l h =
      let p = parts _ _ ts end h in
      let q = parts _ _ ts end p.two in
      let r = parts (trees_at bs features (sofar + p.said) m q.mid) (λ d z. says (q.said ∷ d) z) ts end q.two in
      let c = field-met bs 4 16 (count_good sofar) at p.said p.mid p.one in
      let e = nodes-read features p.said 0 p.said p.mid q.said q.mid (omega (arith, c.inside, c.next)) q.one in
      subst (λ d. TreesRead features sofar (suc m) at d end) (says_first r.two)
      (subst (λ z. TreesRead features sofar (suc m) at (q.said ∷ r.said) z) (says-next r.two)
      (tree-more features sofar p.said m at p.mid q.said q.mid r.said r.mid c e
      (trees-read features (sofar + p.said) m q.mid r.said r.mid e.inside r.one)))

  -- ---- the header

  pub record HeaderRead (h : Header) (end : ℕ) : Type 0 where
    pub found : Every Byte bs → Found bs 0 (header_bytes h.features h.trees) end
    pub features : T (features_in h.features)
    pub trees : T (trees_in h.trees)
    pub inside : end ≤ length bs

  header_is : (m a v b f c t end : ℕ) → Met bs 3 15 (eqb (number_in mark)) 0 m a → Met bs 2 15 (eqb 1) a v b → Met bs 2 16 features_in b f c → Met bs 2 16 trees_in c t end
      → HeaderRead (record { features = f; trees = t }) end
  unfolding bytes_of number_in
  header_is m a v b f c t end mm mv mf mt =
      record {
        found = λ are.
            found-then bs 0 mark a _ end
            (subst (λ z. Found bs 0 (bytes_of 3 z) a) (sym (eqb→eq (number_in mark) m mm.passed)) (met-found bs 3 15 (eqb (number_in mark)) 0 m a are mm))
            (found-then bs a (bytes_of 2 1) b _ end (subst (λ z. Found bs a (bytes_of 2 z) b) (sym (eqb→eq 1 v mv.passed)) (met-found bs 2 15 (eqb 1) a v b are mv))
            (found-then bs b (bytes_of 2 f) c (bytes_of 2 t) end (met-found bs 2 16 features_in b f c are mf) (met-found bs 2 16 trees_in c t end are mt)));
        features = mf.passed;
        trees = mt.passed;
        inside = omega (arith, mt.inside, mt.next);
      }

  pub header_read : (h : Header) (end : ℕ) → header_in bs ≡ says h end → HeaderRead h end
  unfolding header_in
  header_read h end e =
      let p = parts _ _ h end e in
      let q = parts _ _ h end p.two in
      let r = parts _ _ h end q.two in
      let s = parts _ _ h end r.two in
      subst (λ g. HeaderRead g end) (says_first s.two)
      (subst (λ z. HeaderRead (record { features = r.said; trees = s.said }) z) (says-next s.two)
      (header_is p.said p.mid q.said q.mid r.said r.mid s.said s.mid (field-met bs 3 15 (eqb (number_in mark)) 0 p.said p.mid p.one)
      (field-met bs 2 15 (eqb 1) p.mid q.said q.mid q.one) (field-met bs 2 16 features_in q.mid r.said r.mid r.one)
      (field-met bs 2 16 trees_in r.mid s.said s.mid s.one)))

  -- ---- the whole

  pub record ModelRead (M : Model) (end : ℕ) : Type 0 where
    pub file : Every Byte bs → file_of M.features M.trees ≡ bs
    pub features : T (features_in M.features)
    pub number : T (trees_in (length M.trees))
    pub good : T (every (good_tree M.features) M.trees)
    pub plain : map (map seen) M.trees ≡ M.trees
    pub fit : Every (Every EntryFits) M.trees
    pub few : total length M.trees ≤ 4294967295
    pub ends : end ≡ length bs

  model_is : (h : Header) (mid : ℕ) (ts : List (List Entry)) (end : ℕ) → HeaderRead h mid → TreesRead h.features 0 h.trees mid ts end → end ≡ length bs
      → ModelRead (record { features = h.features; trees = ts }) end
  model_is h mid ts end r s e =
      record {
        file = λ are.
            let f : Found bs 0 (header_bytes h.features (length ts) ++ joined tree_bytes ts) end =
            found-then bs 0 _ mid _ end (subst (λ n. Found bs 0 (header_bytes h.features n) mid) (sym s.number) (r.found are)) (s.found are) in
            file-is h.features ts ∙ lies-all bs _ f.lies (sym (zero-add _) ∙ sym f.ends ∙ e);
        features = r.features;
        number = subst (λ n. T (trees_in n)) (sym s.number) r.trees;
        good = s.good;
        plain = s.plain;
        fit = s.fit;
        few = omega (arith, s.few (omega arith));
        ends = e;
      }

  pub model-read : (M : Model) (end : ℕ) → model_in bs ≡ says M end → ModelRead M end
  unfolding model_in
  model-read M end e =
      let p = parts _ _ M end e in
      let q = parts _ _ M end p.two in
      go p.said p.mid q.said q.mid (header_read p.said p.mid p.one) q.one (eqb q.mid (length bs)) refl q.two
    where
      go : (h : Header) (mid : ℕ) (ts : List (List Entry)) (from : ℕ) → HeaderRead h mid → trees_at bs h.features 0 h.trees mid ≡ says ts from → (b : Bool) → eqb from (length bs) ≡ b
          → cond b (says (record { features = h.features; trees = ts }) from) (wrong 17 from) ≡ says M end → ModelRead M end
      go h mid ts from r s true l e =
          subst (λ d. ModelRead d end) (says_first e)
          (subst (λ z. ModelRead (record { features = h.features; trees = ts }) z) (says-next e)
          (model_is h mid ts from r (trees-read h.features 0 h.trees mid ts from r.inside s) (eqb-true from (length bs) l)))
      go h mid ts from r s false l e = no_says e
