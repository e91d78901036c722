-- The loop over a forest's trees: those grown so far stand at the front of the rooms, and what is left to grow makes up the whole. Assumes nothing.
use Rattle.std.specs.Prelude.{ℕ, zero, suc, ◌+◌, ◌<◌, ◌≤◌, ◌≡◌, refl, length, get_or, set, take}
use Rattle.std.proofs.Common.{zero-add, le_refl, add-one, ◌∙◌, length-append, drop_of_length-le, take-append-drop, drop-cons, drop-drop, take_at, drop_at}
use native.Mathlib.Omega.{arith}
use Rattle.std.proofs.Math.Path.{sym, ap, subst}
use mathlib.Core.List.{List, [], ◌∷◌, ◌++◌, map, map-append, append_assoc, append-nil}
use Rattle.std.proofs.Math.ListN.{drop}
use Rattle.std.proofs.lemmas.List.{length-map}
use Rattle.rules.specs.declared.Place.{Place}
use Rattle.rules.specs.Words.{front, joined, total}
use Rattle.rules.specs.Lent.{Data, OneTree, Entry, write_entries}
use Rattle.rules.specs.Checks.{room_for}
use Rattle.rules.specs.Draws.{bad, ok}
use Rattle.rules.specs.Growth.{TreeNode}
use Rattle.rules.specs.Fit.{Tree, fit, entries, write_behind}
use Rattle.rules.specs.Forest.{Forest, stopped, grown_all, with_tree, next_tree, grow_trees, starts_from, forest_entries, forest_nodes}
use Rattle.lemmas.specs.Tables.{length-entries}
use Rattle.lemmas.specs.Beside.{entries-append, entries-joined}
use Rattle.node_entries.specs.Entries.{NodeRoom}
use Rattle.node_entries.specs.Nodes.{write_nodes}
use Rattle.forest_build.specs.declared.GrownTree.{GrownTree}
use Rattle.forest_build.specs.Told.{report_of, end_of}
use Rattle.forest_build.specs.Columns.{drop_all, take_each}

-- ---- forests grown so far, and the rest

-- a forest with trees put before its own
unfoldable pub over : List Tree → Forest → Forest
over [] f = f
over (t ∷ ts) f = with_tree t (over ts f)

over-next : (ts : List Tree) (t : Tree) (f : Forest) → over (ts ++ (t ∷ [])) f ≡ over ts (with_tree t f)
unfolding over
over-next [] t f = refl
over-next (x ∷ ts) t f = ap (with_tree x) (over-next ts t f)

over-stopped : (ts : List Tree) (d : Place) → over ts (stopped d) ≡ stopped d
unfolding over with_tree
over-stopped [] d = refl
over-stopped (x ∷ ts) d = ap (with_tree x) (over-stopped ts d)

over-all : (ts us : List Tree) → over ts (grown_all us) ≡ grown_all (ts ++ us)
unfolding over with_tree
over-all [] us = refl
over-all (x ∷ ts) us = ap (with_tree x) (over-all ts us)

-- ---- one tree more

nodes-next : (ts : List Tree) (t : Tree) → forest_nodes (ts ++ (t ∷ [])) ≡ forest_nodes ts ++ t.nodes
unfolding forest_nodes joined
nodes-next [] t = append-nil t.nodes
nodes-next (x ∷ ts) t = ap (λ z. x.nodes ++ z) (nodes-next ts t) ∙ sym (append_assoc x.nodes (forest_nodes ts) t.nodes)

starts-next : (a : ℕ) (ts : List Tree) (t : Tree) → starts_from a (ts ++ (t ∷ [])) ≡ starts_from a ts ++ ((a + length (forest_nodes ts) + length t.nodes) ∷ [])
unfolding starts_from forest_nodes joined
starts-next a [] t = ap (λ n. a ∷ (n + length t.nodes) ∷ []) (same a)
  where
    same : (a : ℕ) → a ≡ a + 0
    same a = omega arith
starts-next a (x ∷ ts) t =
    ap (λ z. a ∷ z) (starts-next (a + length x.nodes) ts t
    ∙ ap (λ n. starts_from (a + length x.nodes) ts ++ ((n + length t.nodes) ∷ []))
    (sum a (length x.nodes) (length (forest_nodes ts)) (length (x.nodes ++ forest_nodes ts)) (length-append x.nodes (forest_nodes ts))))
  where
    sum : (a b c d : ℕ) → d ≡ b + c → a + b + c ≡ a + d
    sum a b c d e = omega arith

-- an entry written behind the first ones
take_next : {A : Type 0} (l : List A) (t : ℕ) (x : A) → t < length l → take (suc t) (set l t x) ≡ take t l ++ (x ∷ [])
take_next [] t x h = absurd (omega arith)
take_next (y ∷ l) zero x h = refl
take_next (y ∷ l) (suc t) x h = ap (λ z. y ∷ z) (take_next l t x (omega arith))

-- a list written behind what stands at the front
front-more {ℓ} : {A : Type ℓ} (k m old new : List A) (n : ℕ) → length k ≡ n → take n new ≡ take n (front k old) → drop n new ≡ front m (drop n (front k old)) → new ≡ front (k ++ m) old
front-more k m old new n e a b =
    sym (take-append-drop n new)
    ∙ (λ i. (a ∙ take_at k (drop (length k) old) n e) i ++ (b ∙ ap (front m) (drop_at k (drop (length k) old) n e)) i)
    ∙ ap (λ z. k ++ (m ++ z)) (drop-drop (length m) (length k) old)
    ∙ sym (append_assoc k m (drop (length k + length m) old))
    ∙ ap (λ z. (k ++ m) ++ drop z old) (sym (length-append k m))

-- ---- node columns, a tree at a time

-- of one column, whatever it has of the nodes
column-next : {A : Type 0} (f : List TreeNode → List A) (ns ms : List TreeNode) (old now new : List A) → length (f ns) ≡ length ns → f (ns ++ ms) ≡ f ns ++ f ms
    → now ≡ front (f ns) old → take (length ns) new ≡ take (length ns) now → drop (length ns) new ≡ front (f ms) (drop (length ns) now) → new ≡ front (f (ns ++ ms)) old
column-next f ns ms old now new l p e a b =
    front-more (f ns) (f ms) old new (length ns) l (a ∙ ap (take (length ns)) e) (b ∙ ap (λ z. front (f ms) (drop (length ns) z)) e) ∙ ap (λ z. front z old) (sym p)

-- of all eight
room_next : (c₀ c c' : NodeRoom) (ns ms : List TreeNode) → c ≡ write_nodes ns c₀ → take_each (length ns) c' ≡ take_each (length ns) c
    → drop_all (length ns) c' ≡ write_nodes ms (drop_all (length ns) c) → c' ≡ write_nodes (ns ++ ms) c₀
room_next c₀ c c' ns ms e a b = λ i.
    record {
      nodes = record {
        value = six (λ x. x.value) (λ z. z.nodes.value) (λ i. (e i).nodes.value) (λ i. (a i).nodes.value) (λ i. (b i).nodes.value) i;
        feature = six (λ x. x.feature) (λ z. z.nodes.feature) (λ i. (e i).nodes.feature) (λ i. (a i).nodes.feature) (λ i. (b i).nodes.feature) i;
        threshold = six (λ x. x.threshold) (λ z. z.nodes.threshold) (λ i. (e i).nodes.threshold) (λ i. (a i).nodes.threshold) (λ i. (b i).nodes.threshold) i;
        score = six (λ x. x.score) (λ z. z.nodes.score) (λ i. (e i).nodes.score) (λ i. (a i).nodes.score) (λ i. (b i).nodes.score) i;
        true_child = six (λ x. x.true_child) (λ z. z.nodes.true_child) (λ i. (e i).nodes.true_child) (λ i. (a i).nodes.true_child) (λ i. (b i).nodes.true_child) i;
        false_child = six (λ x. x.false_child) (λ z. z.nodes.false_child) (λ i. (e i).nodes.false_child) (λ i. (a i).nodes.false_child) (λ i. (b i).nodes.false_child) i;
      };
      behind = record {
        count = two (λ n. n.count) (λ z. z.behind.count) (λ i. (e i).behind.count) (λ i. (a i).behind.count) (λ i. (b i).behind.count) i;
        mass = two (λ n. n.totals.mass) (λ z. z.behind.mass) (λ i. (e i).behind.mass) (λ i. (a i).behind.mass) (λ i. (b i).behind.mass) i;
      };
    }
  where
    six : {A : Type 0} (f : Entry → A) (col : NodeRoom → List A) → col c ≡ front (map f (entries ns)) (col c₀) → take (length ns) (col c') ≡ take (length ns) (col c)
        → drop (length ns) (col c') ≡ front (map f (entries ms)) (drop (length ns) (col c)) → col c' ≡ front (map f (entries (ns ++ ms))) (col c₀)
    six f col =
        column-next (λ l. map f (entries l)) ns ms (col c₀) (col c) (col c') (length-map (entries ns) f ∙ length-entries ns)
        (ap (map f) (entries-append ns ms) ∙ map-append f (entries ns) (entries ms))

    two : {A : Type 0} (f : TreeNode → A) (col : NodeRoom → List A) → col c ≡ front (map f ns) (col c₀) → take (length ns) (col c') ≡ take (length ns) (col c)
        → drop (length ns) (col c') ≡ front (map f ms) (drop (length ns) (col c)) → col c' ≡ front (map f (ns ++ ms)) (col c₀)
    two f col = column-next (map f) ns ms (col c₀) (col c) (col c') (length-map ns f) (map-append f ns ms)

-- all trees, as the rules write them
abbrev pub write_trees : List Tree → NodeRoom → NodeRoom
write_trees ts c = record { nodes = write_entries (forest_entries ts) c.nodes; behind = write_behind (forest_nodes ts) c.behind }

pub trees-written : (ts : List Tree) (c : NodeRoom) → write_nodes (forest_nodes ts) c ≡ write_trees ts c
trees-written ts c = λ i. record { nodes = write_entries (entries-joined ts i) c.nodes; behind = write_behind (forest_nodes ts) c.behind }

-- ---- where the loop stands

-- t trees stand in the columns and are told of, and with those that are left they are the forest
pub record Standing (Fs : List OneTree) (D : Data) (c₀ : NodeRoom) (t at : ℕ) (c : NodeRoom) (gs : List GrownTree) : Type 0 where
  pub trees : List Tree
  pub count : length trees ≡ t
  pub so : over trees (grow_trees t (drop t Fs) D) ≡ grow_trees 0 Fs D
  pub end : length (forest_nodes trees) ≡ at
  pub nodes : c ≡ write_nodes (forest_nodes trees) c₀
  pub reports : map report_of (take t gs) ≡ map (λ (x : Tree). x.report) trees
  pub starts : 0 ∷ map end_of (take t gs) ≡ starts_from 0 trees
  pub room : at + total room_for (drop t Fs) ≤ total room_for Fs

pub standing-first : (Fs : List OneTree) (D : Data) (c₀ : NodeRoom) (gs : List GrownTree) → Standing Fs D c₀ 0 0 c₀ gs
unfolding over forest_nodes joined entries starts_from
standing-first Fs D c₀ gs =
    record {
      trees = [];
      count = refl;
      so = refl;
      end = refl;
      nodes = refl;
      reports = refl;
      starts = refl;
      room = subst (λ n. n ≤ total room_for Fs) (sym (zero-add (total room_for Fs))) (le_refl (total room_for Fs));
    }

module _ (Fs : List OneTree) (D : Data) (c₀ : NodeRoom) (t at : ℕ) (c : NodeRoom) (gs : List GrownTree) (st : Standing Fs D c₀ t at c gs) where
  pub standing-end : length Fs ≤ t → grow_trees 0 Fs D ≡ grown_all st.trees
  unfolding grow_trees
  standing-end h =
      sym st.so ∙ ap (λ l. over st.trees (grow_trees t l D)) (drop_of_length-le Fs h) ∙ over-all st.trees [] ∙ ap grown_all (append-nil st.trees)

  module _ (h : t < length Fs) (F : OneTree) (is : get_or Fs t F ≡ F) where
    rest-is : grow_trees t (drop t Fs) D ≡ next_tree t (fit F D) (grow_trees (suc t) (drop (suc t) Fs) D)
    unfolding grow_trees
    rest-is = ap (λ l. grow_trees t l D) (drop-cons Fs t F h ∙ ap (λ x. x ∷ drop (suc t) Fs) is)

    pub standing-stop : (k : ℕ) → fit F D ≡ bad k → grow_trees 0 Fs D ≡ stopped (record { tree = t; search = k })
    unfolding next_tree
    standing-stop k e =
        sym st.so ∙ ap (over st.trees) (rest-is ∙ ap (λ o. next_tree t o (grow_trees (suc t) (drop (suc t) Fs) D)) e)
        ∙ over-stopped st.trees (record { tree = t; search = k })

    -- the room left is enough for the tree, and for those after it
    pub room-here : at + room_for F + total room_for (drop (suc t) Fs) ≤ total room_for Fs
    unfolding total
    room-here =
        subst (λ n. n ≤ total room_for Fs)
        (sum at (room_for F) (total room_for (drop (suc t) Fs)) (total room_for (drop t Fs)) (ap (total room_for) (drop-cons Fs t F h ∙ ap (λ x. x ∷ drop (suc t) Fs) is)))
        st.room
      where
        sum : (a b c d : ℕ) → d ≡ b + c → a + d ≡ a + b + c
        sum a b c d e = omega arith

    module _ (tree : Tree) (e : fit F D ≡ ok tree) (few : length tree.nodes ≤ room_for F) (at' : ℕ) (ea : at' ≡ at + length tree.nodes) where
      so-next : over (st.trees ++ (tree ∷ [])) (grow_trees (t + 1) (drop (t + 1) Fs) D) ≡ grow_trees 0 Fs D
      unfolding next_tree
      so-next =
          ap (λ k. over (st.trees ++ (tree ∷ [])) (grow_trees k (drop k Fs) D)) (add-one t)
          ∙ over-next st.trees tree (grow_trees (suc t) (drop (suc t) Fs) D)
          ∙ ap (over st.trees) (sym (rest-is ∙ ap (λ o. next_tree t o (grow_trees (suc t) (drop (suc t) Fs) D)) e))
          ∙ st.so

      -- what is told of all, of one more
      told-next : {A : Type 0} (f : GrownTree → A) (x : GrownTree) → t < length gs → map f (take (t + 1) (set gs t x)) ≡ map f (take t gs) ++ (f x ∷ [])
      told-next f x h = ap (λ k. map f (take k (set gs t x))) (add-one t) ∙ ap (map f) (take_next gs t x h) ∙ map-append f (take t gs) (x ∷ [])

      starts_more : t < length gs → 0 ∷ map end_of (take (t + 1) (set gs t (record { report = tree.report; end = at' }))) ≡ starts_from 0 (st.trees ++ (tree ∷ []))
      starts_more he =
          ap (λ l. 0 ∷ l) (told-next end_of (record { report = tree.report; end = at' }) he)
          ∙ ap (λ l. l ++ (at' ∷ [])) st.starts
          ∙ ap (λ k. starts_from 0 st.trees ++ (k ∷ [])) (ea ∙ ap (λ k. k + length tree.nodes) (sym st.end ∙ sym (zero-add (length (forest_nodes st.trees)))))
          ∙ sym (starts-next 0 st.trees tree)

      reports-more : t < length gs → map report_of (take (t + 1) (set gs t (record { report = tree.report; end = at' }))) ≡ map (λ (x : Tree). x.report) (st.trees ++ (tree ∷ []))
      reports-more hr =
          told-next report_of (record { report = tree.report; end = at' }) hr
          ∙ ap (λ l. l ++ (tree.report ∷ [])) st.reports
          ∙ sym (map-append (λ (x : Tree). x.report) st.trees (tree ∷ []))

      pub standing-next : (c' : NodeRoom) → take_each at c' ≡ take_each at c → drop_all at c' ≡ write_nodes tree.nodes (drop_all at c)
          → t < length gs → Standing Fs D c₀ (t + 1) at' c' (set gs t (record { report = tree.report; end = at' }))
      standing-next c' ct cd ht =
          record {
            trees = st.trees ++ (tree ∷ []);
            count = length-append st.trees (tree ∷ []) ∙ ap (λ k. k + 1) st.count;
            so = so-next;
            end = ap length (nodes-next st.trees tree) ∙ length-append (forest_nodes st.trees) tree.nodes ∙ ap (λ n. n + length tree.nodes) st.end ∙ sym ea;
            nodes =
                room_next c₀ c c' (forest_nodes st.trees) tree.nodes st.nodes (subst (λ k. take_each k c' ≡ take_each k c) (sym st.end) ct)
                (subst (λ k. drop_all k c' ≡ write_nodes tree.nodes (drop_all k c)) (sym st.end) cd)
                ∙ ap (λ l. write_nodes l c₀) (sym (nodes-next st.trees tree));
            reports = reports-more ht;
            starts = starts_more ht;
            room = subst (λ k. at' + total room_for (drop k Fs) ≤ total room_for Fs) (sym (add-one t))
                (fits at at' (length tree.nodes) (room_for F) (total room_for (drop (suc t) Fs)) ea few room-here);
          }
        where
          fits : (a a' n r x : ℕ) → a' ≡ a + n → n ≤ r → a + r + x ≤ total room_for Fs → a' + x ≤ total room_for Fs
          fits a a' n r x e h k = omega arith
