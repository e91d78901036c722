-- A node read out, as plain numbers. The number after its true child's is its false child's, which stands in a column, so it does not wrap. Assumes nothing.
use Rattle.std.specs.Prelude.{ℕ, zero, suc, ◌+◌, ◌<◌, ◌≡◌, Bool, cond, [], ◌∷◌, Ok, Err, Some, None}
use Rattle.std.proofs.Common.{zero-add, add-one, sym, ◌∙◌, ltb→lt}
use native.Mathlib.Omega.{arith}
use Rattle.std.proofs.Math.Path.{refl, ap, subst}
use Rattle.std.proofs.Math.Bool.{true, false}
use Rattle.std.proofs.Math.ListN.{get_or}
use Rattle.std.proofs.Math.Dec.{T, ltb}
use Rattle.rules.specs.declared.Kind.{Kind}
use Rattle.rules.specs.declared.Kind.TheVariants.{Leaf, Split}
use Rattle.rules.specs.declared.Fork.{Fork}
use Rattle.rules.specs.declared.Node.{Node}
use Rattle.rules.specs.Results.{NodeReply}
use Rattle.rules.specs.Lent.{Columns, Entry, shortest, entry_at, entries_at, leaf_entry}
use Rattle.rules.specs.Checks.{first_failed, features_in, test}
use Rattle.rules.specs.Table.{is_leaf, good_tree, tree_in, tree_table_tests, node_of, node_read, read_node}
use Rattle.rules.specs.Reading.{no_entry}
use Rattle.rules.specs.Fit.{entry_of}
use Rattle.rules.specs.Answers.{node_told}
use Rattle.lemmas.specs.Lists.{get_d-from}
use Rattle.lemmas.specs.Passed.{past}
use Rattle.lemmas.specs.Tables.{node-good}
use Rattle.entries.specs.Entries.{entry_is}
use Rattle.lemmas.specs.Laid.{entries-long}

-- ---- the true child's number

-- 0 where there is none
abbrev pub true_child_of : Kind → ℕ
true_child_of Leaf = 0
true_child_of (Split f) = f.children

abbrev pub child_of : NodeReply → ℕ
child_of (Err n) = 0
child_of (Ok None) = 0
child_of (Ok (Some m)) = true_child_of m.kind

module _ (features : ℕ) (c : Columns) (k : ℕ) where
  entry-child : get_or c.false_child k 0 < 4294967296 → T (good_tree features (tree_in c)) → k < shortest c → true_child_of (node_of (entry_at c k)).kind < 4294967295
  unfolding node_of tree_in entries_at
  entry-child room good h = go (is_leaf (entry_at c k)) refl
    where
      here : get_or (tree_in c) k no_entry ≡ entry_at c k
      here = get_d-from (entry_at c) 0 (shortest c) k no_entry h ∙ ap (entry_at c) (zero-add k)

      next : is_leaf (entry_at c k) ≡ false → (entry_at c k).false_child ≡ suc (entry_at c k).true_child
      next e =
          subst (λ (r : Entry). r.false_child ≡ suc r.true_child) here
          (node-good features (tree_in c) good k (subst (λ m. k < m) (sym (entries-long c 0 (shortest c))) h) (ap is_leaf here ∙ e)).next

      go : (b : Bool) → is_leaf (entry_at c k) ≡ b
          → true_child_of (cond b Leaf
          (Split (record { cut = record { feature = (entry_at c k).feature; threshold = (entry_at c k).threshold }; score = (entry_at c k).score; children = (entry_at c k).true_child }))) < 4294967295
      go true e = omega arith
      go false e = omega (arith, next e, room)

  pub child-below : {r : NodeReply} → r ≡ read_node features c k → get_or c.false_child k 0 < 4294967296 → child_of r < 4294967295
  unfolding read_node node_read tree_table_tests
  child-below told room = subst (λ r. child_of r < 4294967295) (sym told) (go (first_failed (tree_table_tests features c)) refl)
    where
      there : T (good_tree features (tree_in c)) → (b : Bool) → ltb k (shortest c) ≡ b → child_of (cond b (Ok (Some (node_of (entry_at c k)))) (Ok None)) < 4294967295
      there good true e = entry-child room good (ltb→lt k (shortest c) (subst T (sym e) tt))
      there good false e = omega arith

      go : (n : ℕ) → first_failed (tree_table_tests features c) ≡ n → child_of (node_read n c k) < 4294967295
      go zero e =
          let (_, rest) = past 0 (features_in features) (test 8 (good_tree features (tree_in c)) ∷ []) e in
          let (good, _) = past 7 (good_tree features (tree_in c)) [] rest in
          there good (ltb k (shortest c)) refl
      go (suc n) e = omega arith

-- ---- a node told, by its kind

pub leaf-told : (m : Node) → m.kind ≡ Leaf → record { number = 0; there = true; entry = leaf_entry m.value } ≡ node_told (Ok (Some m))
unfolding entry_of
leaf-told m e = λ i. record { number = 0; there = true; entry = entry_of m.value (sym e i) }

pub split-told : (m : Node) (f : Fork) → m.kind ≡ Split f
    → record { number = 0; there = true; entry = entry_is m.value f.cut.feature f.cut.threshold f.score f.children (f.children + 1) } ≡ node_told (Ok (Some m))
unfolding entry_of
split-told m f e =
    (λ i. record { number = 0; there = true; entry = entry_is m.value f.cut.feature f.cut.threshold f.score f.children (add-one f.children i) })
    ∙ (λ i. record { number = 0; there = true; entry = entry_of m.value (sym e i) })
