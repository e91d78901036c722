-- What passed checks say, and how the two calls end. Assumes nothing.
use Prim.Native.Nat.{ℕ, zero, suc, ◌<◌, ◌≤◌}
use Rattle.std.proofs.Common.{add-one, arith, sym, ◌∙◌, subst, le-leb, Ok, Err}
use Rattle.std.specs.Prelude.{◌≡◌, ◌&&◌, length, get_or, leb, Result}
use Rattle.std.proofs.Math.Path.{refl, ap}
use mathlib.Core.List.{List, [], ◌∷◌, ◌++◌}
use Rattle.std.proofs.Math.Dec.{leb→le}
use Rattle.std.proofs.lemmas.Bool.{lt-leb}
use Rattle.std.proofs.lemmas.Result.{err_from_is_err_and}
use Rattle.std.specs.Result.{IsErrAnd}
use Rattle.rules.specs.Results.{Checked, Reply, SizeReply}
use Rattle.rules.specs.Words.{every, front}
use Rattle.rules.specs.Lent.{outcome_of}
use Rattle.rules.specs.Checks.{Test, test, checked, number_of, first_failed, replies, features_in, trees_in}
use Rattle.rules.specs.Table.{good_tree, ForestTable, starts_good, trees_of, good_forest, starts_enough, forest_table_tests, check_forest}
use Rattle.rules.specs.Model.{file_of, sized, model_size, write_tests, wrote, write_model}
use Rattle.lemmas.specs.Lists.{is_true}
use Rattle.lemmas.specs.Passed.{past, and2}
use Rattle.lemmas.specs.Tests.{and_then, checked-append, passes, fails, none-failed, within-top}
use Rattle.tables.specs.Table.{Lying}
use Rattle.tables.specs.Laws.{start-below, start-inside}
use Rattle.model_write.specs.Sizes.{file_long, Counted, trees-long, size-long}
use Rattle.model_write.specs.Puts.{FileFits}

-- the exit of a `?`
pub left_by : {A : Type 0} {n : ℕ} (r : Result A ℕ) → IsErrAnd r (λ e. e ≡ n) → r ≡ Err n
left_by r h = let p = err_from_is_err_and r h in p.1 ∙ ap Err p.2

-- ---- passed checks

pub counted : (F : ForestTable) → Lying F → Counted F.trees F.starts F.nodes.true_child
counted F h =
    record {
      started = h.started;
      below = λ t b. subst (λ k. get_or F.starts t 0 < get_or F.starts k 0) (sym (add-one t)) (start-below F h t b);
      inside = λ t b. subst (λ k. get_or F.starts k 0 ≤ length F.nodes.true_child) (sym (add-one t)) (omega (arith, start-inside F h t b));
    }

module _ (features : ℕ) (F : ForestTable) where
  lies : first_failed (forest_table_tests features F) ≡ 0 → Lying F
  unfolding forest_table_tests good_forest
  lies h =
      let (a, h₁) = past 0 (features_in features && trees_in F.trees) _ h in
      let (s, h₂) = past 5 (starts_enough F) _ h₁ in
      let (g, _) = past 7 (good_forest features F) _ h₂ in
      let (_, t) = and2 (features_in features) (trees_in F.trees) a in
      let (x, _) = and2 (starts_good F) (every (good_tree features) (trees_of F)) g in
      record {
        started = record { few = within-top 1024 F.trees (is_true (trees_in F.trees) t); long = leb→le (suc F.trees) (length F.starts) s };
        good = is_true (starts_good F) x;
      }

  -- ---- what the check of the table answers

  failed : {n : ℕ} → ◌≡◌ {A = Reply} (Err n) (check_forest features F) → (n ≡ first_failed (forest_table_tests features F)) × (n ≡ 0 → ⊥)
  unfolding check_forest replies
  failed {n} h = go (first_failed (forest_table_tests features F)) h
    where
      go : (m : ℕ) → ◌≡◌ {A = Reply} (Err n) (replies m) → (n ≡ m) × (n ≡ 0 → ⊥)
      go zero e = cc
      go (suc m) e = let p : n ≡ suc m = cc in (p, λ z. absurd (omega (arith, p, z)))

  passed : ◌≡◌ {A = Reply} (Ok tt) (check_forest features F) → first_failed (forest_table_tests features F) ≡ 0
  unfolding check_forest replies
  passed h = go (first_failed (forest_table_tests features F)) h
    where
      go : (m : ℕ) → ◌≡◌ {A = Reply} (Ok tt) (replies m) → m ≡ 0
      go zero e = refl
      go (suc m) e = cc

  -- ---- the size

  pub size-refused : {n : ℕ} {r : SizeReply} → r ≡ Err n → ◌≡◌ {A = Reply} (Err n) (check_forest features F) → r ≡ model_size features F
  unfolding model_size sized
  size-refused {n} q h = let v = failed h in q ∙ go n v.1 ∙ ap (λ m. sized m (length (file_of features (trees_of F)))) v.0
    where
      go : (m : ℕ) → (m ≡ 0 → ⊥) → Err m ≡ sized m (length (file_of features (trees_of F)))
      go zero h = absurd (h refl)
      go (suc m) h = refl

  module _ (h : ◌≡◌ {A = Reply} (Ok tt) (check_forest features F)) where
    pub table-lies : Lying F
    table-lies = lies (passed h)

    module _ {size : ℕ} (e : size ≡ file_long F.trees F.starts F.nodes.true_child) where
      long : size ≡ length (file_of features (trees_of F))
      long = e ∙ sym (size-long F features)

      pub size-told : Ok size ≡ model_size features F
      unfolding model_size sized
      size-told = λ i. sized (sym (passed h) i) (long i)

  -- ---- the file

  module _ (out : List ℕ) where
    pub write-refused : {n : ℕ} {r : SizeReply} → r ≡ Err n → ◌≡◌ {A = Reply} (Err n) (check_forest features F) → outcome_of r out ≡ write_model features F out
    unfolding write_model write_tests wrote
    write-refused {n} q h =
        let v = failed h in
        ap (λ a. outcome_of a out) q ∙ go n v.1 ∙ ap (λ m. wrote m (file_of features (trees_of F)) out) (later n v.1 v.0)
      where
        go : (m : ℕ) → (m ≡ 0 → ⊥) → outcome_of (Err m) out ≡ wrote m (file_of features (trees_of F)) out
        go zero h = absurd (h refl)
        go (suc m) h = refl

        us : List Test
        us = forest_table_tests features F

        vs : List Test
        vs = test 6 (leb (length (file_of features (trees_of F))) (length out)) ∷ []

        stops : (m : ℕ) (c : Checked) → (m ≡ 0 → ⊥) → m ≡ number_of c → m ≡ number_of (and_then c (checked vs))
        stops m (Ok _) h e = absurd (h e)
        stops m (Err r) h e = e

        later : (m : ℕ) → (m ≡ 0 → ⊥) → m ≡ first_failed us → m ≡ first_failed (us ++ vs)
        later m h e = stops m (checked us) h e ∙ ap number_of (sym (checked-append us vs))

    module _ (h : ◌≡◌ {A = Reply} (Ok tt) (check_forest features F)) {size : ℕ} (e : size ≡ file_long F.trees F.starts F.nodes.true_child) where
      -- what is left to ask is whether there is room
      asked : first_failed (test 6 (leb (length (file_of features (trees_of F))) (length out)) ∷ []) ≡ first_failed (write_tests features F out)
      unfolding write_tests forest_table_tests
      asked =
          let (a, h₁) = past 0 (features_in features && trees_in F.trees) _ (passed h) in
          let (s, h₂) = past 5 (starts_enough F) _ h₁ in
          let (g, _) = past 7 (good_forest features F) _ h₂ in
          passes 1 _ _ (is_true _ a) (passes 6 _ _ (is_true _ s) (passes 8 _ _ (is_true _ g) refl))

      pub write-short : length out < size → outcome_of (Err 6) out ≡ write_model features F out
      unfolding write_model wrote
      write-short b =
          ap (λ m. wrote m (file_of features (trees_of F)) out)
          (fails 6 _ [] (lt-leb (length (file_of features (trees_of F))) (length out) (omega (arith, b, long h e))) ∙ asked)

      pub file-fits : size ≤ length out → FileFits F out
      unfolding file_long
      file-fits b = record { lying = table-lies h; room = omega (arith, b, e, trees-long F) }

      pub write_done : {new : List ℕ} → size ≤ length out → new ≡ front (file_of features (trees_of F)) out → outcome_of (Ok size) new ≡ write_model features F out
      unfolding write_model wrote
      write_done b w =
          (λ i. outcome_of (Ok (long h e i)) (w i))
          ∙ ap (λ m. wrote m (file_of features (trees_of F)) out)
          (passes 6 _ [] (le-leb (length (file_of features (trees_of F))) (length out) (omega (arith, b, long h e))) none-failed ∙ asked)
