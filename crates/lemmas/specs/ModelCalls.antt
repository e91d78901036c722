-- How the calls of a model file end: a table that passes is written, a file that is read is laid out in the rooms, and such a table passes. Assumes nothing.
use Rattle.std.specs.Prelude.{ℕ, zero, suc, ◌<◌, ◌≤◌, ◌≡◌, refl, Bool, true, false, ◌&&◌, cond, List, length, T, leb, Ok, Err}
use Rattle.std.proofs.Common.{sym, ◌∙◌, subst, leb→le, le→leb}
use Rattle.std.proofs.Math.Path.{ap}
use Rattle.std.proofs.lemmas.Bool.{lt-leb}
use Rattle.std.specs.Float.Ieee.Fits.{and_l, and_r, and_i}
use Rattle.rules.specs.declared.Sizes.{Sizes}
use Rattle.rules.specs.Results.{Reply, ModelReply, SizeReply}
use Rattle.rules.specs.Words.{every, front, total}
use Rattle.rules.specs.Lent.{Entry, outcome_of, shortest}
use Rattle.rules.specs.Checks.{first_failed, replies, features_in, trees_in}
use Rattle.rules.specs.Table.{good_tree, ForestTable, trees_of, good_forest, starts_enough, forest_table_tests, check_forest}
use Rattle.rules.specs.Model.{file_of, Field, misread, says, Model, model_in, sized, model_size, write_tests, wrote, write_model, TableRooms, starts_of, rooms_enough, filled_by, sizes_of, reading, read_model}
use Rattle.lemmas.specs.Lists.{is_true}
use Rattle.lemmas.specs.Tests.{passes, fails}
use Rattle.lemmas.specs.Passed.{past, goes_on, none-fails}
use Rattle.lemmas.specs.Laid.{front_length, starts-laid, length-laid, table_laid, good-laid}

-- ---- a table that passes

pub record TablePassed (features : ℕ) (F : ForestTable) : Type 0 where
  pub wide : T (features_in features)
  pub number : T (trees_in F.trees)
  pub enough : T (starts_enough F)
  pub good : T (good_forest features F)

pub table-passed : (features : ℕ) (F : ForestTable) → first_failed (forest_table_tests features F) ≡ 0 → TablePassed features F
unfolding forest_table_tests
table-passed features F h =
    let (s, h₂) = past 0 (features_in features && trees_in F.trees) _ h in
    let (e, h₃) = past 5 (starts_enough F) _ h₂ in
    let (g, h₄) = past 7 (good_forest features F) _ h₃ in
    record { wide = and_l (features_in features) (trees_in F.trees) s; number = and_r (features_in features) (trees_in F.trees) s; enough = e; good = g }

pub check-passed : (features : ℕ) (F : ForestTable) → check_forest features F ≡ Ok tt → TablePassed features F
unfolding check_forest replies
check-passed features F h = table-passed features F (go (first_failed (forest_table_tests features F)) h)
  where
    IsDone : Reply → Type 0
    IsDone (Err n) = ⊥
    IsDone (Ok _) = Unit {0}

    go : (n : ℕ) → replies n ≡ Ok tt → n ≡ 0
    go zero h = refl
    go (suc n) h = absurd (subst IsDone (sym h) tt)

module _ (features : ℕ) (F : ForestTable) (p : TablePassed features F) where
  sizes-pass : T (features_in features && trees_in F.trees)
  sizes-pass = and_i (features_in features) (trees_in F.trees) p.wide p.number

  pub table-passes : first_failed (forest_table_tests features F) ≡ 0
  unfolding forest_table_tests
  table-passes = goes_on 1 _ _ sizes-pass (goes_on 6 _ _ p.enough (goes_on 8 _ _ p.good none-fails))

  pub size-done : model_size features F ≡ Ok (length (file_of features (trees_of F)))
  unfolding model_size sized
  size-done = ap (λ n. sized n (length (file_of features (trees_of F)))) table-passes

  pub write_done : (out : List ℕ) → length (file_of features (trees_of F)) ≤ length out
      → write_model features F out ≡ outcome_of (Ok (length (file_of features (trees_of F)))) (front (file_of features (trees_of F)) out)
  unfolding write_model write_tests wrote forest_table_tests
  write_done out long =
      ap (λ n. wrote n (file_of features (trees_of F)) out)
      (goes_on 1 _ _ sizes-pass (goes_on 6 _ _ p.enough (goes_on 8 _ _ p.good (goes_on 6 _ _ (le→leb (length (file_of features (trees_of F))) (length out) long) none-fails))))

  pub write-short : (out : List ℕ) → length out < length (file_of features (trees_of F)) → write_model features F out ≡ outcome_of (Err 6) out
  unfolding write_model write_tests wrote forest_table_tests
  write-short out short =
      ap (λ n. wrote n (file_of features (trees_of F)) out)
      (sym (passes 1 _ _ (is_true _ sizes-pass) (passes 6 _ _ (is_true _ p.enough) (passes 8 _ _ (is_true _ p.good)
      (fails 6 _ _ (lt-leb (length (file_of features (trees_of F))) (length out) short))))))

abbrev IsBytes : SizeReply → Type 0
IsBytes (Err r) = ⊥
IsBytes (Ok m) = Unit {0}

abbrev bytes_in : ℕ → SizeReply → ℕ
bytes_in n (Err r) = n
bytes_in n (Ok m) = m

-- what is known where the size is told
pub size-answered : (features : ℕ) (F : ForestTable) (n : ℕ) → model_size features F ≡ Ok n → TablePassed features F × (n ≡ length (file_of features (trees_of F)))
unfolding model_size sized
size-answered features F n h = go (first_failed (forest_table_tests features F)) refl h
  where
    go : (k : ℕ) → first_failed (forest_table_tests features F) ≡ k → sized k (length (file_of features (trees_of F))) ≡ Ok n
        → TablePassed features F × (n ≡ length (file_of features (trees_of F)))
    go (suc k) q h = absurd (subst IsBytes (sym h) tt)
    go zero q h = (table-passed features F q, ap (bytes_in n) (sym h))

-- and where the writer answers
pub record WriteAnswered (features : ℕ) (F : ForestTable) (out : List ℕ) (n : ℕ) : Type 0 where
  pub passed : TablePassed features F
  pub bytes : n ≡ length (file_of features (trees_of F))
  pub room : n ≤ length out
  pub after : (write_model features F out).rooms ≡ front (file_of features (trees_of F)) out

pub write-answered : (features : ℕ) (F : ForestTable) (out : List ℕ) (n : ℕ) → (write_model features F out).answer ≡ Ok n → WriteAnswered features F out n
unfolding write_model write_tests wrote forest_table_tests
write-answered features F out n h = go (first_failed (write_tests features F out)) refl h
  where
    file : List ℕ
    file = file_of features (trees_of F)

    go : (k : ℕ) → first_failed (write_tests features F out) ≡ k → (wrote k file out).answer ≡ Ok n → WriteAnswered features F out n
    go (suc k) q h = absurd (subst IsBytes (sym h) tt)
    go zero q h =
        let (s, q₂) = past 0 (features_in features && trees_in F.trees) _ q in
        let (e, q₃) = past 5 (starts_enough F) _ q₂ in
        let (g, q₄) = past 7 (good_forest features F) _ q₃ in
        let (l, q₅) = past 5 (leb (length file) (length out)) _ q₄ in
        let bytes : n ≡ length file = ap (bytes_in n) (sym h) in
        record {
          passed = record { wide = and_l (features_in features) (trees_in F.trees) s; number = and_r (features_in features) (trees_in F.trees) s; enough = e; good = g };
          bytes = bytes;
          room = subst (λ m. m ≤ length out) (sym bytes) (leb→le (length file) (length out) l);
          after = ap (λ k. (wrote k file out).rooms) q;
        }

-- ---- a file that is read

pub read_done : (bs : List ℕ) (M : Model) (end : ℕ) (R : TableRooms) → model_in bs ≡ says M end → T (rooms_enough M.trees R)
    → read_model bs R ≡ outcome_of (Ok (sizes_of M)) (filled_by M.trees R)
unfolding read_model reading
read_done bs M end R h enough = ap (λ f. reading f R) h ∙ go (rooms_enough M.trees R) enough
  where
    go : (b : Bool) → T b → cond b (outcome_of (Ok (sizes_of M)) (filled_by M.trees R)) (outcome_of {A = ModelReply} (Err (record { number = 6; place = 0 })) R)
        ≡ outcome_of (Ok (sizes_of M)) (filled_by M.trees R)
    go true t = refl
    go false t = absurd t

-- what is known where it answers
pub record ReadAnswered (bs : List ℕ) (R : TableRooms) (s : Sizes) : Type 0 where
  pub model : Model
  pub end : ℕ
  pub said : model_in bs ≡ says model end
  pub room : T (rooms_enough model.trees R)
  pub sizes : s ≡ sizes_of model
  pub after : (read_model bs R).rooms ≡ filled_by model.trees R

abbrev IsRead : ModelReply → Type 0
IsRead (Err m) = ⊥
IsRead (Ok s) = Unit {0}

pub read-answered : (bs : List ℕ) (R : TableRooms) (s : Sizes) → (read_model bs R).answer ≡ Ok s → ReadAnswered bs R s
unfolding read_model reading
read-answered bs R s h = go (model_in bs) refl h
  where
    sizes_in : ModelReply → Sizes
    sizes_in (Err m) = s
    sizes_in (Ok t) = t

    go : (f : Field Model) → model_in bs ≡ f → (reading f R).answer ≡ Ok s → ReadAnswered bs R s
    go (misread m) q h = absurd (subst IsRead (sym h) tt)
    go (says M end) q h = room (rooms_enough M.trees R) refl h
      where
        room : (b : Bool) → rooms_enough M.trees R ≡ b
            → (cond b (outcome_of (Ok (sizes_of M)) (filled_by M.trees R)) (outcome_of {A = ModelReply} (Err (record { number = 6; place = 0 })) R)).answer ≡ Ok s
            → ReadAnswered bs R s
        room true e h =
            record {
              model = M;
              end = end;
              said = q;
              room = subst T (sym e) tt;
              sizes = ap sizes_in (sym h);
              after = ap (λ o. o.rooms) (read_done bs M end R q (subst T (sym e) tt));
            }
        room false e h = absurd (subst IsRead (sym h) tt)

-- ---- and what it leaves passes

pub laid-passes : (features : ℕ) (ts : List (List Entry)) (R : TableRooms) → T (features_in features) → T (trees_in (length ts)) → T (every (good_tree features) ts) → T (rooms_enough ts R)
    → TablePassed features (table_laid (length ts) ts R.nodes R.starts)
unfolding rooms_enough
laid-passes features ts R f t good room =
    record {
      wide = f;
      number = t;
      enough =
          le→leb (suc (length ts)) (length (front (starts_of 0 ts) R.starts))
          (subst (λ n. suc (length ts) ≤ n) (sym (front_length (starts_of 0 ts) R.starts (subst (λ n. n ≤ length R.starts) (sym (starts-laid 0 ts)) starts))) starts);
      good = good-laid features (length ts) R.nodes R.starts ts refl good (subst (λ n. n ≤ shortest R.nodes) (sym (length-laid ts)) nodes);
    }
  where
    nodes : total length ts ≤ shortest R.nodes
    nodes = leb→le (total length ts) (shortest R.nodes) (and_l (leb (total length ts) (shortest R.nodes)) (leb (suc (length ts)) (length R.starts)) room)

    starts : suc (length ts) ≤ length R.starts
    starts = leb→le (suc (length ts)) (length R.starts) (and_r (leb (total length ts) (shortest R.nodes)) (leb (suc (length ts)) (length R.starts)) room)
