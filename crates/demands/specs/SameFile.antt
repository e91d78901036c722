-- What is read from a model file writes the same file. A file that says a model is the file of that model, byte by byte, so no two files say the same one. Where the reader of files
-- answers, what it leaves in the rooms is a good table, which every reader takes, and to write it again gives the bytes that were read, in any room that is long enough.
-- That each byte is below 256 is asked, as it is of every byte that is lent. Assumes nothing.
use Rattle.std.specs.Prelude.{ℕ, ◌≤◌, ◌≡◌, List, Ok}
use Rattle.std.proofs.Common.{sym, ap, ◌∙◌, subst}
use Rattle.std.proofs.Math.ListN.{length}
use Rattle.rules.specs.declared.Sizes.{Sizes}
use Rattle.rules.specs.Words.{front}
use Rattle.rules.specs.Lent.{outcome_of}
use Rattle.rules.specs.Checks.{replies}
use Rattle.rules.specs.Table.{ForestTable, table_of, trees_of, check_forest}
use Rattle.rules.specs.Model.{file_of, says, Model, model_in, model_size, write_model, TableRooms, filled_by, sizes_of, read_model}
use Rattle.lemmas.specs.Lists.{Every}
use Rattle.lemmas.specs.ByteNumbers.{Byte}
use Rattle.lemmas.specs.Laid.{trees-laid}
use Rattle.lemmas.specs.FileRead.{ModelRead, model-read}
use Rattle.lemmas.specs.ModelCalls.{TablePassed, table-passes, size-done, write_done, ReadAnswered, read-answered, laid-passes}

-- ---- the statements

abbrev pub WrittenRead : Type 0
WrittenRead = (bs : List ℕ) (M : Model) (end : ℕ) → Every Byte bs → model_in bs ≡ says M end → file_of M.features M.trees ≡ bs

abbrev pub OneFile : Type 0
OneFile = (bs cs : List ℕ) (M : Model) (k l : ℕ) → Every Byte bs → Every Byte cs → model_in bs ≡ says M k → model_in cs ≡ says M l → bs ≡ cs

-- the table that the reader of files leaves, by what it tells
abbrev pub table_read : Sizes → TableRooms → ForestTable
table_read s R = table_of s.trees R.starts R.nodes

abbrev pub ReadGood : Type 0
ReadGood = (bs : List ℕ) (R : TableRooms) (s : Sizes) → (read_model bs R).answer ≡ Ok s → check_forest s.features (table_read s (read_model bs R).rooms) ≡ Ok tt

abbrev pub WrittenAgain : Type 0
WrittenAgain =
    (bs : List ℕ) (R : TableRooms) (s : Sizes) → Every Byte bs → (read_model bs R).answer ≡ Ok s
    → (model_size s.features (table_read s (read_model bs R).rooms) ≡ Ok (length bs))
    × ((out : List ℕ) → length bs ≤ length out → write_model s.features (table_read s (read_model bs R).rooms) out ≡ outcome_of (Ok (length bs)) (front bs out))

-- ---- files

pub written_read : WrittenRead
written_read bs M end are h = (model-read bs M end h).file are

pub one-file : OneFile
one-file bs cs M k l a b h g = sym (written_read bs M k a h) ∙ written_read cs M l b g

-- ---- calls

module _ (bs : List ℕ) (R : TableRooms) (s : Sizes) (a : ReadAnswered bs R s) where
  abbrev M : Model
  M = a.model

  -- the table as it is left
  abbrev left : ForestTable
  left = table_read (sizes_of M) (filled_by M.trees R)

  what : ModelRead bs M a.end
  what = model-read bs M a.end a.said

  pub left_is : table_read s (read_model bs R).rooms ≡ left
  left_is = λ i. table_read (a.sizes i) (a.after i)

  pub left-trees : trees_of left ≡ M.trees
  unfolding filled_by sizes_of
  left-trees = trees-laid R.nodes R.starts M.trees (length M.trees) (λ _. length M.trees)

  pub left-passes : TablePassed M.features left
  unfolding filled_by sizes_of
  left-passes = laid-passes M.features M.trees R what.features what.number what.good a.room

  -- of what is called with the features and the table
  pub on-left : {A : Type 0} (f : ℕ → ForestTable → A) → f s.features (table_read s (read_model bs R).rooms) ≡ f M.features left
  unfolding sizes_of
  on-left f = λ i. f (a.sizes i).features (left_is i)

pub read-good : ReadGood
unfolding check_forest replies
read-good bs R s h =
    let a = read-answered bs R s h in
    on-left bs R s a check_forest ∙ ap replies (table-passes a.model.features (left bs R s a) (left-passes bs R s a))

pub written-again : WrittenAgain
written-again bs R s are h =
    let a = read-answered bs R s h in
    let file : file_of a.model.features (trees_of (left bs R s a)) ≡ bs = ap (file_of a.model.features) (left-trees bs R s a) ∙ written_read bs a.model a.end are a.said in (
      on-left bs R s a model_size ∙ size-done a.model.features (left bs R s a) (left-passes bs R s a) ∙ ap (λ l. Ok (length l)) file,
      (λ out long.
          on-left bs R s a (λ features T. write_model features T out)
          ∙ write_done a.model.features (left bs R s a) (left-passes bs R s a) out (subst (λ l. length l ≤ length out) (sym file) long)
          ∙ ap (λ l. outcome_of (Ok (length l)) (front l out)) file),
    )
