-- What is written to a model file is read back. The file of a good table says its trees, with a leaf's unused fields 0; there is one NaN among the floats, as there is one in a file.
-- Where the writer answers, what it wrote is read into any rooms that are long enough: features, trees and nodes are told as they were, the trees in the rooms are the same, and so are their starts.
-- So every reader of forests answers the same by the table that was read as by the table that was written, and refuses the same.
-- That floats are binary64 and starts are numbers of 32 bits is asked, as it is of all that is lent. Assumes nothing.
use Prim.Native.Nat.{ℕ, suc, ◌≤◌}
use Rattle.std.proofs.Common.{arith, sym, ◌∙◌, subst, le→leb, Ok}
use Rattle.std.specs.Prelude.{◌≡◌, refl, List, map, get_or, T, leb, Float}
use Rattle.std.proofs.Math.Path.{ap}
use Rattle.std.proofs.Math.ListN.{length, take, length-map}
use Rattle.std.proofs.Math.Seq.{take_at}
use Rattle.std.specs.Float.Ieee.Fits.{and_l, and_r, and_i}
use Rattle.rules.specs.declared.Shape.{Shape}
use Rattle.rules.specs.declared.Sizes.{Sizes}
use Rattle.rules.specs.Results.{ModelReply}
use Rattle.rules.specs.Words.{from, every, total}
use Rattle.rules.specs.Lent.{Outcome, shortest}
use Rattle.rules.specs.Checks.{trees_in}
use Rattle.rules.specs.Table.{good_tree, ForestTable, starts_good, tree_at, trees_of, good_forest, starts_enough, check_forest}
use Rattle.rules.specs.Reading.{forest_means, forest_importances}
use Rattle.rules.specs.OutOfBag.{out_of_bag_means}
use Rattle.rules.specs.Model.{file_of, says, Model, model_in, write_model, TableRooms, starts_of, rooms_enough, filled_by, sizes_of, read_model}
use Rattle.lemmas.specs.Lists.{is_true, Every, every-or, length_from}
use Rattle.lemmas.specs.Passed.{Binary64}
use Rattle.lemmas.specs.Seen.{seen, trees-fit, seen-total, seen-starts}
use Rattle.lemmas.specs.Laid.{starts-laid, nodes-of, starts-of}
use Rattle.lemmas.specs.Fields.{says_first}
use Rattle.lemmas.specs.FileRead.{model-read}
use Rattle.lemmas.specs.FileWritten.{model-written}
use Rattle.lemmas.specs.ModelCalls.{TablePassed, check-passed, WriteAnswered, write-answered, read_done, ReadAnswered, read-answered}
use Rattle.demands.specs.Leaves.{seen_all, ForestsAgree, leaves-of-forests}
use Rattle.demands.specs.SameFile.{table_read, left_is, left-trees, read-good}

-- ---- the statements

-- as every table is that is lent
pub record Lent (F : ForestTable) : Type 0 where
  pub values : Binary64 F.nodes.value
  pub thresholds : Binary64 F.nodes.threshold
  pub scores : Binary64 F.nodes.score
  pub starts : Every (λ a. a ≤ 4294967295) F.starts

abbrev pub ReadWritten : Type 0
ReadWritten =
    (features : ℕ) (F : ForestTable) → Lent F → check_forest features F ≡ Ok tt
    → model_in (file_of features (trees_of F)) ≡ says (record { features = features; trees = seen_all (trees_of F) }) (length (file_of features (trees_of F)))

-- how many nodes a forest's table has
abbrev pub nodes_in : ForestTable → ℕ
nodes_in F = get_or F.starts F.trees 0

-- the file that the writer left, of n bytes, and what is read of it
abbrev pub file_left : ℕ → ForestTable → List ℕ → ℕ → List ℕ
file_left features F out n = take n (write_model features F out).rooms

abbrev pub sizes_in : ℕ → ForestTable → Sizes
sizes_in features F = record { features = features; trees = F.trees; nodes = nodes_in F }

pub record ReadBack (features : ℕ) (F : ForestTable) (bs : List ℕ) (R : TableRooms) : Type 0 where
  pub answer : (read_model bs R).answer ≡ Ok (sizes_in features F)
  pub trees : trees_of (table_read (sizes_in features F) (read_model bs R).rooms) ≡ map (map seen) (trees_of F)
  pub starts : take (suc F.trees) (read_model bs R).rooms.starts ≡ take (suc F.trees) F.starts

abbrev pub Returned : (ℕ → ForestTable → List ℕ → TableRooms → Type 0) → Type 0
Returned Q =
    (features : ℕ) (F : ForestTable) (out : List ℕ) (n : ℕ) (R : TableRooms) → Lent F → (write_model features F out).answer ≡ Ok n
    → nodes_in F ≤ shortest R.nodes → suc F.trees ≤ length R.starts → Q features F (file_left features F out n) R

-- the table that is read of a file of a table
abbrev pub again : ℕ → ForestTable → List ℕ → TableRooms → ForestTable
again features F bs R = table_read (sizes_in features F) (read_model bs R).rooms

pub record SameAnswers (features : ℕ) (F : ForestTable) (bs : List ℕ) (R : TableRooms) : Type 0 where
  pub means : (S : Shape) (xs out : List Float) → forest_means S xs F out ≡ forest_means S xs (again features F bs R) out
  pub out_of_bag : (S : Shape) (xs : List Float) (counts : List ℕ) (out : List Float) → out_of_bag_means S xs counts F out ≡ out_of_bag_means S xs counts (again features F bs R) out
  pub importances : (j : ℕ) (out : List Float) → forest_importances j F out ≡ forest_importances j (again features F bs R) out

-- ---- files

module _ (features : ℕ) (F : ForestTable) (p : TablePassed features F) where
  number_is : length (trees_of F) ≡ F.trees
  unfolding trees_of
  number_is = length-map (from 0 F.trees) (tree_at F.nodes F.starts) ∙ length_from 0 F.trees

  starts-are : T (starts_good F)
  unfolding good_forest
  starts-are = and_l (starts_good F) (every (good_tree features) (trees_of F)) p.good

  nodes-are : total length (trees_of F) ≡ nodes_in F
  nodes-are = nodes-of F p.enough starts-are

  trees-are : T (every (good_tree features) (trees_of F))
  unfolding good_forest
  trees-are = and_r (starts_good F) (every (good_tree features) (trees_of F)) p.good

of-passed : (features : ℕ) (F : ForestTable) → Lent F → TablePassed features F
    → model_in (file_of features (trees_of F)) ≡ says (record { features = features; trees = seen_all (trees_of F) }) (length (file_of features (trees_of F)))
of-passed features F l p =
    model-written features (trees_of F) p.wide (subst (λ n. T (trees_in n)) (sym (number_is features F p)) p.number)
    (subst (λ n. n ≤ 4294967295) (sym (nodes-are features F p)) (every-or _ F.starts 0 F.trees l.starts (omega arith))) (trees-are features F p)
    (trees-fit F l.values l.thresholds l.scores)

pub read-written : ReadWritten
read-written features F l h = of-passed features F l (check-passed features F h)

-- ---- calls

module _ (features : ℕ) (F : ForestTable) (out : List ℕ) (n : ℕ) (R : TableRooms) (l : Lent F) (w : (write_model features F out).answer ≡ Ok n)
    (nodes : nodes_in F ≤ shortest R.nodes) (starts : suc F.trees ≤ length R.starts) where
  wrote : WriteAnswered features F out n
  wrote = write-answered features F out n w

  file : List ℕ
  file = file_of features (trees_of F)

  same-file : file_left features F out n ≡ file
  unfolding file
  same-file = ap (take n) wrote.after ∙ take_at file _ n (sym wrote.bytes)

  seen-number : length (seen_all (trees_of F)) ≡ F.trees
  seen-number = length-map (trees_of F) (map seen) ∙ number_is features F wrote.passed

  seen-nodes : total length (seen_all (trees_of F)) ≡ nodes_in F
  seen-nodes = seen-total (trees_of F) ∙ nodes-are features F wrote.passed

  room : T (rooms_enough (seen_all (trees_of F)) R)
  unfolding rooms_enough
  room =
      and_i (leb (total length (seen_all (trees_of F))) (shortest R.nodes)) (leb (suc (length (seen_all (trees_of F)))) (length R.starts))
      (le→leb (total length (seen_all (trees_of F))) (shortest R.nodes) (subst (λ m. m ≤ shortest R.nodes) (sym seen-nodes) nodes))
      (le→leb (suc (length (seen_all (trees_of F)))) (length R.starts) (subst (λ m. suc m ≤ length R.starts) (sym seen-number) starts))

  said : model_in (file_left features F out n) ≡ says (record { features = features; trees = seen_all (trees_of F) }) (length file)
  unfolding file
  said = ap model_in same-file ∙ of-passed features F l wrote.passed

  answered : (read_model (file_left features F out n) R).answer ≡ Ok (sizes_in features F)
  unfolding sizes_of
  answered =
      ap (λ o. o.answer) (read_done (file_left features F out n) _ (length file) R said room)
      ∙ (λ i. Ok (record { features = features; trees = seen-number i; nodes = seen-nodes i }))

  a : ReadAnswered (file_left features F out n) R (sizes_in features F)
  a = read-answered (file_left features F out n) R (sizes_in features F) answered

  trees-back : trees_of (again features F (file_left features F out n) R) ≡ seen_all (trees_of F)
  trees-back =
      ap trees_of (left_is (file_left features F out n) R (sizes_in features F) a) ∙ left-trees (file_left features F out n) R (sizes_in features F) a
      ∙ ap (λ (M : Model). M.trees) (says_first (sym a.said ∙ said))

  starts-back : take (suc F.trees) (read_model (file_left features F out n) R).rooms.starts ≡ take (suc F.trees) F.starts
  unfolding filled_by
  starts-back =
      ap (λ (o : Outcome ModelReply TableRooms). take (suc F.trees) o.rooms.starts) (read_done (file_left features F out n) _ (length file) R said room)
      ∙ take_at (starts_of 0 (seen_all (trees_of F))) _ (suc F.trees) (starts-laid 0 (seen_all (trees_of F)) ∙ ap suc seen-number)
      ∙ seen-starts 0 (trees_of F) ∙ starts-of F wrote.passed.enough (starts-are features F wrote.passed)

  -- to see all of it again changes nothing
  seen-again : seen_all (seen_all (trees_of F)) ≡ seen_all (trees_of F)
  seen-again = (model-read (file_left features F out n) _ (length file) said).plain

  passes-again : TablePassed features (again features F (file_left features F out n) R)
  passes-again = check-passed features _ (read-good (file_left features F out n) R (sizes_in features F) answered)

  agree : ForestsAgree F (again features F (file_left features F out n) R)
  agree =
      record {
        number = refl;
        enough = is_true (starts_enough F) wrote.passed.enough ∙ sym (is_true _ passes-again.enough);
        starts = is_true (starts_good F) (starts-are features F wrote.passed) ∙ sym (is_true _ (starts-are features _ passes-again));
        trees = sym (ap seen_all trees-back ∙ seen-again);
      }

pub read_back : Returned ReadBack
read_back features F out n R l w nodes starts =
    record {
      answer = answered features F out n R l w nodes starts;
      trees = trees-back features F out n R l w nodes starts;
      starts = starts-back features F out n R l w nodes starts;
    }

pub same-answers : Returned SameAnswers
same-answers features F out n R l w nodes starts =
    let s = leaves-of-forests F (again features F (file_left features F out n) R) (agree features F out n R l w nodes starts) in
    record { means = s.0; out_of_bag = s.1; importances = s.2 }
