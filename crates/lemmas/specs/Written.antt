-- What is written can be read back: the trees of a forest that answered are the trees that were grown, wherever they lie. Assumes nothing.
use Rattle.std.specs.Prelude.{ℕ, suc, ◌+◌, ◌<◌, ◌≤◌, ◌≡◌, refl, List, [], ◌∷◌, ◌++◌, map, length, get_or, T}
use Rattle.std.proofs.Common.{sym, ap, ◌∙◌, subst, append-nil}
use Rattle.std.proofs.lemmas.List.{length-map}
use Rattle.rules.specs.Words.{front, joined, total}
use Rattle.rules.specs.Lent.{Columns, Entry, shortest, entries_at, write_entries}
use Rattle.rules.specs.Fit.{entries, Tree}
use Rattle.rules.specs.Table.{good_tree, ForestTable, trees_of, good_forest}
use Rattle.rules.specs.Forest.{starts_from, forest_entries}
use Rattle.rules.specs.Model.{starts_of}
use Rattle.lemmas.specs.Lists.{Every, all_pass, every_map}
use Rattle.lemmas.specs.Tables.{length-entries}
use Rattle.lemmas.specs.Laid.{entries-written, first-laid, last-laid, next-laid, starts-laid, laid_out, length-laid, table_laid, trees-laid, good-laid}

-- one tree, of as many nodes as it reports
pub tree-written : (t : Tree) (c : Columns) → t.report.nodes ≡ length t.nodes → entries_at (write_entries (entries t.nodes) c) 0 t.report.nodes ≡ entries t.nodes
tree-written t c h =
    ap (λ n. entries_at (write_entries (entries t.nodes) c) 0 n) (h ∙ sym (length-entries t.nodes))
    ∙ entries-written (entries t.nodes) c (entries t.nodes) [] [] (sym (append-nil (entries t.nodes)))

-- ---- a forest's trees: those of their entries, laid out

abbrev pub tables : List Tree → List (List Entry)
tables ts = map (λ (t : Tree). entries t.nodes) ts

starts-as : (a : ℕ) (ts : List Tree) → starts_from a ts ≡ starts_of a (tables ts)
unfolding starts_from starts_of
starts-as a [] = refl
starts-as a (t ∷ ts) = ap (λ l. a ∷ l) (starts-as (a + length t.nodes) ts ∙ ap (λ n. starts_of (a + n) (tables ts)) (sym (length-entries t.nodes)))

entries-as : (ts : List Tree) → forest_entries ts ≡ laid_out (tables ts)
unfolding forest_entries joined
entries-as [] = refl
entries-as (t ∷ ts) = ap (λ l. entries t.nodes ++ l) (entries-as ts)

lengths-as : (ts : List Tree) → map length (tables ts) ≡ map (λ (u : Tree). length u.nodes) ts
lengths-as [] = refl
lengths-as (t ∷ ts) = λ i. length-entries t.nodes i ∷ lengths-as ts i

pub first-start : (a : ℕ) (ts : List Tree) (x : List ℕ) (d : ℕ) → get_or (starts_from a ts ++ x) 0 d ≡ a
first-start a ts x d = ap (λ l. get_or (l ++ x) 0 d) (starts-as a ts) ∙ first-laid a (tables ts) x d

pub last-start : (a : ℕ) (ts : List Tree) (x : List ℕ) (d : ℕ) → get_or (starts_from a ts ++ x) (length ts) d ≡ a + length (forest_entries ts)
last-start a ts x d =
    (λ i. get_or (starts-as a ts i ++ x) (sym (length-map ts (λ (t : Tree). entries t.nodes)) i) d)
    ∙ last-laid a (tables ts) x d ∙ ap (λ n. a + n) (sym (ap length (entries-as ts) ∙ length-laid (tables ts)))

-- each starts where the one before it ends
pub next_start : (a : ℕ) (ts : List Tree) (x : List ℕ) (t : ℕ) → t < length ts
    → get_or (starts_from a ts ++ x) (suc t) 0 ≡ get_or (starts_from a ts ++ x) t 0 + get_or (map (λ (u : Tree). length u.nodes) ts) t 0
next_start a ts x t h =
    ap (λ l. get_or (l ++ x) (suc t) 0) (starts-as a ts)
    ∙ next-laid a (tables ts) x t (subst (λ n. t < n) (sym (length-map ts (λ (u : Tree). entries u.nodes))) h)
    ∙ (λ i. get_or (sym (starts-as a ts) i ++ x) t 0 + get_or (lengths-as ts i) t 0)

-- all the nodes
pub length-forest : (ts : List Tree) → length (forest_entries ts) ≡ total (λ n. n) (map (λ (u : Tree). length u.nodes) ts)
unfolding total
length-forest ts = ap length (entries-as ts) ∙ length-laid (tables ts) ∙ sums (tables ts) ∙ ap (total (λ n. n)) (lengths-as ts)
  where
    sums : (us : List (List Entry)) → total length us ≡ total (λ n. n) (map length us)
    sums [] = refl
    sums (u ∷ us) = ap (λ n. length u + n) (sums us)

-- a forest's table as a fit leaves it
abbrev pub table_left : ℕ → List Tree → Columns → List ℕ → ForestTable
table_left trees ts c starts = record { trees = trees; nodes = write_entries (forest_entries ts) c; starts = front (starts_from 0 ts) starts }

table-as : (trees : ℕ) (ts : List Tree) (c : Columns) (starts : List ℕ) → table_left trees ts c starts ≡ table_laid trees (tables ts) c starts
table-as trees ts c starts = λ i. record { trees = trees; nodes = write_entries (entries-as ts i) c; starts = front (starts-as 0 ts i) starts }

pub trees-written : (c : Columns) (starts : List ℕ) (ts : List Tree) (trees : ℕ) → length ts ≡ trees → trees_of (table_left trees ts c starts) ≡ tables ts
trees-written c starts ts trees h = ap trees_of (table-as trees ts c starts) ∙ trees-laid c starts (tables ts) trees (length-map ts _ ∙ h)

pub starts-length : (a : ℕ) (ts : List Tree) → length (starts_from a ts) ≡ suc (length ts)
starts-length a ts = ap length (starts-as a ts) ∙ starts-laid a (tables ts) ∙ ap suc (length-map ts _)

pub written-good : (features trees : ℕ) (c : Columns) (starts : List ℕ) (ts : List Tree) → length ts ≡ trees → Every (λ (t : Tree). T (good_tree features (entries t.nodes))) ts
    → length (forest_entries ts) ≤ shortest c → T (good_forest features (table_left trees ts c starts))
written-good features trees c starts ts n e room =
    subst (λ t. T (good_forest features t)) (sym (table-as trees ts c starts))
    (good-laid features trees c starts (tables ts) (length-map ts _ ∙ n) (all_pass (good_tree features) (tables ts) (every_map _ _ ts e))
    (subst (λ l. length l ≤ shortest c) (entries-as ts) room))
