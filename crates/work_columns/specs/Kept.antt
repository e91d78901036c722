-- The kept rows of every listing at the front of the columns: they are the root's. Assumes nothing.
use Rattle.std.specs.Prelude.{ℕ, ◌+◌, ◌<◌, ◌≡◌, Bool, List, map, length, T}
use Rattle.std.proofs.Common.{arith, sym, ap, ◌∙◌, subst}
use Rattle.rules.specs.declared.Totals.{Totals}
use Rattle.rules.specs.Words.{from, keep, total, each_once}
use Rattle.rules.specs.Lent.{Data, OneTree, listing_at, count_in, kept, kept_in, kept_rows}
use Rattle.rules.specs.Totals.{empty}
use Rattle.rules.specs.Search.{totals_of}
use Rattle.rules.specs.Fit.{element_in, element, listing, column, root}
use Rattle.lemmas.specs.Lists.{Every, every-imp, every-keep, map_same, length-total, from-below}
use Rattle.lemmas.specs.Once.{once-below, once-keep}
use Rattle.lemmas.specs.Work.{part, columns_at}
use Rattle.work_columns.specs.Columns.{bare, KeptAll}
use Rattle.work_columns.specs.Setup.{totals-bare}

-- a listing of every row once has as many kept rows as there are
pub kept-rows : (p : ℕ → Bool) (rows : ℕ) (l : List ℕ) → T (each_once rows l) → length (keep p l) ≡ length (keep p (from 0 rows))
kept-rows p rows l t = sym (length-total (keep p l)) ∙ once-keep rows l t (λ i. 1) p ∙ length-total (keep p (from 0 rows))

-- every kept row is a row
pub kept-below : (p : ℕ → Bool) (rows features : ℕ) (listings order : List ℕ) (r : ℕ) → KeptAll p rows features listings order r
    → ((j : ℕ) → j < features → T (each_once rows (listing_at rows listings j))) → (j : ℕ) → j < features → Every (λ i. i < rows) (part rows j 0 r order)
kept-below p rows features listings order r s once j h =
    subst (Every (λ i. i < rows)) (sym (s.written j h)) (every-keep (λ i. i < rows) p (listing_at rows listings j) (once-below rows (listing_at rows listings j) (once j h)))

-- so columns, totals and count are the root's
pub root-made : (F : OneTree) (D : Data) (order : List ℕ) (r : ℕ) (t : Totals) (n : ℕ)
    → KeptAll (kept_in F.weights F.counts) F.rows F.params.features D.listings order r
    → t ≡ totals_of empty (map (bare D.targets F.weights F.counts) (from 0 F.rows))
    → n ≡ total (count_in F.counts) (keep (kept_in F.weights F.counts) (from 0 F.rows))
    → root F D ≡ record {
      columns = columns_at (element_in F.params.features D.values D.targets F.weights F.counts) F.rows F.params.features 0 r order;
      totals = t;
      count = n;
    }
unfolding columns_at root element column listing kept kept_rows
root-made F D order r t n s et en =
    λ i. record { columns = sym columns i; totals = (totals-bare F.params.features D.values D.targets F.weights F.counts empty (from 0 F.rows) ∙ sym et) i; count = sym en i }
  where
    small : (j : ℕ) → j < 0 + F.params.features → j < F.params.features
    small j h = omega arith

    columns : map (λ k. map (element F D) (part F.rows k 0 r order)) (from 0 F.params.features) ≡ map (column F D) (from 0 F.params.features)
    columns =
        map_same _ _ (from 0 F.params.features)
        (every-imp _ _ (λ j h. ap (map (element F D)) (s.written j (small j h))) (from 0 F.params.features) (from-below 0 F.params.features))
