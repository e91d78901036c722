-- What is seen of an entry: what stands in a leaf's feature, threshold and score is never looked at. Assumes nothing.
use Rattle.std.specs.Prelude.{ℕ, ◌+◌, ◌≡◌, refl, cond, List, [], ◌∷◌, map, length, T}
use Rattle.std.proofs.Common.{ap, ◌∙◌}
use Rattle.std.proofs.lemmas.List.{length-map}
use Rattle.std.specs.Float.{nan, binary64}
use Rattle.std.specs.Float.Ieee.{fits}
use Rattle.std.specs.Float.Ieee.Fits.{nan-fits}
use Rattle.rules.specs.Words.{from, total}
use Rattle.rules.specs.Lent.{Columns, Entry, entry_at, entries_at, leaf_entry}
use Rattle.rules.specs.Table.{is_leaf, ForestTable, tree_at, trees_of}
use Rattle.rules.specs.Model.{starts_of}
use Rattle.lemmas.specs.Lists.{Every, every-all, every-or, every_map}
use Rattle.lemmas.specs.Passed.{Binary64}

-- a leaf's feature, threshold and score are taken as 0
abbrev pub seen : Entry → Entry
seen e = cond (is_leaf e) (leaf_entry e.value) e

-- its floats are binary64, as those of every lent slice are
pub record EntryFits (e : Entry) : Type 0 where
  pub value : T (fits binary64 e.value)
  pub threshold : T (fits binary64 e.threshold)
  pub score : T (fits binary64 e.score)

-- ---- of all the entries of a table

entry-fits : (c : Columns) → Binary64 c.value → Binary64 c.threshold → Binary64 c.score → (k : ℕ) → EntryFits (entry_at c k)
entry-fits c v t s k =
    record {
      value = every-or _ c.value nan k v (nan-fits binary64);
      threshold = every-or _ c.threshold nan k t (nan-fits binary64);
      score = every-or _ c.score nan k s (nan-fits binary64);
    }

entries_fit : (c : Columns) → ((k : ℕ) → EntryFits (entry_at c k)) → (a n : ℕ) → Every EntryFits (entries_at c a n)
unfolding entries_at
entries_fit c h a n = every_map EntryFits (entry_at c) (from a n) (every-all _ h (from a n))

pub trees-fit : (F : ForestTable) → Binary64 F.nodes.value → Binary64 F.nodes.threshold → Binary64 F.nodes.score → Every (Every EntryFits) (trees_of F)
unfolding trees_of tree_at
trees-fit F v t s = every_map (Every EntryFits) (tree_at F.nodes F.starts) (from 0 F.trees) (every-all _ (λ k. entries_fit F.nodes (entry-fits F.nodes v t s) _ _) (from 0 F.trees))

-- as many are seen as there are, from the same starts
pub seen-total : (ts : List (List Entry)) → total length (map (map seen) ts) ≡ total length ts
unfolding total
seen-total [] = refl
seen-total (t ∷ ts) = λ i. length-map t seen i + seen-total ts i

pub seen-starts : (a : ℕ) (ts : List (List Entry)) → starts_of a (map (map seen) ts) ≡ starts_of a ts
unfolding starts_of
seen-starts a [] = refl
seen-starts a (t ∷ ts) = ap (λ l. a ∷ l) (seen-starts (a + length (map seen t)) ts ∙ ap (λ n. starts_of (a + n) ts) (length-map t seen))
