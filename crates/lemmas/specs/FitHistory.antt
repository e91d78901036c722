-- The history of a fit whose listings are in order, by row numbers: a node's columns are the listings with the kept rows alone that pass through it, its count is the sum of their counts,
-- and a split's rows go to its children by its cut. Every node but the root has a count, and the least leaf. Assumes nothing.
use Rattle.std.specs.Prelude.{ℕ, suc, ◌<◌, ◌≤◌, ◌≡◌, refl, Bool, ◌&&◌, List, [], map, length, Float}
use Rattle.std.proofs.Common.{sym, ◌∙◌}
use Rattle.std.proofs.Math.Path.{ap}
use Rattle.std.proofs.Math.Bool.{not, and_assoc}
use Rattle.std.proofs.Math.ListN.{get_or}
use Rattle.std.specs.Float.Ieee.{le}
use Rattle.rules.specs.declared.Params.{Params}
use Rattle.rules.specs.declared.Cut.{Cut}
use Rattle.rules.specs.declared.Fork.{Fork}
use Rattle.rules.specs.declared.Kind.TheVariants.{Split}
use Rattle.rules.specs.Words.{from, keep, total}
use Rattle.rules.specs.Lent.{Data, OneTree, Entry, values_at, cell, count_in, kept, kept_rows}
use Rattle.rules.specs.Draws.{Out, Tapes, tape}
use Rattle.rules.specs.Search.{Element, at, NodeRows, tally, goes_true, Found, search}
use Rattle.rules.specs.Growth.{State, from_root}
use Rattle.rules.specs.Fit.{element_in, element, listing, column, root, tree_of, grow_from, fit, entries}
use Rattle.lemmas.specs.Lists.{every-all, keep_same, keep-map, keep-keep, get_d-keep, total-map}
use Rattle.lemmas.specs.Once.{once-keep}
use Rattle.lemmas.specs.Outs.{Then, then-then}
use Rattle.lemmas.specs.Nodes.{kind_at, count_at}
use Rattle.lemmas.specs.Cuts.{Good, Suits, search-fine, tape-fair}
use Rattle.lemmas.specs.Splits.{Stands}
use Rattle.lemmas.specs.Root.{Listed, column-at, root-good}
use Rattle.lemmas.specs.Passes.{passes}
use Rattle.lemmas.specs.Met.{Met, History}
use Rattle.lemmas.specs.History.{growth-history}
use Rattle.lemmas.specs.Settled.{count-met, good-met, stands-met, least-met}
use Rattle.lemmas.specs.Reached.{rows-met, through-child}

-- what a fit chooses by, and what it starts with
abbrev pub chooses : Params → Tapes → NodeRows → Out (Found × Tapes)
chooses P d node = search (tape P.features) P d node

abbrev pub start_of : OneTree → Tapes
start_of F = record { words = F.words; thresholds = F.thresholds; searches = 0 }

-- the history of a fit's growth that has ended
abbrev pub Grown : OneTree → Data → State Tapes → Type 0
Grown F D s = History F.params (chooses F.params) (root F D) (start_of F) [] s

-- a fit's tree is that of such an end
pub fit-grown : (F : OneTree) (D : Data) → Then (fit F D) (λ t. (s : State Tapes) × (tree_of F (root F D) s ≡ t) × Grown F D s)
unfolding fit grow_from
fit-grown F D =
    then-then (from_root F.params (chooses F.params) (root F D) (start_of F)) _ _ _ (growth-history F.params (chooses F.params) (root F D) (start_of F)) (λ s h. (s, refl, h))

-- row i's values, as it is trained on
abbrev pub trained : OneTree → Data → ℕ → List Float
trained F D i = values_at F.params.features D.values i

-- the kept rows that pass through node k of a table, in the order of feature j's listing
abbrev pub rows_at : OneTree → Data → List Entry → ℕ → ℕ → List ℕ
rows_at F D es k j = keep (λ i. kept F i && passes es (trained F D i) k) (listing F D j)

-- row i goes to the true side of a cut
abbrev pub goes_at : OneTree → Data → Cut → ℕ → Bool
goes_at F D c i = le (cell F.params.features D.values c.feature i) c.threshold

module _ {F : OneTree} {D : Data} (ok : Listed F D) {s : State Tapes} (g : Grown F D s) where
  abbrev P : Params
  P = F.params

  abbrev es : List Entry
  es = entries s.nodes

  -- a node as it was met
  abbrev pub met_at : ℕ → Met Tapes
  met_at = g.met

  fines : (d : Tapes) (node : NodeRows) → Good P node → Then (chooses P d node) (λ r. Suits P node r.0)
  fines = search-fine P (tape P.features) (tape-fair P)

  pub stands_at : Stands P s.nodes
  stands_at = stands-met g fines (root-good F D ok)

  pub good-at : (k : ℕ) → k < length s.nodes → Good P (met_at k).rows
  good-at = good-met g fines (root-good F D ok)

  -- every node but the root has a count, and the least leaf
  pub least_at : (k : ℕ) → k < length s.nodes → 0 < k → (1 ≤ count_at s.nodes k) × (P.leaf ≤ count_at s.nodes k)
  least_at = least-met g fines (root-good F D ok)

  -- its columns are listings
  pub column-rows : (k : ℕ) → k < length s.nodes → (j : ℕ) → j < P.features → get_or (met_at k).rows.columns j [] ≡ map (element F D) (rows_at F D es k j)
  unfolding column element element_in
  column-rows k l j h =
      ap (λ cs. get_or cs j []) (rows-met g stands_at k l)
      ∙ get_d-keep (λ (e : Element). passes es e.values k) (root F D).columns j
      ∙ ap (keep (λ (e : Element). passes es e.values k)) (column-at F D ok j h)
      ∙ keep-map (λ (e : Element). passes es e.values k) (element F D) (keep (kept F) (listing F D j))
      ∙ ap (map (element F D)) (keep-keep (λ i. passes es (trained F D i) k) (kept F) (listing F D j))

  -- what passes any test weighs the same along a listing and by row number
  along-listing : (k j : ℕ) → j < P.features → (f : ℕ → ℕ) → total f (rows_at F D es k j) ≡ total f (keep (λ i. passes es (trained F D i) k) (kept_rows F))
  unfolding kept_rows
  along-listing k j h f =
      once-keep F.rows (listing F D j) (ok.once j h) f (λ i. kept F i && passes es (trained F D i) k)
      ∙ ap (total f) (sym (keep-keep (λ i. passes es (trained F D i) k) (kept F) (from 0 F.rows)))

  pub count-along : (k : ℕ) → k < length s.nodes → (j : ℕ) → j < P.features → count_at s.nodes k ≡ total (count_in F.counts) (rows_at F D es k j)
  unfolding element element_in
  count-along k l j h =
      count-met g k l ∙ ((good-at k l).sound j h).counted ∙ ap tally (column-rows k l j h)
      ∙ total-map (λ (e : Element). e.count) (element F D) (rows_at F D es k j)

  pub count-through : 0 < P.features → (k : ℕ) → k < length s.nodes → count_at s.nodes k ≡ total (count_in F.counts) (keep (λ i. passes es (trained F D i) k) (kept_rows F))
  count-through some k l = count-along k l 0 some ∙ along-listing k 0 some (count_in F.counts)

  -- ---- a split's rows go to its children

  pub rows_child : (k : ℕ) → k < length s.nodes → (fork : Fork) → kind_at s.nodes k ≡ Split fork → (j : ℕ)
      → (rows_at F D es fork.children j ≡ keep (goes_at F D fork.cut) (rows_at F D es k j))
      × (rows_at F D es (suc fork.children) j ≡ keep (λ i. not (goes_at F D fork.cut i)) (rows_at F D es k j))
  unfolding goes_true at element element_in cell
  rows_child k l fork e j = (side fork.children (goes_at F D fork.cut) (λ i. (goes i).0), side (suc fork.children) (λ i. not (goes_at F D fork.cut i)) (λ i. (goes i).1))
    where
      goes : (i : ℕ) → (passes es (trained F D i) fork.children ≡ (passes es (trained F D i) k && goes_at F D fork.cut i))
          × (passes es (trained F D i) (suc fork.children) ≡ (passes es (trained F D i) k && not (goes_at F D fork.cut i)))
      goes i = through-child g stands_at k l fork e (element F D i)

      side : (c : ℕ) (p : ℕ → Bool) → ((i : ℕ) → passes es (trained F D i) c ≡ (passes es (trained F D i) k && p i)) → rows_at F D es c j ≡ keep p (rows_at F D es k j)
      side c p same =
          keep_same (λ i. kept F i && passes es (trained F D i) c) (λ i. (kept F i && passes es (trained F D i) k) && p i) (listing F D j)
          (every-all _ (λ i. ap (λ b. kept F i && b) (same i) ∙ sym (and_assoc (kept F i) (passes es (trained F D i) k) (p i))) (listing F D j))
          ∙ sym (keep-keep p (λ i. kept F i && passes es (trained F D i) k) (listing F D j))
