-- The root of a fit that passes refusals 3 and 5 is good: each listing has each row once and never falls, so all columns hold the kept rows, in order.
-- Then what holds of every growth from a good root holds of the fit. Assumes nothing.
use Prim.Native.Nat.{ℕ, ◌+◌, ◌-◌, ◌*◌, ◌<◌, ◌≤◌, max}
use Rattle.std.proofs.Common.{zero-add, ◌∙◌, ltb→lt}
use native.Mathlib.Omega.{arith}
use Rattle.std.specs.Prelude.{◌≡◌, refl, Bool, true, ◌&&◌, ◌||◌, length, get_or, ltb}
use Rattle.std.proofs.Math.Path.{sym, ap, subst}
use mathlib.Core.List.{[]}
use Rattle.std.proofs.Math.Dec.{T}
use Rattle.std.specs.Float.{nan}
use Rattle.std.specs.Float.Ieee.{lt, le}
use Rattle.std.specs.Float.Ieee.Fits.{and_l}
use Rattle.rules.specs.Words.{nought, from, keep, total, each_once}
use Rattle.rules.specs.Lent.{Data, OneTree, unweighted, count_in, kept_in, kept, kept_rows}
use Rattle.rules.specs.Checks.{room_for}
use Rattle.rules.specs.Draws.{tape}
use Rattle.rules.specs.Search.{Element, at, tally, search}
use Rattle.rules.specs.Growth.{from_root}
use Rattle.rules.specs.Fit.{listing, element_in, element, column, root, tree_of, grow_from, fit}
use Rattle.lemmas.specs.Lists.{Every, every-imp, every-keep, every_map, kept-pass, keep-map, keep-keep, total-map, length-total, get_d-from, Ordered, ordered-keep, ordered-map}
use Rattle.lemmas.specs.Once.{once-below, once-keep}
use Rattle.lemmas.specs.Outs.{Then, then-then, then-any}
use Rattle.lemmas.specs.Nodes.{First}
use Rattle.lemmas.specs.Values.{Value}
use Rattle.lemmas.specs.Cuts.{Good, search-fine, tape-fair}
use Rattle.lemmas.specs.Room.{rows_of, room-enough}
use Rattle.lemmas.specs.Splits.{Stands}
use Rattle.lemmas.specs.Settled.{growth-first, growth-stands}

-- row a's value of feature j is at most row b's
abbrev pub Before : OneTree → Data → ℕ → ℕ → ℕ → Type 0
Before F D j a b = T (le (at j (element F D a)) (at j (element F D b)))

-- of what refusals 3 and 5 keep out, the part that is used
pub record Listed (F : OneTree) (D : Data) : Type 0 where
  pub once : (j : ℕ) → j < F.params.features → T (each_once F.rows (listing F D j))
  pub rising : (j : ℕ) → j < F.params.features → Ordered (Before F D j) (listing F D j)
  pub values : (i j : ℕ) → i < F.rows → j < F.params.features → Value (at j (element F D i))

-- a kept row has a count
kept-some : (F : OneTree) (i : ℕ) → kept F i ≡ true → 1 ≤ count_in F.counts i
unfolding kept kept_in
kept-some F i e = ltb→lt 0 (count_in F.counts i) (and_l (ltb 0 (count_in F.counts i)) (unweighted F.weights || lt nought (get_or F.weights i nan)) (subst T (sym e) tt))

-- the number of nodes reported is that of the nodes
pub fit-reported : (F : OneTree) (D : Data) → Then (fit F D) (λ t. t.report.nodes ≡ length t.nodes)
unfolding fit grow_from tree_of
fit-reported F D = then-any _ _ _ (λ s. refl)

-- and the mass reported is the root's
pub fit-mass : (F : OneTree) (D : Data) → Then (fit F D) (λ t. t.report.mass ≡ (root F D).totals.mass)
unfolding fit grow_from tree_of
fit-mass F D = then-any _ _ _ (λ s. refl)

-- the first of the nodes is the root
pub fit-first : (F : OneTree) (D : Data) → Then (fit F D) (λ t. First (root F D) t.nodes)
unfolding fit grow_from tree_of
fit-first F D =
    then-then (from_root F.params (search (tape F.params.features) F.params) (root F D) _) _ _ _
    (growth-first F.params (search (tape F.params.features) F.params) (root F D) _)
    (λ s h. h)

module _ (F : OneTree) (D : Data) (ok : Listed F D) where
  pub column-at : (j : ℕ) → j < F.params.features → get_or (root F D).columns j [] ≡ column F D j
  unfolding root
  column-at j h = get_d-from (column F D) 0 F.params.features j [] h ∙ ap (column F D) (zero-add j)

  -- by any weight, what passes any test in a column is what passes it among the kept rows
  column-total : (j : ℕ) → j < F.params.features → (f : Element → ℕ) (p : Element → Bool)
      → total f (keep p (column F D j)) ≡ total (λ i. f (element F D i)) (keep (λ i. kept F i && p (element F D i)) (from 0 F.rows))
  unfolding column
  column-total j h f p =
      ap (total f) (keep-map p (element F D) (keep (kept F) (listing F D j)))
      ∙ total-map f (element F D) (keep (λ i. p (element F D i)) (keep (kept F) (listing F D j)))
      ∙ ap (total (λ i. f (element F D i))) (keep-keep (λ i. p (element F D i)) (kept F) (listing F D j))
      ∙ once-keep F.rows (listing F D j) (ok.once j h) (λ i. f (element F D i)) (λ i. kept F i && p (element F D i))

  -- by any weight, a column weighs what the kept rows do
  column-whole : (j : ℕ) → j < F.params.features → (f : Element → ℕ) → total f (column F D j) ≡ total (λ i. f (element F D i)) (kept_rows F)
  unfolding column kept_rows
  column-whole j h f =
      total-map f (element F D) (keep (kept F) (listing F D j)) ∙ once-keep F.rows (listing F D j) (ok.once j h) (λ i. f (element F D i)) (kept F)

  -- what holds of every kept row of a listing holds along its column
  column-every : (Q : Element → Type 0) (j : ℕ) → j < F.params.features → Every (λ i. Q (element F D i)) (keep (kept F) (listing F D j)) → Every Q (get_or (root F D).columns j [])
  unfolding column
  column-every Q j h e = subst (Every Q) (sym (column-at j h)) (every_map Q (element F D) (keep (kept F) (listing F D j)) e)

  column-ordered : (R : Element → Element → Type 0) (j : ℕ) → j < F.params.features → Ordered (λ a b. R (element F D a) (element F D b)) (listing F D j) → Ordered R (get_or (root F D).columns j [])
  unfolding column
  column-ordered R j h o =
      subst (Ordered R) (sym (column-at j h)) (ordered-map R (element F D) (keep (kept F) (listing F D j)) (ordered-keep (λ a b. R (element F D a) (element F D b)) (kept F) (listing F D j) o))

  pub root-good : Good F.params (root F D)
  unfolding root element element_in
  root-good =
      record {
        sound = λ j h.
            record {
              known = h;
              counted = sym (ap tally (column-at j h) ∙ column-whole j h (λ e. e.count));
              some = column-every (λ x. 1 ≤ x.count) j h (every-imp _ _ (λ i e. kept-some F i e) (keep (kept F) (listing F D j)) (kept-pass (kept F) (listing F D j)));
              values = column-every (λ x. Value (at j x)) j h
                  (every-keep _ (kept F) (listing F D j) (every-imp _ _ (λ i b. ok.values i j b h) (listing F D j) (once-below F.rows (listing F D j) (ok.once j h))));
              rising = column-ordered (λ x y. T (le (at j x) (at j y))) j h (ok.rising j h);
            };
        level = λ i j hi hj f p.
            ap (λ c. total f (keep p c)) (column-at i hi) ∙ column-total i hi f p ∙ sym (ap (λ c. total f (keep p c)) (column-at j hj) ∙ column-total j hj f p);
      }

  pub root-rows : 0 < F.params.features → rows_of (root F D) ≡ length (kept_rows F)
  root-rows some = ap (total (λ e. 1)) (column-at 0 some) ∙ column-whole 0 some (λ e. 1) ∙ length-total (kept_rows F)

  -- the node room that is asked is enough
  pub fit-nodes : 0 < F.params.features → Then (fit F D) (λ t. length t.nodes ≤ room_for F)
  unfolding fit grow_from tree_of room_for
  fit-nodes some =
      then-then (from_root F.params (search (tape F.params.features) F.params) (root F D) _) _ _ _
      (room-enough F.params (search (tape F.params.features) F.params) (search-fine F.params (tape F.params.features) (tape-fair F.params)) some (root F D) _ root-good)
      (λ s h. enough (length s.nodes) (rows_of (root F D)) _ h (root-rows some))
    where
      enough : (n k k' : ℕ) → n ≤ 1 + 2 * (k - 1) → k ≡ k' → n ≤ max 1 (2 * k' - 1)
      enough n k k' h q = omega arith

  -- every split divides its node
  pub fit-stands : Then (fit F D) (λ t. Stands F.params t.nodes)
  unfolding fit grow_from tree_of
  fit-stands =
      then-then (from_root F.params (search (tape F.params.features) F.params) (root F D) _) _ _ _
      (growth-stands F.params (search (tape F.params.features) F.params) (root F D) _ (search-fine F.params (tape F.params.features) (tape-fair F.params)) root-good)
      (λ s h. h)
