-- A row's walk through a good tree that lies in the columns: where it is after some steps, and where it stops. Assumes nothing.
use Prim.Native.Nat.{ℕ, zero, suc, ◌+◌, ◌-◌, ◌*◌, ◌<◌, ◌≤◌}
use native.Mathlib.Omega.{arith}
use Rattle.std.specs.Prelude.{◌≡◌, refl, Bool, true, false, ◌&&◌, List, length, get_or, T, leb, ltb, Float}
use Rattle.std.proofs.Math.Path.{sym, ap, subst}
use Rattle.std.proofs.Common.{◌∙◌, leb→le, ltb→lt}
use Rattle.std.proofs.Math.Bool.{cond}
use Rattle.std.proofs.Math.Dec.{eqb}
use Rattle.std.specs.Float.{nan}
use Rattle.std.specs.Float.Ieee.{le}
use Rattle.std.specs.Float.Ieee.Fits.{and_l, and_r}
use borrow.Author.Tests.{ne_eqb}
use Rattle.rules.specs.declared.Shape.{Shape}
use Rattle.rules.specs.Checks.{within, rows_in, features_in, shape_in}
use Rattle.rules.specs.Lent.{Columns, Entry, cell, values_at, entry_at, entries_at}
use Rattle.rules.specs.Table.{is_leaf, good_from, good_tree}
use Rattle.rules.specs.Reading.{no_entry, onto, walked, leaf_value}
use Rattle.lemmas.specs.Lists.{get_d-from}
use Rattle.lemmas.specs.Tables.{Onward, node-good, leaf-stays}
use Rattle.lemmas.specs.Cells.{cell_lies, stretch-within}
use Rattle.tables.specs.Table.{TreeLies}
use Rattle.lemmas.specs.Laid.{entries-long}

-- a good tree, and the values of row i
pub record Walkable (features a n i : ℕ) (xs : List Float) (c : Columns) : Type 0 where
  pub tree : TreeLies features a n c
  pub row : i * features + features ≤ length xs

-- and of all rows, with a place for each in the result room
pub record Readable (rows features a n : ℕ) (xs : List Float) (c : Columns) (out : List Float) : Type 0 where
  pub tree : TreeLies features a n c
  pub some : 0 < features
  pub few : rows ≤ 65535
  pub long : length xs ≡ rows * features
  pub room : length out ≡ rows

pub walkable : (rows features a n : ℕ) (xs : List Float) (c : Columns) (out : List Float) → Readable rows features a n xs c out → (i : ℕ) → i < rows → Walkable features a n i xs c
walkable rows features a n xs c out r i h =
    record { tree = r.tree; row = subst (λ m. i * features + features ≤ m) (sym r.long) (stretch-within i rows features h) }

pub features-some : (S : Shape) → shape_in S ≡ true → 0 < S.features
unfolding within
features-some S h = leb→le 1 S.features (and_l (leb 1 S.features) (leb S.features 1024) (and_r (rows_in S.rows) (features_in S.features) (subst T (sym h) tt)))

-- what row i comes to in a tree
abbrev pub leaf_at : ℕ → List Float → List Entry → ℕ → Float
leaf_at features xs es i = leaf_value es (values_at features xs i)

-- the walk is at node k of n: some steps are left, enough to come to a leaf
pub record Reached (n : ℕ) (es : List Entry) (xs : List Float) (k : ℕ) : Type 0 where
  pub inside : k < n
  pub steps : ℕ
  pub enough : n ≤ k + steps
  pub same : walked n es xs 0 ≡ walked steps es xs k

module _ (features a n : ℕ) (c : Columns) (good : good_tree features (entries_at c a n) ≡ true) where
  abbrev pub es : List Entry
  es = entries_at c a n

  abbrev pub node : ℕ → Entry
  node k = entry_at c (a + k)

  is-good : T (good_tree features es)
  is-good = subst T (sym good) tt

  here : (k : ℕ) → k < n → get_or es k no_entry ≡ node k
  unfolding entries_at
  here k h = get_d-from (entry_at c) a n k no_entry h

  splits : (k : ℕ) → k < n → is_leaf (get_or es k no_entry) ≡ false → Onward features n k (node k)
  splits k h l =
      subst (λ e. Onward features n k e) (here k h)
      (subst (λ m. Onward features m k (get_or es k no_entry)) (entries-long c a n)
      (node-good features es is-good k (subst (λ m. k < m) (sym (entries-long c a n)) h) l))

  no-leaf : (k : ℕ) → k < n → ((node k).true_child ≡ 0 → ⊥) → is_leaf (get_or es k no_entry) ≡ false
  unfolding is_leaf
  no-leaf k h z = ap is_leaf (here k h) ∙ (λ i. ne_eqb (node k).true_child 0 z i && eqb (node k).false_child 0)

  -- a node with a true child has all that a split has
  pub onward : (k : ℕ) → k < n → ((node k).true_child ≡ 0 → ⊥) → Onward features n k (node k)
  onward k h z = splits k h (no-leaf k h z)

  module _ (xs : List Float) where
    pub walk-starts : Reached n es xs 0
    unfolding good_tree
    walk-starts =
        record {
          inside = subst (λ m. 0 < m) (entries-long c a n) (ltb→lt 0 (length es) (and_l (ltb 0 (length es)) (good_from features (length es) 0 es) is-good));
          steps = n;
          enough = omega arith;
          same = refl;
        }

    -- without a true child it is a leaf
    pub walk-stops : (k : ℕ) → Reached n es xs k → (node k).true_child ≡ 0 → get_or c.value (a + k) nan ≡ leaf_value es xs
    unfolding leaf_value
    walk-stops k r z =
        sym (ap (λ m. (get_or es (walked m es xs 0) no_entry).value) (entries-long c a n)
        ∙ ap (λ m. (get_or es m no_entry).value) (r.same ∙ leaf-stays features es is-good xs r.steps k (go (is_leaf (get_or es k no_entry)) refl))
        ∙ ap (λ (e : Entry). e.value) (here k r.inside))
      where
        none : (k y : ℕ) → k < y → y ≡ 0 → ⊥
        none k y h e = omega arith

        go : (b : Bool) → is_leaf (get_or es k no_entry) ≡ b → is_leaf (get_or es k no_entry) ≡ true
        go true q = q
        go false q = absurd (none k (node k).true_child (splits k r.inside q).above z)

    -- where the row goes from a split: the false child comes next after the true one
    abbrev pub sent : ℕ → ℕ
    sent k = cond (le (get_or xs (node k).feature nan) (node k).threshold) (node k).true_child (suc (node k).true_child)

    goes_to : (k : ℕ) → k < n → ((node k).true_child ≡ 0 → ⊥) → onto (get_or es k no_entry) xs k ≡ sent k
    unfolding onto
    goes_to k h z =
        (λ i. cond (no-leaf k h z i) k (cond (le (get_or xs (here k h i).feature nan) (here k h i).threshold) (here k h i).true_child (here k h i).false_child))
        ∙ ap (λ m. cond (le (get_or xs (node k).feature nan) (node k).threshold) (node k).true_child m) (onward k h z).next

    -- up, and not out of the tree
    pub sent-up : (k : ℕ) → k < n → ((node k).true_child ≡ 0 → ⊥) → (k < sent k) × (sent k < n)
    sent-up k h z = go (le (get_or xs (node k).feature nan) (node k).threshold)
      where
        o : Onward features n k (node k)
        o = onward k h z

        go : (b : Bool) → (k < cond b (node k).true_child (suc (node k).true_child)) × (cond b (node k).true_child (suc (node k).true_child) < n)
        go true = (o.above, omega (arith, o.next, o.inside))
        go false = (omega (arith, o.above), omega (arith, o.next, o.inside))

    takes_step : (k : ℕ) → k < n → ((node k).true_child ≡ 0 → ⊥) → (m : ℕ) → n ≤ k + m → walked n es xs 0 ≡ walked m es xs k → Reached n es xs (sent k)
    unfolding walked
    takes_step k h z zero b e = absurd (out n k h b)
      where
        out : (n k : ℕ) → k < n → n ≤ k + 0 → ⊥
        out n k a b = omega arith
    takes_step k h z (suc m) b e =
        record {
          inside = (sent-up k h z).1;
          steps = m;
          enough = less n k (sent k) m (sent-up k h z).0 b;
          same = e ∙ ap (λ j. walked m es xs j) (goes_to k h z);
        }
      where
        less : (n k j m : ℕ) → k < j → n ≤ k + suc m → n ≤ j + m
        less n k j m x y = omega arith

    pub walk-goes : (k : ℕ) → Reached n es xs k → ((node k).true_child ≡ 0 → ⊥) → Reached n es xs (sent k)
    walk-goes k r z = takes_step k r.inside z r.steps r.enough r.same

-- ---- a step, by the value where it lies among those of all rows

module _ (features a n : ℕ) (c : Columns) (good : good_tree features (entries_at c a n) ≡ true) (xs : List Float) (i k : ℕ) where
  abbrev onto_by : ℕ
  onto_by =
      cond (le (get_or xs (i * features + get_or c.feature (a + k) 0) nan) (get_or c.threshold (a + k) nan)) (get_or c.true_child (a + k) 0) (suc (get_or c.true_child (a + k) 0))

  pub row-goes : Reached n (entries_at c a n) (values_at features xs i) k → (get_or c.true_child (a + k) 0 ≡ 0 → ⊥) → (m : ℕ) → m ≡ onto_by
      → (n - m < n - k) × Reached n (entries_at c a n) (values_at features xs i) m
  unfolding cell
  row-goes r z m e =
      (less k m _ n same up.0 up.1, subst (Reached n (entries_at c a n) (values_at features xs i)) (sym same) (walk-goes features a n c good (values_at features xs i) k r z))
    where
      same : m ≡ sent features a n c good (values_at features xs i) k
      same =
          e ∙ ap (λ x. cond (le x (get_or c.threshold (a + k) nan)) (get_or c.true_child (a + k) 0) (suc (get_or c.true_child (a + k) 0)))
          (sym (cell_lies features xs i (get_or c.feature (a + k) 0) (onward features a n c good k r.inside z).known))

      up : (k < sent features a n c good (values_at features xs i) k) × (sent features a n c good (values_at features xs i) k < n)
      up = sent-up features a n c good (values_at features xs i) k r.inside z

      less : (k j m n : ℕ) → j ≡ m → k < m → m < n → n - j < n - k
      less k j m n e h g = omega arith
