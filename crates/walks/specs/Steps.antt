-- A step of a walk that stays at a leaf, as rows that walk side by side take it. Assumes nothing.
use Rattle.std.specs.Prelude.{ℕ, suc, ◌+◌, ◌-◌, ◌*◌, ◌<◌, ◌≤◌, min, ◌≡◌, cond, List, length, get_or, Float}
use Rattle.std.proofs.Common.{zero-add, arith, sym, ap, ◌∙◌, subst, eq-eqb, ne_eqb}
use Rattle.std.proofs.Math.Decide.{ℕ_discrete}
use Rattle.std.specs.Float.{nan}
use Rattle.std.specs.Float.Ieee.{le}
use Rattle.rules.specs.Lent.{Columns, Entry, cell, values_at, entry_at, entries_at}
use Rattle.entries.specs.Entries.{next_of}
use Rattle.tables.specs.Table.{TreeLies}
use Rattle.walks.specs.Walks.{leaf_at, Reached, onward, walk-stops, walk-goes, sent, sent-up}

-- from node k of a tree that is lent alone. At a leaf the feature may be any number: what is then looked at does not matter, but it must be there
abbrev pub step_of : ℕ → List Float → Columns → ℕ → ℕ → ℕ
step_of features xs c i k = next_of k (cell features xs (min (get_or c.feature k 0) (features - 1)) i) (get_or c.threshold k nan) (get_or c.true_child k 0)

-- row i's values and node k are there
pub record Steppable (features i k : ℕ) (xs : List Float) (c : Columns) : Type 0 where
  pub some : 0 < features
  pub row : i * features + features ≤ length xs
  pub known : k < length c.feature
  pub cut : k < length c.threshold
  pub child : k < length c.true_child

module _ (features n : ℕ) (c : Columns) (lies : TreeLies features 0 n c) (xs : List Float) where
  abbrev pub es : List Entry
  es = entries_at c 0 n

  abbrev pub row : ℕ → List Float
  row i = values_at features xs i

  abbrev on_from : ℕ → ℕ → ℕ → ℕ
  on_from at i k = next_of k (cell features xs (min (get_or c.feature at 0) (features - 1)) i) (get_or c.threshold at nan) (get_or c.true_child at 0)

  -- the walk has gone on from node k, which stands at that place, to node m, or it stays at a leaf
  pub record Stepped (i k at m : ℕ) : Type 0 where
    pub up : k ≤ m
    pub still : m ≡ k → get_or c.true_child at 0 ≡ 0
    pub there : Reached n es (row i) m

  steps_on : (i k : ℕ) → Reached n es (row i) k → Stepped i k (0 + k) (on_from (0 + k) i k)
  unfolding cell
  steps_on i k r = go (ℕ_discrete (get_or c.true_child (0 + k) 0) 0)
    where
      e : Entry
      e = entry_at c (0 + k)

      stays : e.true_child ≡ 0 → on_from (0 + k) i k ≡ k
      stays z =
          ap (λ b. cond b k (cond (le (cell features xs (min e.feature (features - 1)) i) e.threshold) e.true_child (suc e.true_child))) (eq-eqb e.true_child 0 z)

      low : (j m : ℕ) → j < m → min j (m - 1) ≡ j
      low j m h = omega arith

      goes : (e.true_child ≡ 0 → ⊥) → on_from (0 + k) i k ≡ sent features 0 n c lies.good (row i) k
      goes z =
          ap (λ b. cond b k (cond (le (cell features xs (min e.feature (features - 1)) i) e.threshold) e.true_child (suc e.true_child))) (ne_eqb e.true_child 0 z)
          ∙ ap (λ j. cond (le (get_or (row i) j nan) e.threshold) e.true_child (suc e.true_child))
          (low e.feature features (onward features 0 n c lies.good k r.inside z).known)

      above : (k m j : ℕ) → m ≡ j → k < j → k ≤ m
      above k m j e h = omega arith

      apart : (k m j : ℕ) → m ≡ j → k < j → m ≡ k → ⊥
      apart k m j e h q = omega arith

      go : Dec (e.true_child ≡ 0) → Stepped i k (0 + k) (on_from (0 + k) i k)
      go (yes z) = record { up = same k _ (stays z); still = λ h. z; there = subst (Reached n es (row i)) (sym (stays z)) r }
        where
          same : (k m : ℕ) → m ≡ k → k ≤ m
          same k m e = omega arith
      go (no z) =
          let up = (sent-up features 0 n c lies.good (row i) k r.inside z).0 in
          record {
            up = above k _ _ (goes z) up;
            still = λ h. absurd (apart k _ _ (goes z) up h);
            there = subst (Reached n es (row i)) (sym (goes z)) (walk-goes features 0 n c lies.good (row i) k r z);
          }

  pub stepped : (i k : ℕ) → Reached n es (row i) k → Stepped i k k (step_of features xs c i k)
  stepped i k r = subst (λ at. Stepped i k at (on_from at i k)) (zero-add k) (steps_on i k r)

  -- without a true child it has come to its leaf
  pub stops : (i k : ℕ) → Reached n es (row i) k → get_or c.true_child k 0 ≡ 0 → get_or c.value k nan ≡ leaf_at features xs es i
  stops i k r z =
      ap (λ at. get_or c.value at nan) (sym (zero-add k)) ∙ walk-stops features 0 n c lies.good (row i) k r (ap (λ at. get_or c.true_child at 0) (zero-add k) ∙ z)
