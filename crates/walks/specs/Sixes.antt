-- Six rows that walk side by side until all are at leaves: where they are stands in a list of six nodes. Assumes nothing.
use Rattle.std.specs.Prelude.{ℕ, zero, suc, ◌+◌, ◌-◌, ◌*◌, ◌<◌, ◌≤◌, ◌≡◌, refl, List, [], ◌∷◌, map, length, get_or, Float}
use Rattle.std.specs.List.{sum_by}
use Rattle.std.proofs.Common.{arith, add-zero, sym, ap, ◌∙◌, subst}
use Rattle.std.proofs.lemmas.List.Sums.{sum_by-cons, get_or-le-sum_by}
use Rattle.std.specs.Float.{nan}
use Rattle.rules.specs.Words.{from}
use Rattle.rules.specs.Lent.{Columns, Entry, values_at, entries_at}
use Rattle.lemmas.specs.Cells.{stretch-within}
use Rattle.tables.specs.Table.{TreeLies}
use Rattle.walks.specs.Walks.{Readable, leaf_at, Reached, walk-starts}
use Rattle.walks.specs.Steps.{step_of, Steppable, Stepped, stepped, stops}

-- ---- what is asked

-- six nodes of a tree of n nodes, or of columns of n places
pub record Among (n : ℕ) (v : List ℕ) : Type 0 where
  pub each : (j : ℕ) → j < 6 → get_or v j 0 < n

-- a step can be taken from each
pub record SixSteppable (features i : ℕ) (v : List ℕ) (xs : List Float) (c : Columns) : Type 0 where
  pub few : i ≤ 65535
  pub each : (j : ℕ) → j < 6 → Steppable features (i + j) (get_or v j 0) xs c

-- and has been taken from each
pub record SixStepped (features i : ℕ) (v : List ℕ) (xs : List Float) (c : Columns) (w : List ℕ) : Type 0 where
  pub long : length w ≡ 6
  pub each : (j : ℕ) → j < 6 → get_or w j 0 ≡ step_of features xs c (i + j) (get_or v j 0)

-- what stands at each
pub record SixRead (vs : List Float) (v : List ℕ) (w : List Float) : Type 0 where
  pub long : length w ≡ 6
  pub each : (j : ℕ) → j < 6 → get_or w j nan ≡ get_or vs (get_or v j 0) nan

-- a good tree, and the values of six rows from row i on
pub record SixWalkable (features a n i : ℕ) (xs : List Float) (c : Columns) : Type 0 where
  pub tree : TreeLies features a n c
  pub some : 0 < features
  pub few : i ≤ 65535
  pub rows : (k : ℕ) → k < i + 6 → k * features + features ≤ length xs

-- ---- numbers added up

-- where they stand, by how far each is
abbrev pub added : List ℕ → ℕ
added v = sum_by (λ k. k) v

-- no more than that many times the greatest
sum-low : (f : ℕ → ℕ) (m : ℕ) (v : List ℕ) → ((j : ℕ) → j < length v → f (get_or v j 0) ≤ m) → sum_by f v ≤ length v * m
sum-low f m [] h = omega arith
sum-low f m (k ∷ v) h = omega (arith, sum_by-cons f k v, h 0 (omega arith), sum-low f m v (λ j b. h (suc j) (omega arith)))

-- if none goes down the sum does not, and if it does not go up all are where they were
sum-up : (v w : List ℕ) → length w ≡ length v → ((j : ℕ) → j < length v → get_or v j 0 ≤ get_or w j 0) → added v ≤ added w
sum-up [] [] e h = omega arith
sum-up [] (m ∷ w) e h = absurd (omega arith)
sum-up (k ∷ v) [] e h = absurd (omega arith)
sum-up (k ∷ v) (m ∷ w) e h =
    omega (arith, sum_by-cons (λ k. k) k v, sum_by-cons (λ k. k) m w, h 0 (omega arith), sum-up v w (omega arith) (λ j b. h (suc j) (omega arith)))

all-still : (v w : List ℕ) → length w ≡ length v → ((j : ℕ) → j < length v → get_or v j 0 ≤ get_or w j 0) → added w ≤ added v
    → (j : ℕ) → j < length v → get_or w j 0 ≡ get_or v j 0
all-still [] w e h s j b = absurd (omega arith)
all-still (k ∷ v) [] e h s j b = absurd (omega arith)
all-still (k ∷ v) (m ∷ w) e h s zero b =
    omega (arith, sum_by-cons (λ k. k) k v, sum_by-cons (λ k. k) m w, h 0 (omega arith), sum-up v w (omega arith) (λ j b. h (suc j) (omega arith)))
all-still (k ∷ v) (m ∷ w) e h s (suc j) b =
    all-still v w (omega arith) (λ j b. h (suc j) (omega arith)) (omega (arith, sum_by-cons (λ k. k) k v, sum_by-cons (λ k. k) m w, h 0 (omega arith))) j (omega arith)

-- a list by what stands at each place
by-row : (g : ℕ → Float) (i : ℕ) (w : List Float) → ((j : ℕ) → j < length w → get_or w j nan ≡ g (i + j)) → w ≡ map g (from i (length w))
unfolding from
by-row g i [] h = refl
by-row g i (x ∷ w) h = λ z. (h 0 (omega arith) ∙ ap g (add-zero i)) z ∷ by-row g (suc i) w (λ j b. h (suc j) (omega arith) ∙ ap g (up i j)) z
  where
    up : (i j : ℕ) → i + suc j ≡ suc i + j
    up i j = omega arith

-- ---- until all six are at leaves

module _ (features n i : ℕ) (xs : List Float) (c : Columns) where
  abbrev es : List Entry
  es = entries_at c 0 n

  abbrev row : ℕ → List Float
  row j = values_at features xs j

  -- each row is where its own walk is
  pub record SixReached (v : List ℕ) : Type 0 where
    pub long : length v ≡ 6
    pub each : (j : ℕ) → j < 6 → Reached n es (row (i + j)) (get_or v j 0)

  module _ (w : SixWalkable features 0 n i xs c) where
    -- at the root
    pub six-starts : SixReached (0 ∷ 0 ∷ 0 ∷ 0 ∷ 0 ∷ 0 ∷ [])
    six-starts = record { long = refl; each = at }
      where
        root : (j : ℕ) → Reached n es (row j) 0
        root j = walk-starts features 0 n c w.tree.good (row j)

        at : (j : ℕ) → j < 6 → Reached n es (row (i + j)) (get_or (0 ∷ 0 ∷ 0 ∷ 0 ∷ 0 ∷ 0 ∷ []) j 0)
        at zero b = root (i + 0)
        at (suc zero) b = root (i + 1)
        at (suc (suc zero)) b = root (i + 2)
        at (suc (suc (suc zero))) b = root (i + 3)
        at (suc (suc (suc (suc zero)))) b = root (i + 4)
        at (suc (suc (suc (suc (suc zero))))) b = root (i + 5)
        at (suc (suc (suc (suc (suc (suc j)))))) b = absurd (omega (arith, b))

    on : (j k : ℕ) → Reached n es (row j) k → Stepped features n c w.tree xs j k k (step_of features xs c j k)
    on j k g = stepped features n c w.tree xs j k g

    pub six-goes : (v next : List ℕ) → SixReached v → SixStepped features i v xs c next → SixReached next
    six-goes v next g s =
        record { long = s.long; each = λ j b. subst (Reached n es (row (i + j))) (sym (s.each j b)) (on (i + j) (get_or v j 0) (g.each j b)).there }

    inside : (v : List ℕ) → SixReached v → added v ≤ 6 * n
    inside v g = subst (λ m. added v ≤ m * n) g.long (sum-low (λ k. k) n v (λ j b. omega (arith, (g.each j (subst (λ m. j < m) g.long b)).inside)))

    -- while one has a true child, one goes up
    pub six-falls : (v next : List ℕ) → SixReached v → SixStepped features i v xs c next → (sum_by (λ k. get_or c.true_child k 0) v ≡ 0 → ⊥)
        → 6 * n - added next < 6 * n - added v
    six-falls v next g s z = omega (arith, inside next (six-goes v next g s), no)
      where
        six : (j : ℕ) → j < length v → j < 6
        six j b = subst (λ m. j < m) g.long b

        up : (j : ℕ) → j < length v → get_or v j 0 ≤ get_or next j 0
        up j b = subst (λ m. get_or v j 0 ≤ m) (sym (s.each j (six j b))) (on (i + j) (get_or v j 0) (g.each j (six j b))).up

        leaf : added next ≤ added v → (j : ℕ) → j < length v → get_or c.true_child (get_or v j 0) 0 ≤ 0
        leaf h j b =
            omega (arith, (on (i + j) (get_or v j 0) (g.each j (six j b))).still (sym (s.each j (six j b)) ∙ all-still v next (s.long ∙ sym g.long) up h j b))

        no : added next ≤ added v → ⊥
        no h = z (omega (arith, sum-low (λ k. get_or c.true_child k 0) 0 v (leaf h)))

    pub six-stops : (v : List ℕ) → SixReached v → sum_by (λ k. get_or c.true_child k 0) v ≡ 0 → (r : List Float) → SixRead c.value v r → r ≡ map (leaf_at features xs es) (from i 6)
    six-stops v g z r t =
        subst (λ m. r ≡ map (leaf_at features xs es) (from i m)) t.long
        (by-row (leaf_at features xs es) i r
        (λ j b. let h = subst (λ m. j < m) t.long b in t.each j h ∙ stops features n c w.tree xs (i + j) (get_or v j 0) (g.each j h) (none j h)))
      where
        none : (j : ℕ) → j < 6 → get_or c.true_child (get_or v j 0) 0 ≡ 0
        none j b = omega (arith, z, get_or-le-sum_by (λ k. get_or c.true_child k 0) v j 0 (subst (λ m. j < m) (sym g.long) b))
