-- A sweep of the first rows, by their flags: it leaves what a sweep row by row leaves. Assumes nothing.
use Rattle.std.specs.Prelude.{ℕ, ◌+◌, ◌-◌, ◌<◌, ◌≤◌, ◌≡◌, Bool, not, length, get_or, take, drop}
use native.Mathlib.Omega.{arith}
use Rattle.std.proofs.Math.Path.{refl}
use Rattle.std.proofs.Common.{sym, ap, ◌∙◌, subst, length-set}
use Rattle.std.proofs.Math.Bool.{true, false}
use mathlib.Core.List.{List, [], ◌∷◌}
use Rattle.rules.specs.Words.{keep, put_if}
use Rattle.lemmas.specs.Lists.{Every, every_drop}
use Rattle.sweeps.specs.Swept.{fails, bit, PartAsks, SweepAsks, Begun, two_column, two_others, TwoDone, front_end, third_place, last_place, four_column, four_others, FourDone}

-- before the first row nothing is swept
pub begun-none : (p : ℕ → Bool) (l scratch : List ℕ) → Begun p l l scratch 0 0
unfolding keep
begun-none p l scratch = record { within = omega arith; few = omega arith; long = refl; passed = refl; others = refl; rest = refl }

-- it can go on
pub begun-asks : {p : ℕ → Bool} {before col scratch : List ℕ} {i w m n flags : ℕ} → Begun p before col scratch i w → PartAsks before m flags → n ≡ m → SweepAsks col n flags i w
begun-asks {i = i} {flags = flags} b q e =
    record {
      room = omega (arith, b.long, q.room);
      within = omega (arith, b.long, b.within);
      few = b.few;
      below = subst (Every (λ r. r < flags)) (sym b.rest) (every_drop _ i _ q.below);
    }

-- what a sweep of the first n rows leaves, by lists of those that pass and of the others
record Leaves (n : ℕ) (kept left rest col scratch : List ℕ) (r : ℕ) : Type 0 where
  few : r ≤ n
  passed : take r col ≡ kept
  others : take (n - r) scratch ≡ left
  same : drop n col ≡ rest

begun : {p : ℕ → Bool} {before kept left col scratch : List ℕ} {n r : ℕ} → Leaves n kept left (drop n before) col scratch r → n ≤ length before → length col ≡ length before
    → kept ≡ keep p (take n before) → left ≡ keep (fails p) (take n before) → {col' scratch' : List ℕ} {r' : ℕ} → r' ≡ r → col' ≡ col → scratch' ≡ scratch
    → Begun p before col' scratch' n r'
begun {n = n} v h l k o er ec es =
    record {
      within = h;
      few = rw er v.few;
      long = ap length ec ∙ l;
      passed = (λ i. take (er i) (ec i)) ∙ v.passed ∙ k;
      others = (λ i. take (n - er i) (es i)) ∙ v.others ∙ o;
      rest = ap (drop n) ec ∙ v.same;
    }

-- what is kept of two rows, by their flags
abbrev two : Bool → Bool → ℕ → ℕ → List ℕ
two s t d e = put_if s d (put_if t e [])

-- of four rows
abbrev four : Bool → Bool → Bool → Bool → ℕ → ℕ → ℕ → ℕ → List ℕ
four s t u v d e f g = put_if s d (put_if t e (two u v f g))

module _ (d e : ℕ) (l : List ℕ) (x y : ℕ) (m : List ℕ) where
  two-leaves : (s t : Bool) → Leaves 2 (two s t d e) (two (not s) (not t) d e) l (two_column s (d ∷ e ∷ l)) (two_others s (d ∷ e ∷ l) (x ∷ y ∷ m)) (bit s + bit t)
  unfolding put_if
  two-leaves true true = record { few = omega arith; passed = refl; others = refl; same = refl }
  two-leaves true false = record { few = omega arith; passed = refl; others = refl; same = refl }
  two-leaves false true = record { few = omega arith; passed = refl; others = refl; same = refl }
  two-leaves false false = record { few = omega arith; passed = refl; others = refl; same = refl }

module _ (d e f g : ℕ) (l : List ℕ) (x y z w : ℕ) (m : List ℕ) where
  four-leaves : (s t u v : Bool) → Leaves 4 (four s t u v d e f g) (four (not s) (not t) (not u) (not v) d e f g) l
      (four_column s t u (d ∷ e ∷ f ∷ g ∷ l)) (four_others s t u (d ∷ e ∷ f ∷ g ∷ l) (x ∷ y ∷ z ∷ w ∷ m)) (bit s + bit t + bit u + bit v)
  unfolding put_if
  four-leaves true true true true = record { few = omega arith; passed = refl; others = refl; same = refl }
  four-leaves true true true false = record { few = omega arith; passed = refl; others = refl; same = refl }
  four-leaves true true false true = record { few = omega arith; passed = refl; others = refl; same = refl }
  four-leaves true true false false = record { few = omega arith; passed = refl; others = refl; same = refl }
  four-leaves true false true true = record { few = omega arith; passed = refl; others = refl; same = refl }
  four-leaves true false true false = record { few = omega arith; passed = refl; others = refl; same = refl }
  four-leaves true false false true = record { few = omega arith; passed = refl; others = refl; same = refl }
  four-leaves true false false false = record { few = omega arith; passed = refl; others = refl; same = refl }
  four-leaves false true true true = record { few = omega arith; passed = refl; others = refl; same = refl }
  four-leaves false true true false = record { few = omega arith; passed = refl; others = refl; same = refl }
  four-leaves false true false true = record { few = omega arith; passed = refl; others = refl; same = refl }
  four-leaves false true false false = record { few = omega arith; passed = refl; others = refl; same = refl }
  four-leaves false false true true = record { few = omega arith; passed = refl; others = refl; same = refl }
  four-leaves false false true false = record { few = omega arith; passed = refl; others = refl; same = refl }
  four-leaves false false false true = record { few = omega arith; passed = refl; others = refl; same = refl }
  four-leaves false false false false = record { few = omega arith; passed = refl; others = refl; same = refl }

four-long : (s t u : Bool) (l : List ℕ) → length (four_column s t u l) ≡ length l
four-long s t u l = simp length-set

module _ (p : ℕ → Bool) where
  pub two-begun : (l m : List ℕ) → 2 ≤ length l → 2 ≤ length m → {s t : Bool} → s ≡ p (get_or l 0 0) → t ≡ p (get_or l 1 0) → {col scratch : List ℕ} {r : ℕ}
      → TwoDone s t l m col scratch r → Begun p l col scratch 2 r
  unfolding keep
  two-begun (d ∷ e ∷ l) (x ∷ y ∷ m) h k {s} {t} a b q =
      begun (two-leaves d e l x y m s t) h (length-set (d ∷ e ∷ l) (bit s) e) (λ i. two (a i) (b i) d e) (λ i. two (not (a i)) (not (b i)) d e) q.count q.column q.others
  two-begun (d ∷ e ∷ l) (x ∷ []) h k a b q = absurd (omega arith)
  two-begun (d ∷ e ∷ l) [] h k a b q = absurd (omega arith)
  two-begun (d ∷ []) m h k a b q = absurd (omega arith)
  two-begun [] m h k a b q = absurd (omega arith)

  pub four-begun : (l m : List ℕ) → 4 ≤ length l → 4 ≤ length m → {s t u v : Bool} → s ≡ p (get_or l 0 0) → t ≡ p (get_or l 1 0) → u ≡ p (get_or l 2 0) → v ≡ p (get_or l 3 0)
      → {col scratch : List ℕ} {r : ℕ} → FourDone s t u v l m col scratch r → Begun p l col scratch 4 r
  unfolding keep
  four-begun (d ∷ e ∷ f ∷ g ∷ l) (x ∷ y ∷ z ∷ w ∷ m) h k {s} {t} {u} {v} a b c o q =
      begun (four-leaves d e f g l x y z w m s t u v) h (four-long s t u (d ∷ e ∷ f ∷ g ∷ l)) (λ i. four (a i) (b i) (c i) (o i) d e f g)
      (λ i. four (not (a i)) (not (b i)) (not (c i)) (not (o i)) d e f g) q.count q.column q.others
  four-begun (d ∷ e ∷ f ∷ g ∷ l) (x ∷ y ∷ z ∷ []) h k a b c o q = absurd (omega arith)
  four-begun (d ∷ e ∷ f ∷ g ∷ l) (x ∷ y ∷ []) h k a b c o q = absurd (omega arith)
  four-begun (d ∷ e ∷ f ∷ g ∷ l) (x ∷ []) h k a b c o q = absurd (omega arith)
  four-begun (d ∷ e ∷ f ∷ g ∷ l) [] h k a b c o q = absurd (omega arith)
  four-begun (d ∷ e ∷ f ∷ []) m h k a b c o q = absurd (omega arith)
  four-begun (d ∷ e ∷ []) m h k a b c o q = absurd (omega arith)
  four-begun (d ∷ []) m h k a b c o q = absurd (omega arith)
  four-begun [] m h k a b c o q = absurd (omega arith)

-- none of these places is before the end of the front
pub four-behind : (s t u : Bool) → (front_end s t u ≤ third_place s t u) × (front_end s t u ≤ last_place s t u)
four-behind true true true = (omega arith, omega arith)
four-behind true true false = (omega arith, omega arith)
four-behind true false true = (omega arith, omega arith)
four-behind true false false = (omega arith, omega arith)
four-behind false true true = (omega arith, omega arith)
four-behind false true false = (omega arith, omega arith)
four-behind false false true = (omega arith, omega arith)
four-behind false false false = (omega arith, omega arith)
