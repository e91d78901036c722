-- The value of a run of equals, and the cuts by their places. Assumes nothing.
use Prim.Native.Nat.{ℕ, zero, suc, ◌+◌, ◌-◌, ◌<◌}
use Rattle.std.proofs.Common.{arith, add-one, ◌∙◌, subst, inl, inr}
use Rattle.std.specs.Prelude.{◌≡◌, Bool, not, List, length, get_or, Float}
use Rattle.std.proofs.Math.Path.{refl, sym, ap}
use Rattle.std.proofs.Math.Bool.{true, false, cond}
use Rattle.std.proofs.Math.Dec.{T}
use Rattle.std.specs.Float.Ieee.{binary64, of_bits, fits, eq}
use Rattle.floats.specs.Zero.{eq-same}
use Rattle.rules.specs.declared.Height.{Height}
use Rattle.rules.specs.declared.Cut.{Cut}
use Rattle.rules.specs.Lent.{cell}
use Rattle.rules.specs.Threshold.{threshold_between}
use Rattle.rules.specs.Words.{nought}
use Rattle.candidates.specs.declared.Spot.{Spot}
use Rattle.search.specs.declared.column.Cell.{Cell}
use Rattle.search.specs.declared.best.Run.{Run}
use Rattle.search.specs.Laws.{value-is}
use Rattle.search.specs.Flat.{Tables, element_of, cell_of, cut_between, run_at, cuts_in, Stepped, Stood}

module _ (v : ℕ → Float) (l : List ℕ) where
  pub run-next : (i : ℕ) → run_at v l (i + 1) ≡ cond (eq (v (get_or l i 0)) (run_at v l i)) (run_at v l i) (v (get_or l i 0))
  unfolding run_at
  run-next i = ap (run_at v l) (add-one i)

  module _ (F : (r : ℕ) → T (fits binary64 (v r))) where
    run_fits : (i : ℕ) → T (fits binary64 (run_at v l i))
    unfolding run_at
    run_fits zero = F (get_or l 0 0)
    run_fits (suc i) = go (eq (v (get_or l i 0)) (run_at v l i)) (run_fits i)
      where
        go : (b : Bool) → T (fits binary64 (run_at v l i)) → T (fits binary64 (cond b (run_at v l i) (v (get_or l i 0))))
        go true t = t
        go false t = F (get_or l i 0)

    -- a last value that is no zero is the run's own
    pub run-last : (n : ℕ) {u : Float} → 0 < n → u ≡ v (get_or l (n - 1) 0) → eq u nought ≡ false → u ≡ run_at v l n
    unfolding of_bits run_at
    run-last n {u} h e z = e ∙ go (n - 1) (subst (λ w. eq w nought ≡ false) e z) ∙ ap (run_at v l) (let q : suc (n - 1) ≡ n = omega (arith, h) in q)
      where
        pick : (k : ℕ) → eq (v (get_or l k 0)) nought ≡ false → (b : Bool) → eq (v (get_or l k 0)) (run_at v l k) ≡ b → v (get_or l k 0) ≡ cond b (run_at v l k) (v (get_or l k 0))
        pick k z true q = eq-same binary64 (v (get_or l k 0)) (run_at v l k) (F (get_or l k 0)) (run_fits k) (subst T (sym q) tt) (subst (λ b. T (not b)) (sym z) tt)
        pick k z false q = refl

        go : (k : ℕ) → eq (v (get_or l k 0)) nought ≡ false → v (get_or l k 0) ≡ run_at v l (suc k)
        go k z = pick k z (eq (v (get_or l k 0)) (run_at v l k)) refl

pub cut-next : (g : Height) (f : ℕ) (x : List Float) (j : ℕ) (l : List ℕ) (b : Cut) (i : ℕ)
    → cuts_in g f x j l b (i + 1) ≡ cut_between g j (run_at (cell f x j) l i) (cell f x j (get_or l i 0))
unfolding cuts_in
cut-next g f x j l b i = ap (cuts_in g f x j l b) (add-one i)

-- one turn at place i
module _ (f : ℕ) (t : Tables) (j : ℕ) (l : List ℕ) (i : ℕ) {e : Cell} (ee : e ≡ cell_of j (element_of f t (get_or l i 0))) {z : Float} (ez : z ≡ run_at (cell f t.values j) l i) where
  turn-value : e.value ≡ cell f t.values j (get_or l i 0)
  unfolding cell_of
  turn-value = ap (λ (d : Cell). d.value) ee ∙ sym (value-is f t j (get_or l i 0) refl)

  pub turn-cut : (g : Height) (b : Cut) → cuts_in g f t.values j l b (i + 1) ≡ cut_between g j z e.value
  turn-cut g b = cut-next g f t.values j l b i ∙ sym (λ k. cut_between g j (ez k) (turn-value k))

  pub turn-run : {u : Float} → u ≡ cond (eq e.value z) z e.value → u ≡ run_at (cell f t.values j) l (i + 1)
  turn-run eu = eu ∙ (λ k. cond (eq (turn-value k) (ez k)) (ez k) (turn-value k)) ∙ sym (run-next (cell f t.values j) l i)

-- where what is held stands

-- one turn at place i
pub turn-stood : (f : ℕ) (t : Tables) (j : ℕ) (l : List ℕ) (i : ℕ) → i < length l → (s : Spot) (w r : Run) (e : Cell) → e ≡ cell_of j (element_of f t (get_or l i 0))
    → w.last ≡ run_at (cell f t.values j) l i → Stepped w e (i + 1) r → Stood (cell f t.values j) l s w.spot → Stood (cell f t.values j) l s r.spot
turn-stood f t j l i h s w r e ee ez (inl m) g = subst (Stood (cell f t.values j) l s) (sym m) g
turn-stood f t j l i h s w r e ee ez (inr m) g =
    inr (i, m.0, m.1, h, sym (λ k. eq (turn-value f t j l i ee ez k) (ez k)) ∙ m.2)

-- ---- what is held once the column is swept

-- the cut at a place, by the values read again there
pub cut_again : (g : Height) (f : ℕ) (x : List Float) (j : ℕ) (l : List ℕ) (b : Cut) (n : ℕ) → (n ≡ 0 → ⊥) → {low high t : Float}
    → low ≡ run_at (cell f x j) l (n - 1) → high ≡ cell f x j (get_or l (n - 1) 0) → t ≡ threshold_between g low high → record { feature = j; threshold = t } ≡ cuts_in g f x j l b n
cut_again g f x j l b n h el eh et =
    ap (λ z. record { feature = j; threshold = z }) (et ∙ (λ k. threshold_between g (el k) (eh k)))
    ∙ sym (cut-next g f x j l b (n - 1)) ∙ ap (cuts_in g f x j l b) (let q : n - 1 + 1 ≡ n = omega (arith, h) in q)
