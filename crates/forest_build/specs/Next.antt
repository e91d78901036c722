-- One tree of a forest: its own counts, its own part of both tapes, and the node columns from its place on. Assumes nothing.
use Rattle.std.specs.Prelude.{ℕ, ◌+◌, ◌-◌, ◌*◌, ◌<◌, ◌≤◌, ◌≡◌, List, ◌++◌, length, take, drop, Result, Ok, Err, MatchResult, IsErrAnd}
use Rattle.std.proofs.Common.{add-one, sym, ◌∙◌, append-nil, length-drop, drop_of_length-le, take_all, take_at, drop_at, length-take-le}
use native.Mathlib.Omega.{arith}
use Rattle.std.proofs.Math.Path.{ap, subst}
use Rattle.std.proofs.Math.ListN.{get_or}
use Rattle.std.proofs.lemmas.Result.{err_from_is_err_and}
use Rattle.rules.specs.declared.Place.{Place}
use Rattle.rules.specs.declared.Report.{Report}
use Rattle.rules.specs.Lent.{OneTree}
use Rattle.rules.specs.Forest.{part}
use Rattle.lemmas.specs.Passed.{PartAt}
use Rattle.node_entries.specs.Entries.{NodeRoom, LongRoom}
use Rattle.tree_growth.specs.Places.{WorkLengths}
use Rattle.tree_report.specs.Report.{Planted}
use Rattle.tree_build.specs.Plant.{one_tree_in, PlantDone}
use Rattle.forest_parts.specs.declared.Span.{Span}
use Rattle.forest_parts.specs.declared.Parts.{Parts}
use Rattle.forest_parts.specs.Parts.{parts_at}
use Rattle.forest_build.specs.Lot.{Lot, lot_tree, PlantIn}
use Rattle.forest_build.specs.Columns.{columnwise, each, drop_all, take_each, columns-same}

-- tree t is grown from its own counts and its own part of both tapes, in the node columns from place `at` on
pub record NextAsks (L : Lot) (t at : ℕ) (c : NodeRoom) (w : WorkLengths) : Type 0 where
  pub plant : PlantIn L.features (lot_tree L t) L.inputs (drop_all at c) w
  pub long : LongRoom at c
  pub small : t * L.rows + L.rows < 4294967296
  pub counted : t * L.rows + L.rows ≤ length L.counts
  pub word : PartAt L.word_starts (length L.words) t
  pub threshold : PartAt L.threshold_starts (length L.thresholds) t

-- it is the tree as the definition has it, or its bad draw; before that place the columns keep what they held
pub record Grew (L : Lot) (t at : ℕ) (c c' : NodeRoom) (r : Planted) : Type 0 where
  pub kept : take_each at c' ≡ take_each at c
  pub done : PlantDone (lot_tree L t) L.inputs (drop_all at c) (drop_all at c') r

-- of a bad draw the tree is told too
abbrev pub NextDone : Lot → ℕ → ℕ → NodeRoom → NodeRoom → Result Report Place → Type 0
NextDone L t at c c' (Ok r) = Grew L t at c c' (Ok r)
NextDone L t at c c' (Err d) = (d.tree ≡ t) × Grew L t at c c' (Err d.search)

-- ---- what is lent of each list, and how it comes back

lent_is {ℓ} : {A : Type ℓ} (at : ℕ) (l : List A) → take (length l - at) (drop at l) ≡ drop at l
lent_is at l = take_all (length l - at) (drop at l) (omega (arith, length-drop at l))

-- a list whose end from place `at` on was lent, and came back as `last`
abbrev pub back {ℓ} : {A : Type ℓ} → ℕ → List A → List A → List A
back at l last = take at l ++ (last ++ drop (length l - at) (drop at l))

back-take {ℓ} : {A : Type ℓ} (at : ℕ) (l last : List A) → at ≤ length l → take at (back at l last) ≡ take at l
back-take at l last h = take_at (take at l) (last ++ drop (length l - at) (drop at l)) at (length-take-le at l h)

back-drop {ℓ} : {A : Type ℓ} (at : ℕ) (l last : List A) → at ≤ length l → drop at (back at l last) ≡ last
back-drop at l last h =
    drop_at (take at l) (last ++ drop (length l - at) (drop at l)) at (length-take-le at l h)
    ∙ ap (λ z. last ++ z) (drop_of_length-le (drop at l) {i = length l - at} (omega (arith, length-drop at l))) ∙ append-nil last

-- of each column what is lent
abbrev pub lent_all : ℕ → NodeRoom → NodeRoom
lent_all at c = each (λ A k. take (length k - at) (drop at k)) c

-- and each column as it comes back
abbrev pub back_all : ℕ → NodeRoom → NodeRoom → NodeRoom
back_all at c l = columnwise (λ A. back at) c l

columns-lent : (at : ℕ) (c : NodeRoom) → LongRoom at c → lent_all at c ≡ drop_all at c
columns-lent at c h = columns-same (λ A k l. take (length k - at) (drop at k)) (λ A k l. drop at k) at (λ A k l b. lent_is at k) c c h

columns-kept : (at : ℕ) (c l : NodeRoom) → LongRoom at c → take_each at (back_all at c l) ≡ take_each at c
columns-kept at c l h = columns-same (λ A k last. take at (back at k last)) (λ A k last. take at k) at (λ A. back-take at) c l h

columns-back : (at : ℕ) (c l : NodeRoom) → LongRoom at c → drop_all at (back_all at c l) ≡ l
columns-back at c l h = columns-same (λ A k last. drop at (back at k last)) (λ A k last. last) at (λ A. back-drop at) c l h

-- a part that the code lends of a list
abbrev pub lent {ℓ} : {A : Type ℓ} → Span → List A → List A
lent p l = take (p.end - p.start) (drop p.start l)

-- the tree as the code lends it
abbrev pub one_tree_lent : Lot → Parts → OneTree
one_tree_lent L P = one_tree_in L.rows L.params L.weights (lent P.counts L.counts) (lent P.words L.words) (lent P.thresholds L.thresholds)

module _ (L : Lot) (t at : ℕ) (c : NodeRoom) (w : WorkLengths) (h : NextAsks L t at c w) where
  module _ (P : Parts) (e : P ≡ parts_at L.rows t L.word_starts L.threshold_starts) where
    frame-lent : one_tree_lent L P ≡ lot_tree L t
    unfolding part
    frame-lent =
        ap (one_tree_lent L) e
        ∙ (λ i. one_tree_in L.rows L.params L.weights (take (wide (t * L.rows) i) (drop (t * L.rows) L.counts))
        (take (get_or L.word_starts (add-one t i) 0 - get_or L.word_starts t 0) (drop (get_or L.word_starts t 0) L.words))
        (take (get_or L.threshold_starts (add-one t i) 0 - get_or L.threshold_starts t 0) (drop (get_or L.threshold_starts t 0) L.thresholds)))
      where
        wide : (a : ℕ) → a + L.rows - a ≡ L.rows
        wide a = omega arith

    pub next-asks : PlantIn L.features (one_tree_lent L P) L.inputs (lent_all at c) w
    next-asks =
        subst (λ k. PlantIn L.features (one_tree_lent L P) L.inputs k w) (sym (columns-lent at c h.long))
        (subst (λ F. PlantIn L.features F L.inputs (drop_all at c) w) (sym frame-lent) h.plant)

    grew : (l : NodeRoom) (o : Planted) → PlantDone (one_tree_lent L P) L.inputs (lent_all at c) l o → Grew L t at c (back_all at c l) o
    grew l o d =
        record {
          kept = columns-kept at c l h.long;
          done =
              subst (λ k. PlantDone (lot_tree L t) L.inputs (drop_all at c) k o) (sym (columns-back at c l h.long))
              (subst (λ k. PlantDone (lot_tree L t) L.inputs k l o) (columns-lent at c h.long)
              (subst (λ F. PlantDone F L.inputs (lent_all at c) l o) frame-lent d));
        }

    -- whatever the code tells of a search, if that is its number and the tree's
    pub next-done : (l : NodeRoom) (o : Planted) (r : Result Report Place) (Q : ℕ → Place → Type 0) → PlantDone (one_tree_lent L P) L.inputs (lent_all at c) l o
        → MatchResult o (λ x. r ≡ Ok x) (λ k. IsErrAnd r (Q k)) → ((k : ℕ) (d : Place) → Q k d → d ≡ record { tree = t; search = k }) → NextDone L t at c (back_all at c l) r
    next-done l (Ok x) r Q d m s = subst (NextDone L t at c (back_all at c l)) (sym m) (grew l (Ok x) d)
    next-done l (Err k) r Q d m s =
        let (y, e, q) = err_from_is_err_and r m in
        let is = s k y q in
        subst (NextDone L t at c (back_all at c l)) (sym e)
        (ap (λ (z : Place). z.tree) is, subst (λ n. Grew L t at c (back_all at c l) (Err n)) (sym (ap (λ (z : Place). z.search) is)) (grew l (Err k) d))
