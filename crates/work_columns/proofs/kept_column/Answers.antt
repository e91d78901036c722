-- `work_columns::kept_column` meets its contract: what it promises of the listing holds of the i rows passed. Assumes nothing.
use Rattle.std.proofs.Common.{arith, ℕ, ◌+◌, ◌<◌, ◌≤◌, ◌≡◌, refl, sym, ◌∙◌, Bool, true, false, List, length, get_or, set}
use Rattle.rules.specs.Words.{keep}
use Rattle.work_columns.specs.Rows.{keeps_in}
use Rattle.sweeps.specs.Fronts.{front_kept, front-left}
use Rattle.work_columns.proofs.kept_column.Invariants.{Keeping}
use Rattle.work_columns.proofs.kept_column.Goals as goal
use Rattle.work_columns.proofs.kept_column.Goals.{then-is_kept, else-is_kept}

module _ (p : ℕ → Bool) (l column : List ℕ) (n i : ℕ) (s : Keeping p l column n i) (h : i < length l) where
  kept-turn : length l ≤ length column → p (get_or l i 0) ≡ true → Keeping p l (set column n (get_or l i 0)) (n + 1) (i + 1)
  kept-turn r t = record { within = omega arith; few = omega arith; front = front_kept p l column i n 0 _ refl h s.front (omega arith) t }

  left-turn : p (get_or l i 0) ≡ false → Keeping p l (set column n (get_or l i 0)) n (i + 1)
  left-turn t = record { within = omega arith; few = omega arith; front = front-left p l column i n 0 _ refl h s.front t }

pub loop-e-init : goal.loop-e-init
unfolding keep
loop-e-init c = record { within = omega arith; few = omega arith; front = refl }

pub loop-e-preserved : goal.loop-e-preserved
loop-e-preserved c =
    let p = keeps_in c.args.input.now in
    let s = c.loop-e.invariant in
    elim c.if-is_kept.branch [
      | then-is_kept u ↦ rw u.n-is (kept-turn p _ _ _ _ s c.loop-e-test.true (omega (arith, c.requires.room)) (sym c.is_kept.ensures ∙ u.if-is_kept.true))
      | else-is_kept u ↦ rw u.n-is (left-turn p _ _ _ _ s c.loop-e-test.true (sym c.is_kept.ensures ∙ u.if-is_kept.false))
    ]
