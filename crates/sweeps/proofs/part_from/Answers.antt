-- `sweeps::part_from` meets its contract: the pass leaves those that pass at the front, and the copy puts the others behind them. Assumes nothing.
use Rattle.std.proofs.Common.{arith, ◌≡◌, sym, ap, ◌∙◌, Bool, List, [], append-nil, ℕ, ◌+◌, ◌-◌, le_refl, length, take, drop, drop_of_length-le, take_all, length-take-le}
use lib.Seq.{paste}
use Rattle.rules.specs.Words.{keep}
use Rattle.sweeps.specs.Swept.{fails, Parted, Begun, SweepDone, PartDone}
use Rattle.sweeps.proofs.part_from.Goals as goal

joined : (p : ℕ → Bool) (before col scratch after : List ℕ) (r : ℕ) → Begun p before col scratch (length before) r → after ≡ paste col r scratch (length before - r)
    → Parted p before after r
joined p before col scratch after r b e =
    let all : take (length before) before ≡ before = take_all (length before) before (le_refl (length before)) in
    let passed : take r col ≡ keep p before = rw all at b.passed in
    let others : take (length before - r) scratch ≡ keep (fails p) before = rw all at b.others in
    let none : drop (r + (length before - r)) col ≡ [] = drop_of_length-le col {i = r + (length before - r)} (omega (arith, b.few, b.long)) in
    record {
      within = b.few;
      count = sym (length-take-le r col (omega (arith, b.few, b.long))) ∙ ap length passed;
      parts = e ∙ rw (none, append-nil, passed, others);
    }

done : (p : ℕ → Bool) (col₀ scratch₀ : List ℕ) (i w : ℕ) (col scratch after : List ℕ) (r : ℕ) → SweepDone p col₀ scratch₀ i w col scratch r
    → after ≡ paste col r scratch (length col₀ - r) → PartDone p col₀ scratch₀ i w after r
done p col₀ scratch₀ i w col scratch after r s e =
    record { within = s.within; done = λ before b. joined p before col scratch after r (s.done before b) (e ∙ ap (λ n. paste col r scratch (n - r)) b.long) }

pub returns : goal.returns
returns c =
    done _ _ _ _ _ _ _ _ _ c.sweep-w.ensures c.copy_in.ensures
