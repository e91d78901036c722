-- `sweeps::sweep` meets its contract: what was begun has gone on to the rows passed, and from i on the stretch is as it was. Assumes nothing.
use Rattle.std.proofs.Common.{◌≡◌, List, Bool, ℕ, ◌≤◌, drop}
use Rattle.sweeps.specs.Swept.{flagged, Begun}
use Rattle.sweeps.proofs.sweep.Given as goal

pub record Passed (col₀ scratch₀ : List ℕ) (flags : List Bool) (start found : ℕ) (col scratch : List ℕ) (w i : ℕ) : Type 0 where
  pub few : w ≤ i
  pub rest : drop i col ≡ drop i col₀
  pub going : (before : List ℕ) → Begun (flagged flags) before col₀ scratch₀ start found → Begun (flagged flags) before col scratch i w

abbrev pub invariant-loop-i : goal.invariant-loop-i
invariant-loop-i l = Passed l.initial.col l.initial.scratch l.flags l.start l.found l.col l.scratch l.w l.i
