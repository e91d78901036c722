-- `sweeps::copy_in` meets its contract: after j turns the first j are pasted. Assumes nothing.
use Rattle.std.proofs.Common.{arith, ◌≡◌, ◌∙◌, List, ℕ, ◌<◌, ◌+◌, add-one, length, get_or, set}
use lib.Seq.{paste, paste-zero, paste-suc}
use Rattle.sweeps.proofs.copy_in.Goals as goal

turn : (d : List ℕ) (at : ℕ) (s : List ℕ) (j : ℕ) (l : List ℕ) → l ≡ paste d at s j → at + j < length d → j < length s
    → set l (at + j) (get_or s j 0) ≡ paste d at s (j + 1)
turn d at s j l e h k = rw (e, add-one j, paste-suc)

pub loop-j-init : goal.loop-j-init
loop-j-init c = paste-zero c.args.dst.now c.args.at c.args.src.now

pub loop-j-preserved : goal.loop-j-preserved
loop-j-preserved c = turn _ _ _ _ _ c.loop-j.invariant (omega arith) (omega arith)

pub returns : goal.returns
returns c =
    let e : c.loop-j.j ≡ c.args.n = omega arith in
    c.loop-j.invariant ∙ rw e
