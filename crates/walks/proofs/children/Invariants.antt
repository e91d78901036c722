-- `walks::children` meets its contract: the children so far are added up, and few enough. Assumes nothing.
use Rattle.std.proofs.Common.{◌≡◌, ◌*◌, ◌≤◌, get_or, take}
use Rattle.std.specs.List.{sum_by}
use Rattle.walks.proofs.children.Given as goal

abbrev pub invariant-loop-k : goal.invariant-loop-k
invariant-loop-k l =
    (l.sum ≡ sum_by (λ k. get_or l.truechild k 0) (take l.k-index l.six)) × (l.sum ≤ l.k-index * 4294967295)
