-- `search::try_all` meets its contract: the loop's invariant: what is left to try from here gives what all gives. Assumes nothing.
use Rattle.std.proofs.Common.{◌≡◌, ℕ, List, drop, None}
use Rattle.search.specs.Flat.{RowsOf, left}
use Rattle.search.specs.Stretches.{node_in}
use Rattle.rules.specs.Search.{try_all}
use Rattle.rules.specs.Draws.{tape}
use Rattle.search.proofs.try_all.Given as goal

abbrev pub invariant-loop-j : goal.invariant-loop-j
invariant-loop-j l =
    let all = try_all (tape l.node.params.features) l.node.params (node_in l.node) in
    record {
      tried : (W : List ℕ) (s : ℕ) → all (drop l.j-index l.choice) (record { best = l.best.held; left = left W l.thresholds s l.used })
          ≡ all l.choice (record { best = None; left = left W l.thresholds s l.m });
      rows : RowsOf l.node.shape.features (node_in l.node) l.best;
    }
