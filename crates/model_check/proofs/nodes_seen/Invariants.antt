-- `model_check::nodes_seen` meets its contract: what is seen of the nodes from k on is what is seen of all. Assumes nothing.
use Rattle.std.proofs.Common.{◌-◌, ◌≡◌}
use Rattle.rules.specs.Model.{nodes_at}
use Rattle.model_check.specs.Seen.{nodes_seen}
use Rattle.model_check.proofs.nodes_seen.Given as goal

abbrev pub invariant-loop-k : goal.invariant-loop-k
invariant-loop-k l = nodes_seen (nodes_at l.bytes l.features l.n l.k (l.n - l.k) l.at) ≡ nodes_seen (nodes_at l.bytes l.features l.n 0 l.n l.start)
