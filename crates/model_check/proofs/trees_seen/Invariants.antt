-- `model_check::trees_seen` meets its contract: what is seen of the trees that are left, after the nodes so far, is what is seen of all. Assumes nothing.
use Rattle.std.proofs.Common.{◌-◌, ◌≤◌, ◌≡◌}
use Rattle.rules.specs.Model.{trees_at}
use Rattle.model_check.specs.Seen.{trees_seen}
use Rattle.model_check.proofs.trees_seen.Given as goal

abbrev pub invariant-loop : goal.invariant-loop
invariant-loop l = record {
  few : l.sofar ≤ 4294967295;
  rest : trees_seen l.sofar (trees_at l.bytes l.features l.sofar (l.trees - l.counter) l.at) ≡ trees_seen 0 (trees_at l.bytes l.features 0 l.trees l.start);
}
