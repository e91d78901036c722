-- `partition::part_two` meets its contract: all of the first two stay, or they are swept and the sweep goes on behind them. Assumes nothing.
use Rattle.std.proofs.Common.{arith}
use Rattle.sweeps.specs.Swept.{flagged}
use Rattle.sweeps.specs.First.{begun-asks, two-begun}
use Rattle.partition.specs.Stays.{front-none, front-two}
use Rattle.partition.proofs.part_two.Goals as goal

pub part_behind-requires : goal.part_behind-requires
part_behind-requires c = (c.requires.0, front-two _ _ 0 (front-none _ _) c.requires.1 c.flag_at-s.ensures c.flag_at-t.ensures c.if-s-t.true)

pub part_from-requires : goal.part_from-requires
part_from-requires c =
    begun-asks {p = flagged c.args.flags.now}
    (two-begun _ _ _ c.requires.1 (omega (arith, c.requires.0.room)) c.flag_at-s.ensures c.flag_at-t.ensures c.sweep_two-w.ensures) c.requires.0 c.sweep_two-w.auto.scratch

pub returns-else-s-t : goal.returns-else-s-t
returns-else-s-t c =
    c.part_from.ensures.done _ (two-begun _ _ _ c.requires.1 (omega (arith, c.requires.0.room)) c.flag_at-s.ensures c.flag_at-t.ensures c.sweep_two-w.ensures)
