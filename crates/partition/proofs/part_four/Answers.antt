-- `partition::part_four` meets its contract: all of the first four stay, or they are swept and the sweep goes on behind them. Assumes nothing.
use Rattle.std.proofs.Common.{arith}
use Rattle.sweeps.specs.Swept.{flagged}
use Rattle.sweeps.specs.First.{begun-asks, four-begun}
use Rattle.partition.specs.Stays.{front-none, front-four}
use Rattle.partition.proofs.part_four.Goals as goal

pub part_behind-requires : goal.part_behind-requires
part_behind-requires c = (
  c.requires.0,
  front-four _ _ 0 (front-none _ _) c.requires.1 c.flag_at-s.ensures c.flag_at-t.ensures c.flag_at-u.ensures c.flag_at-v.ensures c.if-s-t.true,
)

pub part_from-requires : goal.part_from-requires
part_from-requires c =
    begun-asks {p = flagged c.args.flags.now}
    (four-begun _ _ _ c.requires.1 (omega (arith, c.requires.0.room)) c.flag_at-s.ensures c.flag_at-t.ensures c.flag_at-u.ensures c.flag_at-v.ensures c.sweep_four-w.ensures)
    c.requires.0 c.sweep_four-w.auto.scratch

pub returns-else-s-t : goal.returns-else-s-t
returns-else-s-t c =
    c.part_from.ensures.done _
    (four-begun _ _ _ c.requires.1 (omega (arith, c.requires.0.room)) c.flag_at-s.ensures c.flag_at-t.ensures c.flag_at-u.ensures c.flag_at-v.ensures c.sweep_four-w.ensures)
