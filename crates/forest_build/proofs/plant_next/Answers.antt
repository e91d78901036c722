-- `forest_build::plant_next` meets its contract: parts of what is lent, handed on. Assumes nothing.
use Rattle.std.proofs.Common.{rules}
use Rattle.forest_build.specs.Next.{next-asks, next-done}
use Rattle.forest_build.proofs.plant_next.Goals as goal

pub plant_in-requires : goal.plant_in-requires
plant_in-requires c = next-asks _ _ _ _ _ c.requires _ c.parts_of.ensures

pub returns-clause-done : goal.returns-clause-done
returns-clause-done c =
    next-done _ _ _ _ _ c.requires _ c.parts_of.ensures _ _ _ _ c.plant_in.ensures.done c.map_err.ensures.cases (λ k d h. search rules)
