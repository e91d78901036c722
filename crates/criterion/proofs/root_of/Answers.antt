-- `criterion::root_of` meets its contract: there is one number whose square is at most n and whose next square is above it. Assumes nothing.
use Rattle.lemmas.specs.Tried.{root-only}
use Rattle.criterion.proofs.root_of.Goals as goal

pub returns : goal.returns
returns c = root-only _ _ (c.isqrt.ensures.square_le, c.isqrt.ensures.next_square_gt)
