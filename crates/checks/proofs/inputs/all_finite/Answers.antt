-- `checks::inputs::all_finite` meets its contract: `all` asks whether each is finite. Assumes nothing.
use Rattle.std.proofs.Common.{rules, tests}
use Rattle.std.proofs.lemmas.Iterator.{YieldsList-from_slice}
use Rattle.slices.specs.Iter.{every-from_all}
use Rattle.checks.proofs.inputs.all_finite.Goals as goal

pub returns : goal.returns
returns c = every-from_all _ _ _ _ c.all.ensures.ran (YieldsList-from_slice c.args.xs.now cc) (λ x b q k. search (rules, tests))
