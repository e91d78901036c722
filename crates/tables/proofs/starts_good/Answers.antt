-- `tables::starts_good` meets its contract: of the starts only those up to the last are looked at, and of the columns how far they reach. Assumes nothing.
use Rattle.std.proofs.Common.{◌∙◌}
use Rattle.tables.specs.Laws.{starts_told}
use Rattle.tables.proofs.starts_good.Goals as goal

pub returns : goal.returns
returns c = λ k e. c.rises_to.ensures ∙ starts_told c.args.trees c.args.n c.args.starts.now c.requires k e
