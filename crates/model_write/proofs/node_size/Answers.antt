-- `model_write::node_size` meets its contract: a true child of 0 says that there is none. Assumes nothing.
use Rattle.std.proofs.Common.{sym}
use Rattle.model_write.specs.Sizes.{leaf-long, split-long}
use Rattle.model_write.proofs.node_size.Goals as goal

pub returns-then-truechild-ne0 : goal.returns-then-truechild-ne0
returns-then-truechild-ne0 c = sym (split-long c.args.truechild c.if-truechild-ne0.true)

pub returns-else-truechild-ne0 : goal.returns-else-truechild-ne0
returns-else-truechild-ne0 c =
    sym (leaf-long c.args.truechild c.if-truechild-ne0.false)
