-- `bits::pattern_good` meets its contract. A pattern is a NaN's if what its sign leaves is above that of an infinity. Assumes nothing.
use Rattle.std.proofs.Common.{◌∙◌, le-leb}
use Rattle.bits.specs.Bits.{nan-good, other-good}
use Rattle.bits.proofs.pattern_good.Goals as goal

pub returns-then-n-le9218868437227405312 : goal.returns-then-n-le9218868437227405312
returns-then-n-le9218868437227405312 c = le-leb _ _ c.if-n-le9218868437227405312.true ∙ other-good c.args.n c.if-n-le9218868437227405312.true

pub returns-else-n-le9218868437227405312 : goal.returns-else-n-le9218868437227405312
returns-else-n-le9218868437227405312 c = nan-good c.args.n c.if-n-le9218868437227405312.false
