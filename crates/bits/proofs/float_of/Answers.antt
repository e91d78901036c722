-- `bits::float_of` meets its contract. A pattern is a NaN's if what its sign leaves is above that of an infinity. Assumes nothing.
use lib.Ieee.{binary64, of_bits}
use Rattle.bits.specs.Bits.{nan_pattern, other-pattern, only_nan}
use Rattle.bits.proofs.float_of.Goals as goal

pub float_from_bits-result : goal.float_from_bits-result
float_from_bits-result c = other-pattern c.args.n c.if-n-gt9218868437227405312.false

pub returns-then-n-gt9218868437227405312 : goal.returns-then-n-gt9218868437227405312
returns-then-n-gt9218868437227405312 c =
    let n = c.args.n in unfold of_bits in only_nan (of_bits binary64 n) (nan_pattern n c.if-n-gt9218868437227405312.true)
