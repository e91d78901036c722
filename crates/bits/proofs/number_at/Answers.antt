-- `bits::number_at` meets its contract: a word of zeros takes the bytes in front, and says what they say. Assumes nothing.
use Rattle.std.proofs.Common.{◌∙◌}
use Rattle.bits.specs.Bits.{word-read}
use Rattle.bits.proofs.number_at.Goals as goal

pub returns : goal.returns
returns c = c.from_le_bytes.ensures ∙ word-read c.args.at c.args.k c.args.bytes.now c.requires c.copy_from_slice.ensures.after
