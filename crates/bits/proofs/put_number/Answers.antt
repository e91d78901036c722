-- `bits::put_number` meets its contract: the bytes are put into a part of the list. Assumes nothing.
use Rattle.bits.specs.Bits.{put-spliced}
use Rattle.bits.proofs.put_number.Goals as goal

pub returns : goal.returns
returns c = put-spliced c.args.at c.args.k c.args.n c.args.out.now c.requires c.put_bytes.ensures
