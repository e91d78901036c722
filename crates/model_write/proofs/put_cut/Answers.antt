-- `model_write::put_cut` meets its contract: three fields, one after another. Assumes nothing.
use Rattle.model_write.specs.Puts.{cut-put}
use Rattle.model_write.proofs.put_cut.Goals as goal

pub returns : goal.returns
returns c = cut-put _ _ _ c.args.at c.args.file.now c.put_number.ensures c.put_float.ensures c.put_float-2.ensures c.requires.room
