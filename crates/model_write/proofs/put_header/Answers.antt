-- `model_write::put_header` meets its contract: four fields, one after another. Assumes nothing.
use Rattle.model_write.specs.Puts.{header-put}
use Rattle.model_write.proofs.put_header.Goals as goal

pub returns : goal.returns
returns c =
    header-put c.args.features c.args.trees c.args.file.now c.put_number.ensures c.put_number-2.ensures
    c.put_number-3.ensures c.put_number-4.ensures c.requires
