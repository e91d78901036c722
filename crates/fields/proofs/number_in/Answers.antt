-- `fields::number_in` meets its contract: the bytes are taken, then the number is tested. Assumes nothing.
use Rattle.std.proofs.Common.{sym, ◌∙◌, arith}
use Rattle.fields.specs.Fields.{left_by, misread-so, said-so, failed-so}
use Rattle.fields.proofs.number_in.Goals as goal

pub returns-in_err-x : goal.returns-in_err-x
returns-in_err-x g c = left_by _ c.from_residual.ensures.1 ∙ misread-so _ _ _ _ _ c.in_err-x.ensures

pub returns-then-good : goal.returns-then-good
returns-then-good g c = said-so _ _ _ _ _ c.in_ok-x.ensures (sym (c.requires.1.1.1.met _ _ (omega arith) c.good.ensures) ∙ c.if-good.true)

pub returns : goal.returns
returns g c = failed-so _ _ _ _ _ c.in_ok-x.ensures (sym (c.requires.1.1.1.met _ _ (omega arith) c.good.ensures) ∙ c.if-good.false)
