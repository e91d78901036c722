-- `model_check::model_seen` meets its contract: the header, the trees, and nothing after them. Assumes nothing.
use Rattle.std.proofs.Common.{arith, sym, ap, ◌∙◌}
use Rattle.rules.specs.Model.{model_in}
use Rattle.lemmas.specs.Fields.{goes_on}
use Rattle.fields.specs.Fields.{header_of, left_by, is-misread, header-said, stops_at}
use Rattle.model_check.specs.Seen.{model_seen, nodes-few, model-good, model-left}
use Rattle.model_check.proofs.model_seen.Goals as goal

pub returns-in_err-header : goal.returns-in_err-header
unfolding model_in
returns-in_err-header c = left_by _ c.from_residual.ensures.1 ∙ sym (ap model_seen (stops_at _ (is-misread header_of _ c.in_err-header.ensures)))

pub returns-in_err-n : goal.returns-in_err-n
unfolding model_in
returns-in_err-n c =
    left_by _ c.from_residual-in_err-n.ensures.1
    ∙ sym (ap model_seen (goes_on _ (header-said c.in_ok-header.ensures) ∙ stops_at _ (is-misread _ _ c.in_err-n.ensures)))

pub overflow_cast-result : goal.overflow_cast-result
overflow_cast-result c = omega (arith, nodes-few _ _ _ _ _ c.in_ok-header.ensures c.in_ok-n.ensures)

pub returns-then-place-bytes : goal.returns-then-place-bytes
returns-then-place-bytes c = model-good _ _ _ _ _ c.in_ok-header.ensures c.in_ok-n.ensures c.if-place-bytes.true

pub returns-else-place-bytes : goal.returns-else-place-bytes
returns-else-place-bytes c = model-left _ _ _ _ _ c.in_ok-header.ensures c.in_ok-n.ensures c.if-place-bytes.false
