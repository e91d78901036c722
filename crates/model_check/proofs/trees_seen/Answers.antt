-- `model_check::trees_seen` meets its contract: what is seen of the trees that are left, after the nodes so far, is what is seen of all. Assumes nothing.
use Rattle.std.proofs.Common.{add-zero, arith, Ok, sym, ap, ◌∙◌}
use Rattle.rules.specs.Words.{total}
use Rattle.fields.specs.Fields.{left_by, is-misread}
use Rattle.model_check.specs.Seen.{trees_seen, trees-stop, trees-end, tree-few, tree-step}
use Rattle.model_check.proofs.trees_seen.Goals as goal

pub returns-in_err-n : goal.returns-in_err-n
returns-in_err-n c =
    left_by _ c.from_residual.ensures.1
    ∙ sym (ap (trees_seen c.loop.sofar) (trees-stop _ _ _ _ _ _ _ c.loop-test.true (is-misread _ _ c.in_err-n.ensures)))
    ∙ c.loop.invariant.rest

pub overflow_add-sofar : goal.overflow_add-sofar
overflow_add-sofar c = omega (arith, tree-few _ _ _ _ _ _ c.loop-test.true c.in_ok-n.ensures)

pub loop-preserved : goal.loop-preserved
loop-preserved c = record {
  few = tree-few _ _ _ _ _ _ c.loop-test.true c.in_ok-n.ensures;
  rest = tree-step _ _ _ _ _ _ c.loop-test.true c.in_ok-n.ensures ∙ c.loop.invariant.rest;
}

pub returns : goal.returns
unfolding total
returns c =
    ap (λ n. Ok (n, c.loop.at)) (sym (add-zero c.loop.sofar)) ∙ sym (ap (trees_seen c.loop.sofar) (trees-end _ _ _ _ _ _ c.loop-test.false)) ∙ c.loop.invariant.rest
