-- `search::try_all` meets its contract: the loop's invariant: what is left to try from here gives what all gives. Assumes nothing.
use Rattle.std.proofs.Common.{ap, ◌∙◌}
use Rattle.std.proofs.lemmas.Result.{err_from_is_err_and}
use Rattle.search.specs.Flat.{meant_tries, left}
use Rattle.search.specs.Stretches.{node_in}
use Rattle.search.specs.Tries.{tries-stop, tries-next, tries-end}
use Rattle.search.proofs.try_all.Goals as goal

pub returns-in_err-best-clause-tried : goal.returns-in_err-best-clause-tried
returns-in_err-best-clause-tried c =
    let a = c.args in
    let l = c.loop-j in
    let p = err_from_is_err_and c.from_residual.result c.from_residual.ensures.1 in
    λ W s. ap (meant_tries W a.thresholds.now s) p.1
    ∙ tries-stop a.node.now.params (node_in a.node.now) a.thresholds.now a.choice.now l.j-index c.loop-j-test.true
    l.best l.used W s (c.in_err-best.ensures.tried W s) ∙ l.invariant.tried W s

pub loop-j-preserved : goal.loop-j-preserved
loop-j-preserved c =
    let a = c.args in
    let l = c.loop-j in
    record {
      tried = λ W s. tries-next a.node.now.params (node_in a.node.now) a.thresholds.now a.choice.now l.j-index c.loop-j-test.true
          l.best l.used W s c.in_ok-best.field-0-0 c.in_ok-best.field-0-1 (c.in_ok-best.ensures.tried W s) ∙ l.invariant.tried W s;
      rows = c.in_ok-best.ensures.rows;
    }

pub returns-clause-tried : goal.returns-clause-tried
returns-clause-tried c =
    let a = c.args in
    let l = c.loop-j in
    λ W s. tries-end a.node.now.params (node_in a.node.now) a.choice.now l.j-index c.loop-j-test.false
    (record { best = l.best.held; left = left W a.thresholds.now s l.used }) ∙ l.invariant.tried W s
