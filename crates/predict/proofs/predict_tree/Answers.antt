-- `predict::predict_tree` meets its contract: refused as its checks are, else each row's prediction. Assumes nothing.
use Rattle.std.proofs.lemmas.Result.{err_from_is_err_and}
use Rattle.rules.specs.Slices.{columns_in}
use Rattle.predict.specs.Passed.{predict-passed, predict-refused, predict-done}
use Rattle.predict.proofs.predict_tree.Goals as goal

pub returns-in_err-check_predict : goal.returns-in_err-check_predict
returns-in_err-check_predict c =
    let a = c.args in
    let p = err_from_is_err_and c.from_residual.result c.from_residual.ensures.1 in
    rw (p.1, p.2) (predict-refused a.shape a.values.now (columns_in a.table.now) a.out.now c.in_err-check_predict.ensures)

pub predict_rows-requires : goal.predict_rows-requires
predict_rows-requires c =
    let a = c.args in (predict-passed a.shape a.values.now (columns_in a.table.now) a.out.now c.in_ok-check_predict.ensures).0

pub returns : goal.returns
returns c =
    let a = c.args in predict-done a.shape a.values.now (columns_in a.table.now) a.out.now c.in_ok-check_predict.ensures c.predict_rows.new.out c.predict_rows.ensures
