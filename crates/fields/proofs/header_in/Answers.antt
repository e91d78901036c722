-- `fields::header_in` meets its contract: the mark, the version, then both sizes. Assumes nothing.
use Rattle.std.proofs.Common.{arith, refl, ◌∙◌}
use Rattle.rules.specs.Bytes.{number_in}
use Rattle.rules.specs.Model.{header_in}
use Rattle.lemmas.specs.Tests.{within-top}
use Rattle.fields.specs.Fields.{passed-so, left_by, stops, goes}
use Rattle.fields.proofs.header_in.Goals as goal

pub returns-in_err-_mark : goal.returns-in_err-_mark
unfolding header_in number_in
returns-in_err-_mark c = left_by _ c.from_residual.ensures.1 ∙ stops _ _ _ c.in_err-_mark.ensures

pub returns-in_err-_version : goal.returns-in_err-_version
unfolding header_in number_in
returns-in_err-_version c =
    left_by _ c.from_residual-in_err-_version.ensures.1 ∙ goes _ _ _ c.in_ok-_mark.ensures (stops _ _ _ c.in_err-_version.ensures)

pub returns-in_err-features : goal.returns-in_err-features
unfolding header_in number_in
returns-in_err-features c =
    left_by _ c.from_residual-in_err-features.ensures.1
    ∙ goes _ _ _ c.in_ok-_mark.ensures (goes _ _ _ c.in_ok-_version.ensures (stops _ _ _ c.in_err-features.ensures))

pub returns-in_err-trees : goal.returns-in_err-trees
unfolding header_in number_in
returns-in_err-trees c =
    left_by _ c.from_residual-in_err-trees.ensures.1
    ∙ goes _ _ _ c.in_ok-_mark.ensures (goes _ _ _ c.in_ok-_version.ensures (goes _ _ _ c.in_ok-features.ensures (stops _ _ _ c.in_err-trees.ensures)))

pub overflow_cast-header : goal.overflow_cast-header
overflow_cast-header c = omega (arith, within-top 1024 _ (passed-so _ _ _ _ _ c.in_ok-features.ensures))

pub overflow_cast-header-2 : goal.overflow_cast-header-2
overflow_cast-header-2 c = omega (arith, within-top 1024 _ (passed-so _ _ _ _ _ c.in_ok-trees.ensures))

pub returns : goal.returns
unfolding header_in number_in
returns c =
    goes _ _ _ c.in_ok-_mark.ensures (goes _ _ _ c.in_ok-_version.ensures (goes _ _ _ c.in_ok-features.ensures (goes _ _ _ c.in_ok-trees.ensures refl)))
