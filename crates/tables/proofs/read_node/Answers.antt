-- `tables::read_node` meets its contract: refused as the table is, missing past its end, else read. Assumes nothing.
use Rattle.std.proofs.Common.{arith, ap, ◌∙◌, Ok, Some}
use Rattle.std.proofs.lemmas.Result.{err_from_is_err_and}
use Rattle.rules.specs.Table.{read_node, check_tree}
use Rattle.rules.specs.Slices.{columns_in}
use Rattle.tables.specs.Laws.{told-none, read-refused, read-missing, read-there}
use Rattle.tables.proofs.read_node.Goals as goal

pub returns-in_err-check_tree : goal.returns-in_err-check_tree
unfolding read_node check_tree
returns-in_err-check_tree c =
    let p = err_from_is_err_and c.from_residual.result c.from_residual.ensures.1 in
    rw (p.1, p.2) (read-refused (columns_in c.args.table.now) c.args.k _ c.in_err-check_tree.ensures)

pub returns-then-len-k : goal.returns-then-len-k
unfolding read_node check_tree
returns-then-len-k c =
    read-missing (columns_in c.args.table.now) c.args.k _ (told-none _ c.in_ok-check_tree.ensures) (omega (arith, c.len.ensures))

pub returns : goal.returns
unfolding read_node check_tree
returns c =
    ap (λ m. Ok (Some m)) c.node_of-node.ensures
    ∙ read-there (columns_in c.args.table.now) c.args.k _ (told-none _ c.in_ok-check_tree.ensures) (omega (arith, c.len.ensures))
