-- `walks::six_values` meets its contract: a tree's own part of the columns is the tree. Assumes nothing.
use Rattle.std.proofs.Common.{ap, ◌∙◌, map}
use Rattle.rules.specs.Words.{from}
use Rattle.rules.specs.Slices.{columns_in}
use Rattle.walks.specs.Walks.{leaf_at}
use Rattle.walks.specs.Parts.{alone-same, six-alone}
use Rattle.walks.proofs.six_values.Goals as goal

pub six_leaves-requires : goal.six_leaves-requires
six_leaves-requires c =
    let a = c.args in six-alone a.a a.n (columns_in a.table.now) a.features a.i a.values.now c.requires

pub returns : goal.returns
returns c =
    let a = c.args in
    c.six_leaves.ensures ∙ ap (λ es. map (leaf_at a.features a.values.now es) (from a.i 6)) (alone-same a.a a.n (columns_in a.table.now))
