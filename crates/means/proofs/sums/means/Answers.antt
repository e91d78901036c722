-- `means::sums::means` meets its contract: cleared, summed and divided the room holds the means. Assumes nothing.
use Rattle.std.proofs.Common.{ap, ◌∙◌}
use Rattle.std.specs.Float.{binary64}
use Rattle.std.specs.Float.Ieee.{div}
use Rattle.rules.specs.Words.{float}
use Rattle.rules.specs.Slices.{forest_in}
use Rattle.means.specs.Rows.{rewritten}
use Rattle.bags.specs.Bags.{out_number}
use Rattle.means.specs.Sums.{sums_all, means-are}
use Rattle.means.proofs.sums.means.Goals as goal

pub returns : goal.returns
returns c =
    let n = c.args.sample.now.shape.rows in
    let F = forest_in c.args.forest.now in
    c.divide.ensures
    ∙ ap (rewritten (λ k x. div binary64 x (float (out_number n F.trees c.args.sample.now.counts.now k))) 0 n)
    (c.add_trees.ensures ∙ ap (rewritten (sums_all n c.args.sample.now.shape.features c.args.sample.now.values.now c.args.sample.now.counts.now F) 0 n) c.fill.ensures)
    ∙ means-are c.args.sample.now.shape c.args.sample.now.values.now c.args.sample.now.counts.now F c.args.out.now c.requires.room
