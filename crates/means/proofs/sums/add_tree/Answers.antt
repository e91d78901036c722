-- `means::sums::add_tree` meets its contract: the places of the first s sixes have taken the tree in, and then the rest. Assumes nothing.
use Rattle.std.proofs.Common.{arith, ap, ◌∙◌, subst, ◌≡◌, ◌+◌, ◌*◌, ◌<◌, ℕ, Float, get_or}
use Rattle.std.specs.Float.{nan, binary64}
use Rattle.std.specs.Float.Ieee.{add}
use Rattle.lemmas.specs.Lists.{get_d-from}
use Rattle.means.specs.Rows.{Further, further-on, further-last, further-all}
use Rattle.means.specs.Sums.{leaf_in, with_tree_of, taken_in}
use Rattle.means.proofs.sums.add_tree.Goals as goal

pub loop-s-preserved : goal.loop-s-preserved
loop-s-preserved c =
    let s = c.loop-s.s in
    let leaf : ℕ → Float = leaf_in c.args.sample.now c.args.tree.now in
    let f : ℕ → Float → Float = with_tree_of c.args.sample.now c.args.tree.now in
    let some : 0 < c.alike-sixes.result = omega (arith, c.loop-s-test.true) in
    let next : 6 * s + 6 ≡ 6 * (s + 1) = omega arith in
    subst (λ m. Further f 0 m c.args.out.now c.add_six.new.out) next
    (further-on f 0 (6 * s) (6 * s + 6) c.args.out.now c.loop-s.out c.add_six.new.out c.loop-s.invariant
    (c.add_six.ensures.goes f
    (λ k x h. ap (add binary64 x) (ap (λ l. get_or l k nan) c.six_values-six.ensures ∙ get_d-from leaf (6 * s) 6 k nan h)
    ∙ taken_in c.args.sample.now.counts.now (c.alike-sixes.ensures.all some) c.args.tree.now.base leaf (6 * s + k) x)))

pub returns : goal.returns
returns c =
    let f : ℕ → Float → Float = with_tree_of c.args.sample.now c.args.tree.now in
    further-all f c.args.out.now _ c.args.sample.now.shape.rows
    (further-on f 0 _ c.args.sample.now.shape.rows c.args.out.now c.loop-s.out _ (further-last f 0 (6 * c.loop-s.s) _ c.args.out.now c.loop-s.out (omega arith) (omega arith) c.loop-s.invariant) c.add_rest.ensures)
