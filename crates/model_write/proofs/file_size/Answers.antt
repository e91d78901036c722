-- `model_write::file_size` meets its contract: the bytes of the trees before t and of those from t on are all bytes. Assumes nothing.
use Rattle.std.proofs.Common.{arith, ap, ◌+◌}
use Rattle.rules.specs.Words.{total}
use Rattle.lemmas.specs.Scans.{total-adds, total-ends, range_all}
use Rattle.model_write.specs.Sizes.{long_at, file_long, sum-few}
use Rattle.model_write.proofs.file_size.Goals as goal

pub loop-t-init : goal.loop-t-init
unfolding file_long
loop-t-init c = record {
  few = omega arith;
  all = ap (λ l. 9 + total (long_at c.args.forest.now.starts.now c.args.forest.now.table.truechild.now) l) (range_all 0 c.args.forest.now.number);
}

pub tree_size-sum-requires : goal.tree_size-sum-requires
tree_size-sum-requires c = record {
  inside = c.requires.inside c.loop-t.t c.loop-t-test.true;
  few = omega arith;
}

pub overflow_add-sum : goal.overflow_add-sum
overflow_add-sum c =
    let F = c.args.forest.now in
    omega (
      arith,
      sum-few F.starts.now F.table.truechild.now c.loop-t.t _ _ c.loop-t.invariant.few (c.requires.below c.loop-t.t c.loop-t-test.true) c.tree_size-sum.ensures,
      c.requires.started.few,
      c.loop-t-test.true,
    )

pub loop-t-preserved : goal.loop-t-preserved
loop-t-preserved c = let F = c.args.forest.now in record {
  few = sum-few F.starts.now F.table.truechild.now c.loop-t.t _ _ c.loop-t.invariant.few (c.requires.below c.loop-t.t c.loop-t-test.true) c.tree_size-sum.ensures;
  all = total-adds (long_at F.starts.now F.table.truechild.now) F.number c.loop-t.t c.loop-t.sum _ c.loop-t-test.true c.loop-t.invariant.all c.tree_size-sum.ensures;
}

pub returns : goal.returns
returns c =
    let F = c.args.forest.now in total-ends (long_at F.starts.now F.table.truechild.now) F.number c.loop-t.t c.loop-t.sum c.loop-t-test.false c.loop-t.invariant.all
