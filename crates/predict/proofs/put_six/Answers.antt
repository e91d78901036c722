-- `predict::put_six` meets its contract: k of the six are put. Assumes nothing.
use Rattle.std.proofs.Common.{arith, sym, ap, ◌∙◌, add-zero, append-nil, take}
use Rattle.predict.specs.Front.{put-next, put-all}
use Rattle.predict.proofs.put_six.Goals as goal

pub loop-k-init : goal.loop-k-init
loop-k-init c = ap (λ n. take n c.args.out.now) (add-zero c.args.i) ∙ sym (append-nil (take c.args.i c.args.out.now))

pub loop-k-preserved : goal.loop-k-preserved
loop-k-preserved c =
    put-next c.args.i c.loop-k.k c.args.out.now c.loop-k.out c.args.six c.loop-k.invariant (omega (arith, c.requires.room, c.loop-k.auto.out, c.loop-k-test.true))
    (omega (arith, c.requires.all, c.loop-k-test.true))

pub returns : goal.returns
returns c = put-all c.args.i c.loop-k.k c.args.out.now c.loop-k.out c.args.six c.loop-k.invariant c.loop-k-test.false c.loop-k.auto.k-end c.requires.all
