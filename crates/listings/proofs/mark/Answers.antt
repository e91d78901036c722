-- `listings::mark` meets its contract: what is marked or still ahead is what was marked or is in the listing. Assumes nothing.
use Rattle.std.proofs.Common.{arith, sym, subst, ◌+◌}
use Rattle.listings.specs.Walks.{MarksTo, marks-end, marks-pass, marks-go}
use Rattle.listings.proofs.mark.Goals as goal
use Rattle.listings.proofs.mark.Goals.{then-k-seen, else-k-seen}

pub loop-x-preserved : goal.loop-x-preserved
loop-x-preserved c =
    let s = c.args.seen.now in
    let l = c.args.listing.now in
    elim c.if-k-seen.branch [
      | then-k-seen u ↦ subst (λ z. MarksTo l s z (c.loop-x.x-index + 1)) (sym u.seen-is) (marks-go l s c.loop-x.seen c.loop-x.x-index c.loop-x.invariant (omega arith) (omega arith))
      | else-k-seen u ↦ subst (λ z. MarksTo l s z (c.loop-x.x-index + 1)) (sym u.seen-is) (marks-pass l s c.loop-x.seen c.loop-x.x-index c.loop-x.invariant (omega arith) (omega arith))
    ]

pub returns : goal.returns
returns c =
    marks-end c.args.listing.now c.args.seen.now c.loop-x.seen c.loop-x.x-index c.loop-x.invariant (omega arith)
