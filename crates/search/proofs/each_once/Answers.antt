-- `search::each_once` meets its contract: what is left to ask of the choice is what was asked, and the marks are the words behind. Assumes nothing.
use Rattle.std.proofs.Common.{arith, refl, ◌∙◌, false, length-set}
use lib.ListN.{get_or-replicate, length-replicate}
use Rattle.lemmas.specs.Marks.{met-first, met-out, met-twice, met_next, met-last}
use Rattle.search.proofs.each_once.Goals as goal
use Rattle.search.proofs.each_once.Goals.{then-words-w-via-then-words-w, then-words-w-via-else-words-w+then-seen-w}

pub loop-w-init : goal.loop-w-init
loop-w-init g c = record { long = length-replicate g.row.N false; met = met-first _ _ _ (λ r h. get_or-replicate g.row.N r false false (omega (arith, h, c.requires))) }

pub returns-then-words-w : goal.returns-then-words-w
returns-then-words-w g c =
    let l = c.loop-w in
    elim c.then-words-w.branch [
      | then-words-w-via-then-words-w w ↦ met-out _ _ _ _ l.invariant.met c.loop-w-test.true refl w.if-words-w.true
      | then-words-w-via-else-words-w+then-seen-w w ↦ met-twice _ _ _ _ l.invariant.met c.loop-w-test.true refl w.if-words-w.false w.if-seen-w.true
    ]

pub loop-w-preserved : goal.loop-w-preserved
loop-w-preserved g c =
    let l = c.loop-w in
    record {
      long = length-set l.seen _ _ ∙ l.invariant.long;
      met = met_next _ _ _ _ l.invariant.met c.loop-w-test.true (omega (arith, c.requires, l.invariant.long)) c.if-words-w.false c.if-seen-w.false;
    }

pub returns : goal.returns
returns g c = met-last _ _ _ _ c.loop-w.invariant.met refl c.loop-w-test.false
