-- `node_growth::search_pair` meets its contract: each search goes on with what the one before it left of the tapes. Assumes nothing.
use Rattle.node_growth.specs.Rooms.{ground_in}
use Rattle.node_growth.specs.Pairs.{Searching}
use Rattle.node_growth.proofs.search_pair.Given as goal

abbrev pub invariant-loop-k : goal.invariant-loop-k
invariant-loop-k l =
    Searching (ground_in l.shape l.input l.order) l.p l.tapes.words.now l.tapes.thresholds.now l.initial.wholes l.initial.reals l.q l.initial.t l.wholes l.reals l.t l.k
