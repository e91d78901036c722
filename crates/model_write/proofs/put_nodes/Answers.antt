-- `model_write::put_nodes` meets its contract: with the nodes from k on the file comes to what it comes to with all. Assumes nothing.
use Rattle.model_write.specs.Puts.{putting-starts, putting-room, putting-goes, putting-ends}
use Rattle.model_write.proofs.put_nodes.Goals as goal

pub loop-k-init : goal.loop-k-init
loop-k-init c = putting-starts _ _ _ _ _

pub put_node-spot-requires-clause-room : goal.put_node-spot-requires-clause-room
put_node-spot-requires-clause-room c = putting-room _ _ c.loop-k.invariant c.loop-k-test.true c.requires.room

pub loop-k-preserved : goal.loop-k-preserved
loop-k-preserved c = putting-goes _ _ c.loop-k.invariant c.loop-k-test.true c.requires.room c.put_node-spot.ensures

pub returns : goal.returns
returns c = putting-ends _ _ c.loop-k.invariant c.loop-k-test.false
