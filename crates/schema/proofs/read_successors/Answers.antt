-- What is left to read from here, added to the set so far, equals the whole.
-- Rests on the laws of the loop over a node's successors, in Reader.
use Rattle.std.proofs.Common.{arith}
use Rattle.schema.proofs.Reader.{successors_step}
use Rattle.schema.proofs.read_successors.Goals as goal

pub loop-turn-preserved : goal.loop-turn-preserved
loop-turn-preserved c = successors_step _ _ _ _ _ _ _ _ _ c.loop-turn.invariant (omega arith) c.in_ok-x.ensures (omega arith) (omega arith) c.insert-set.ensures
