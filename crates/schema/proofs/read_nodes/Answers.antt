-- What is left to read and to fill from here equals the whole.
-- Rests on the laws of the loop over the nodes, in Fill.
use Rattle.std.proofs.Common.{arith}
use Rattle.schema.proofs.Fill.{nodes_step}
use Rattle.schema.proofs.read_nodes.Goals as goal

pub loop-own-preserved : goal.loop-own-preserved
loop-own-preserved c = nodes_step _ _ _ _ _ _ _ c.loop-own.invariant (omega arith) c.in_ok-at.ensures
