-- The layout of the variables, with the place of the record and the successors, is the node's.
-- Rests on node_ok.
use Rattle.std.proofs.Common.{arith}
use Rattle.schema.proofs.Laying.{node_ok}
use Rattle.schema.proofs.read_node.Goals as goal

pub returns : goal.returns
returns c = node_ok _ _ _ _ _ _ _ c.in_ok-at.ensures c.in_ok-kind.ensures (omega arith) c.in_ok-successors.ensures c.rank_count.ensures c.read_variables_of.ensures
