-- They stand after their number, and the reader refuses others than a node may have.
-- Rests on successors_are, and on the laws of a node's successors.
use Rattle.nodes.proofs.Nodes.{successors_are, successors_few, successors_above, successors_below}
use Rattle.nodes.proofs.Schema.successors.Goals as goal

pub returns-clause-few : goal.returns-clause-few
returns-clause-few c = successors_few c.args.self.now c.args.n c.requires _ (search successors_are)

pub returns-clause-above : goal.returns-clause-above
returns-clause-above c = successors_above c.args.self.now c.args.n c.requires _ (search successors_are)

pub returns-clause-below : goal.returns-clause-below
returns-clause-below c = successors_below c.args.self.now c.args.n c.requires _ (search successors_are)
