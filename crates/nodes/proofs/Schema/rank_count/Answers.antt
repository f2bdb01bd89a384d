-- The layout has their number.
-- Rests on ranks_are.
use Rattle.nodes.proofs.Nodes.{ranks_are}
use Rattle.nodes.proofs.Schema.rank_count.Goals as goal

pub returns : goal.returns
returns c = search ranks_are
