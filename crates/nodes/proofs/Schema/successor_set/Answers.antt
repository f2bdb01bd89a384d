-- The layout has the set.
-- Rests on set_is.
use Rattle.nodes.proofs.Nodes.{set_is}
use Rattle.nodes.proofs.Schema.successor_set.Goals as goal

pub returns : goal.returns
returns c = search set_is
