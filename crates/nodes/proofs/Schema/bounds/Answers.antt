-- The layout tells where the variable begins: its bounds stand after the type.
-- Rests on bounds_are.
use Rattle.nodes.proofs.Nodes.{bounds_are}
use Rattle.nodes.proofs.Schema.bounds.Goals as goal

pub returns : goal.returns
returns c = search bounds_are
