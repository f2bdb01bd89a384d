-- The layout has their number.
-- Rests on variables_are.
use Rattle.nodes.proofs.Nodes.{variables_are}
use Rattle.nodes.proofs.Schema.variable_count.Goals as goal

pub returns : goal.returns
returns c = search variables_are
