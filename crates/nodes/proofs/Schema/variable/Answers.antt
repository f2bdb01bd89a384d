-- The layout tells where the variable begins: its type stands there, and after it the bounds.
-- Rests on number_is.
use Rattle.nodes.proofs.Nodes.{number_is}
use Rattle.nodes.proofs.Schema.variable.Goals as goal

pub returns-then-self-at-eq0 : goal.returns-then-self-at-eq0
returns-then-self-at-eq0 c = search number_is
