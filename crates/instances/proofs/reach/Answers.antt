-- Each return is one case of the kind.
-- Rests on the definition of `reaches`.
use Rattle.instances.proofs.Node.{reach_one, reach_all}
use Rattle.instances.proofs.reach.Goals as goal

pub returns-then-chooses : goal.returns-then-chooses
returns-then-chooses c = search reach_one

pub returns : goal.returns
returns c = search reach_all
