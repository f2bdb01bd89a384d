-- A node chooses where a PN of it has ranks.
-- Rests on chooses_ranked.
use Rattle.instances.proofs.Node.{chooses_ranked}
use Rattle.instances.proofs.chooses.Goals as goal

pub returns : goal.returns
returns c = search chooses_ranked
