-- A sum is 0 where each part is.
-- Rests on masks-none.
use Rattle.policy_reader.proofs.Body.{masks-none}
use Rattle.policy_reader.proofs.masks_good.Goals as goal

pub returns : goal.returns
returns c = search masks-none
