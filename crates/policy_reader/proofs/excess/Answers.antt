-- What a mask has among its spare bits is what the definition says.
-- Rests on excess-is.
use Rattle.policy_reader.proofs.Body.{excess-is}
use Rattle.policy_reader.proofs.excess.Goals as goal

pub returns : goal.returns
returns c = search excess-is
