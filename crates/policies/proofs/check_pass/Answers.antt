-- A pass of one day or two is good.
-- Rests on pass_good.
use Rattle.policies.proofs.Pass.{pass_good}
use Rattle.policies.proofs.check_pass.Goals as goal

pub returns : goal.returns
returns c = search pass_good
