-- As many as the count says.
-- Rests on offsets_taken.
use Rattle.policies.proofs.Rows.{offsets_taken}
use Rattle.policies.proofs.Row.offsets.Goals as goal

pub returns : goal.returns
returns c = search offsets_taken
