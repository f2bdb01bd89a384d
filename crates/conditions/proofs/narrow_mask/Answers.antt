-- The conditions from this offset on are left.
-- Rests on the law of a turn, in Narrowing.
use Rattle.conditions.proofs.Narrowing.{mask_step}
use Rattle.conditions.proofs.narrow_mask.Goals as goal

pub loop-at-preserved : goal.loop-at-preserved
loop-at-preserved c = search mask_step
