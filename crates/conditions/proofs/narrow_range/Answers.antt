-- The conditions from this offset on are left.
-- Rests on the law of a turn, in Narrowing.
use Rattle.conditions.proofs.Narrowing.{range_step}
use Rattle.conditions.proofs.narrow_range.Goals as goal

pub loop-at-preserved : goal.loop-at-preserved
loop-at-preserved c = search range_step
