-- The greater of the lower bounds and the lesser of the upper ones are what both ranges admit.
-- Rests on the law of a range, in Narrowing.
use Rattle.conditions.proofs.Narrowing.{narrowed}
use Rattle.conditions.proofs.narrow_at.Goals as goal

pub returns : goal.returns
returns c = search narrowed
