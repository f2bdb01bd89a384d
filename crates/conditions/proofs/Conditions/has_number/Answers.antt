-- A range has a value if its bounds are in order.
-- Rests on the law of a range, in Least.
use Rattle.conditions.proofs.Least.{number_left}
use Rattle.conditions.proofs.Conditions.has_number.Goals as goal

pub returns : goal.returns
returns c = search number_left
