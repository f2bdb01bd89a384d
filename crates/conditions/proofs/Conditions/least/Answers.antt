-- What is left of a number is empty, or has its lower bound as the least value.
-- Rests on the laws of one variable, in Least.
use Rattle.conditions.proofs.Least.{number_none, number_some}
use Rattle.conditions.proofs.Conditions.least.Goals as goal

pub returns-then-not-has_number : goal.returns-then-not-has_number
returns-then-not-has_number c = search number_none

pub returns-else-not-has_number : goal.returns-else-not-has_number
returns-else-not-has_number c = search number_some
