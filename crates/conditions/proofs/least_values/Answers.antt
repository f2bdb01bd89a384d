-- A node without variables has them all.
-- Rests on the laws of a node's values, in Least.
use Rattle.conditions.proofs.Least.{least_empty}
use Rattle.conditions.proofs.least_values.Goals as goal

pub returns-then-variable_count-eq0 : goal.returns-then-variable_count-eq0
returns-then-variable_count-eq0 c = search least_empty
