-- The variables before this one have their least values in their places.
-- Rests on the laws of a turn, in Least.
use Rattle.conditions.proofs.Least.{finding_init, finding_exit, finding_fits, finding_none, finding_some, size_small, condition_bytes}
use Rattle.conditions.proofs.least_each.Goals as goal

pub loop-k-init : goal.loop-k-init
loop-k-init c = search finding_init

pub combine-requires-clause-bytes_at : goal.combine-requires-clause-bytes_at
combine-requires-clause-bytes_at c = search condition_bytes

pub combine-requires-clause-size_bound : goal.combine-requires-clause-size_bound
combine-requires-clause-size_bound c = search size_small

pub returns-in-None : goal.returns-in-None
returns-in-None c = search (finding_none, c.in-None.ensures)

pub overflow_add-skip : goal.overflow_add-skip
overflow_add-skip c = search finding_fits

pub loop-k-preserved : goal.loop-k-preserved
loop-k-preserved c = search (finding_some, c.in-Some.ensures)

pub returns : goal.returns
returns c = search finding_exit
