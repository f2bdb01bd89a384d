-- A value that was read fills its slot.
-- Rests on values_step.
use Rattle.instance_reader.proofs.Reader.{values_step}
use Rattle.instance_reader.proofs.read_values.Goals as goal

pub loop-k-preserved : goal.loop-k-preserved
loop-k-preserved c = values_step _ _ _ _ _ c.loop-k.invariant c.variable_count-k-end.ensures c.loop-k-test.true c.variable-v.ensures c.in_ok-u.ensures
