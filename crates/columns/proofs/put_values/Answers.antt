-- With the columns of the values from variable k on put from here, the buffer is what it shall be; the last of them are blank.
-- Rests on the laws of `PuttingValues`, in Lines.
use Rattle.columns.proofs.Lines.{values_init, values_step, values_exit}
use Rattle.columns.proofs.put_values.Goals as goal

pub loop-k-init : goal.loop-k-init
loop-k-init c = search values_init

pub loop-k-preserved : goal.loop-k-preserved
loop-k-preserved c = search values_step

pub returns : goal.returns
returns c = values_exit _ _ _ _ _ _ _ c.loop-k.invariant c.variable_count-k-end.ensures c.requires.from_in_bounds c.loop-k-test.false (c.fill.ensures.after λ y e. e)
