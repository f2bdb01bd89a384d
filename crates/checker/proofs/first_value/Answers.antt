-- The values from here on are left to judge.
-- Rests on the laws of the loop, in Values.
use Rattle.checker.proofs.Values.{judging_init, value_fits, skip_fits, judging_step}
use Rattle.checker.proofs.first_value.Goals as goal

pub loop-k-init : goal.loop-k-init
loop-k-init c = search judging_init

pub loop-k-preserved : goal.loop-k-preserved
loop-k-preserved c = search judging_step

pub overflow_add-at : goal.overflow_add-at
overflow_add-at c = search value_fits

pub overflow_add-skip : goal.overflow_add-skip
overflow_add-skip c = search skip_fits
