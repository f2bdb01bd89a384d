-- The digits from the last to the first: with those of what is left put in front, the buffer is what it shall be.
-- Rests on Filling.
use Rattle.decimals.proofs.Filling.{fill-some, fill-init, fill-inside, fill-above, fill_step, fill-exit}
use Rattle.decimals.proofs.put_ending.Goals as goal

pub overflow_sub-at : goal.overflow_sub-at
overflow_sub-at c = search fill-some

pub loop-rest-init : goal.loop-rest-init
loop-rest-init c = search fill-init

pub bounds-out-at : goal.bounds-out-at
bounds-out-at c = search fill-inside

pub overflow_sub-at-in-loop-rest : goal.overflow_sub-at-in-loop-rest
overflow_sub-at-in-loop-rest c = search fill-above

pub loop-rest-preserved : goal.loop-rest-preserved
loop-rest-preserved c = search fill_step

pub bounds-out-at-2 : goal.bounds-out-at-2
bounds-out-at-2 c = search fill-inside

pub returns : goal.returns
returns c = search fill-exit
