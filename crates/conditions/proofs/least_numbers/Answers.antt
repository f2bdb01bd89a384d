-- Each range gives its lower bound, if none is empty.
-- Rests on the laws of four numbers' values, in FourLeast.
use Rattle.conditions.proofs.FourLeast.{stored_step, stored_exit}
use Rattle.conditions.proofs.least_numbers.Goals as goal

pub loop-k-preserved : goal.loop-k-preserved
loop-k-preserved c = search stored_step

pub returns : goal.returns
returns c = search stored_exit
