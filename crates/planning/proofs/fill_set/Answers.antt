-- The columns so far have their marks.
-- Rests on the laws of the set, in Tables.
use Rattle.planning.proofs.Tables.{marking_exit, marking_step}
use Rattle.planning.proofs.fill_set.Goals as goal

pub loop-k-preserved : goal.loop-k-preserved
loop-k-preserved c = search marking_step

pub returns : goal.returns
returns c = search marking_exit
