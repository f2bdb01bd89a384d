-- Node by node; the sum is that of the nodes that were passed.
-- Rests on the laws of the sum, in Measuring.
use Rattle.planning.proofs.Measuring.{summing_take, summing_skip}
use Rattle.planning.proofs.entries_length.Goals as goal
use Rattle.planning.proofs.entries_length.Goals.{then-has, else-has}

pub loop-n-preserved : goal.loop-n-preserved
loop-n-preserved c = elim c.if-has.branch [ then-has w ↦ search summing_take | else-has w ↦ search summing_skip ]
