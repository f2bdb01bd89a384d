-- A column of the set takes the place of one that it is better than; another leaves it.
-- Rests on the laws of the scan, in Best.
use Rattle.order.proofs.Best.{first_in, first_out}
use Rattle.order.proofs.first_in.Goals as goal
use Rattle.order.proofs.first_in.Goals.{then-set-k-eq1, else-set-k-eq1}

pub loop-k-preserved : goal.loop-k-preserved
loop-k-preserved c =
    elim c.if-set-k-eq1.branch [
      | then-set-k-eq1 w ↦ search (first_in, w.x-is)
      | else-set-k-eq1 w ↦ search (first_out, w.x-is)
    ]
