-- The first so far is in the set, and none of the columns passed that is in it beats it.
use Rattle.order.specs.Order.{First}
use Rattle.order.proofs.first_in.Given as goal

abbrev pub invariant-loop-k : goal.invariant-loop-k
invariant-loop-k l = First l.ranks l.set l.k l.x
