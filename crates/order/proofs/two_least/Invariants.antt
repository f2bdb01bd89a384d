-- The least key and the second least of the columns passed.
use Rattle.order.specs.Order.{TwoLeast}
use Rattle.order.proofs.two_least.Given as goal

abbrev pub invariant-loop-k : goal.invariant-loop-k
invariant-loop-k l = TwoLeast l.row l.set l.k l.least l.second
