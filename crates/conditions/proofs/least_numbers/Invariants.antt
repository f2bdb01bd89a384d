-- The bits of the lower bounds before this one stand in their places.
-- Rests on nothing.
use Rattle.conditions.proofs.FourLeast.{Stored}
use Rattle.conditions.proofs.least_numbers.Given as goal

abbrev pub invariant-loop-k : goal.invariant-loop-k
invariant-loop-k l = Stored l.conditions l.k l.bits
