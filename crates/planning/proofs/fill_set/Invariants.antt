-- The columns so far have their marks.
-- Rests on nothing.
use Rattle.planning.proofs.Tables.{Marking}
use Rattle.planning.proofs.fill_set.Given as goal

abbrev pub invariant-loop-k : goal.invariant-loop-k
invariant-loop-k l = Marking l.successors l.k l.nodes l.set
