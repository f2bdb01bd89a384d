-- The digits from the last to the first: with those of what is left put in front, the buffer is what it shall be.
use Rattle.decimals.proofs.Filling.{Filling}
use Rattle.decimals.proofs.put_ending.Given as goal

abbrev pub invariant-loop-rest : goal.invariant-loop-rest
invariant-loop-rest l = Filling l.initial.out l.end l.x l.out l.rest l.at

abbrev pub decreases-loop-rest : goal.decreases-loop-rest
decreases-loop-rest l = l.rest
