-- What is left to read from here, added to the set so far, equals the whole.
use Rattle.schema.proofs.Reader.{LinksLeft}
use Rattle.schema.proofs.read_successors.Given as goal

abbrev pub invariant-loop-turn : goal.invariant-loop-turn
invariant-loop-turn l = LinksLeft l.s l.count l.own l.c l.from l.set l.above l._turn l.at
