-- What is left to read and to store from here equals the whole.
use Rattle.schema.proofs.Laying.{VariablesLeft}
use Rattle.schema.proofs.read_variables.Given as goal

abbrev pub invariant-loop-j : goal.invariant-loop-j
invariant-loop-j l = VariablesLeft l.s l.count l.ranks l.from l.fn.layout l.layout l.j l.at l.skip
