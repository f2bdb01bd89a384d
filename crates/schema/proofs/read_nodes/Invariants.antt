-- What is left to read and to fill from here equals the whole.
use Rattle.schema.proofs.Fill.{NodesLeft}
use Rattle.schema.proofs.read_nodes.Given as goal

abbrev pub invariant-loop-own : goal.invariant-loop-own
invariant-loop-own l = NodesLeft l.s l.count l.from l.initial.layouts l.layouts l.own l.at
