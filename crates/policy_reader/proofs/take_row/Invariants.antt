-- The PN read so far stand in a row, and are walked over.
use Rattle.policy_reader.proofs.Rules.{Walked}
use Rattle.policy_reader.proofs.take_row.Given as goal

abbrev pub invariant-loop-low : goal.invariant-loop-low
invariant-loop-low l = Walked l.layouts l.b l.keep l.head l.from l.initial.rows l.count l.low l.at l.rows l.rest
