-- What is left to read and to note from here equals the whole.
use Rattle.schema.specs.Schema.{schema_of}
use Rattle.policy_reader.proofs.Rules.{Noting}
use Rattle.policy_reader.proofs.take_rest.Given as goal

abbrev pub invariant-loop-turn : goal.invariant-loop-turn
invariant-loop-turn l = Noting (schema_of l.schema.bytes.now) l.b l.keep l.head l.n l.initial.row.low l.initial.row.at l.initial.rows l.count l._turn l.row.low l.row.at l.rows
