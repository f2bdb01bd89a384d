-- The entries of the nodes that are left are to judge.
use Rattle.numbers.specs.Members.{members_left}
use Rattle.schema.specs.Schema.{schema_of}
use Rattle.policies.specs.Rows.{noted}
use Rattle.instances.proofs.Walk.{Walk}
use Rattle.checker.proofs.Entries.{JudgingEntries}
use Rattle.checker.proofs.first_forbidden.Given as goal

abbrev pub invariant-loop-n : goal.invariant-loop-n
invariant-loop-n l = Walk l.policies.schema.bytes.now l.slots (JudgingEntries l.policies.schema.bytes.now l.slots (noted (schema_of l.policies.schema.bytes.now) l.policies.bytes.now l.policies.rows.now) l.at) (members_left l.n-iterator)
