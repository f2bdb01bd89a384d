-- The set and the tables tell of each node from here on.
-- Rests on nothing.
use Rattle.schema.specs.Schema.{schema_of}
use Rattle.policies.specs.Rows.{noted}
use Rattle.planning.specs.Sweep.{Swept}
use Rattle.planning.proofs.sweep_nodes.Given as goal

abbrev pub invariant-loop-n : goal.invariant-loop-n
invariant-loop-n l = Swept l.policies.schema.bytes.now (noted (schema_of l.policies.schema.bytes.now) l.policies.bytes.now l.policies.rows.now) l.n l.feasible l.eligible l.slots
