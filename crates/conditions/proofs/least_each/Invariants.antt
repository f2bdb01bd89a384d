-- The variables before this one have their least values in their places.
-- Rests on nothing.
use Rattle.schema.specs.Schema.{schema_of}
use Rattle.policies.specs.Rows.{noted}
use Rattle.conditions.proofs.Least.{Finding}
use Rattle.conditions.proofs.least_each.Given as goal

abbrev pub invariant-loop-k : goal.invariant-loop-k
invariant-loop-k l = Finding (schema_of l.policies.schema.bytes.now) (noted (schema_of l.policies.schema.bytes.now) l.policies.bytes.now l.policies.rows.now) l.n l.k l.skip l.bits
