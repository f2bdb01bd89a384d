-- The values from here on are left to judge.
use Rattle.schema.specs.Schema.{schema_of, node_at}
use Rattle.policies.specs.Rows.{noted}
use Rattle.instances.specs.Plan.{values_from}
use Rattle.model.specs.Comparing.{forbidden_value}
use Rattle.checker.specs.Checks.{forbidden_in}
use Rattle.checker.proofs.Values.{Judging}
use Rattle.checker.proofs.first_value.Given as goal

abbrev pub invariant-loop-k : goal.invariant-loop-k
invariant-loop-k l = Judging (schema_of l.policies.schema.bytes.now) (noted (schema_of l.policies.schema.bytes.now) l.policies.bytes.now l.policies.rows.now) l.n l.bits (forbidden_in (forbidden_value (noted (schema_of l.policies.schema.bytes.now) l.policies.bytes.now l.policies.rows.now) l.n 0 (node_at (schema_of l.policies.schema.bytes.now) l.n).variables (values_from (node_at (schema_of l.policies.schema.bytes.now) l.n).variables l.bits 0) l.from)) l.k l.at l.skip
