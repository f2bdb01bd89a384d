-- What is left to read from here equals the whole.
use mathlib.Core.Path.{◌≡◌}
use lib.ListN.{drop}
use Rattle.fields.specs.Answers.{end_of}
use Rattle.schema.specs.Schema.{schema_of, node_at}
use Rattle.policies.specs.Policies.{conditions}
use Rattle.rule_reader.proofs.read_conditions.Given as goal

abbrev pub invariant-loop-k : goal.invariant-loop-k
invariant-loop-k l = end_of (conditions l.b (drop l.k (node_at (schema_of l.schema.bytes.now) l.n).variables) l.at) ≡ end_of (conditions l.b (node_at (schema_of l.schema.bytes.now) l.n).variables l.from)
