-- Before each turn what is left makes what the whole file does, and the walker has the file's bytes.
use Rattle.std.proofs.Common.{◌≡◌, ◌-◌}
use Rattle.fields.specs.Runs.{run_of}
use Rattle.schema.specs.Schema.{schema_of}
use Rattle.policies.specs.Policies.{policies, most_policies}
use Rattle.policies.specs.Pass.{in_force}
use Rattle.policies.specs.Rows.{note_policies}
use Rattle.policy_reader.specs.Runs.{Leaves}
use Rattle.policy_reader.proofs.read_policies.Given as goal

abbrev pub invariant-loop-next : goal.invariant-loop-next
invariant-loop-next l = record {
  bytes : l.w.bytes.now ≡ l.p;
  left : Leaves (schema_of l.schema.bytes.now) l.p l.a l.b l.j l.w.at l.rows (run_of (note_policies (in_force l.a l.b) 0) (policies (schema_of l.schema.bytes.now) l.p) l.initial.rows);
}

abbrev pub decreases-loop-next : goal.decreases-loop-next
decreases-loop-next l = most_policies - l.j
