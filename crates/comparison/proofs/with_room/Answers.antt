-- Schema, policies and pass are judged, then the instances.
-- Rests on the laws of the schema's reader, which has answered Ok where the call goes on, and of what is read after it.
use Rattle.std.proofs.Common.{rules}
use Rattle.fields.proofs.Mapped.{mapped_ok}
use Rattle.calls.specs.Calls.{comparing}
use Rattle.calls.proofs.Inputs.{schema_accepted, schema_tabled, schema_ok}
use Rattle.inputs.proofs.Above.{in_force_noted, in_force_bad, in_force_compared}
use Rattle.comparison.proofs.with_room.Goals as goal

pub invariant_of-schema : goal.invariant_of-schema
invariant_of-schema g c =
    record {
      accepted = schema_accepted _ _ c.read_schema.ensures (mapped_ok _ c.in_ok-map_err.ensures.cases);
      tabled = schema_tabled _ _ c.read_schema.ensures (mapped_ok _ c.in_ok-map_err.ensures.cases);
      bytes_fit = c.type_inv.schema;
    }

pub returns-in_err-read_in_force : goal.returns-in_err-read_in_force
unfolding comparing
returns-in_err-read_in_force g c =
    search (schema_ok _ _ c.read_schema.ensures (mapped_ok _ c.in_ok-map_err.ensures.cases), in_force_bad _ _ _ _ _ c.in_err-read_in_force.ensures, rules)

pub invariant_of-policies : goal.invariant_of-policies
invariant_of-policies g c = record { noted = in_force_noted _ _ _ _ _ c.in_ok-read_in_force.ensures }

pub returns : goal.returns
unfolding comparing
returns g c =
    schema_ok _ _ c.read_schema.ensures (mapped_ok _ c.in_ok-map_err.ensures.cases) _
    (in_force_compared _ _ _ _ _ c.in_ok-read_in_force.ensures _ _ c.in_force.ensures)
