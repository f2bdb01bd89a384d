-- Schema first, then the instance.
-- Rests on the laws of the schema's reader, which has answered Ok where the call goes on.
use Rattle.fields.proofs.Mapped.{mapped_ok}
use Rattle.calls.specs.Calls.{delivering, sheeting}
use Rattle.calls.proofs.Inputs.{schema_accepted, schema_tabled, schema_ok_did}
use Rattle.sheet.proofs.with_room.Goals as goal

pub invariant_of-schema : goal.invariant_of-schema
invariant_of-schema g c =
    record {
      accepted = schema_accepted _ _ c.read_schema.ensures (mapped_ok _ c.in_ok-map_err.ensures.cases);
      tabled = schema_tabled _ _ c.read_schema.ensures (mapped_ok _ c.in_ok-map_err.ensures.cases);
      bytes_fit = c.type_inv.schema;
    }

pub returns : goal.returns
unfolding sheeting delivering
returns g c = schema_ok_did _ _ c.read_schema.ensures (mapped_ok _ c.in_ok-map_err.ensures.cases) _ _ c.with_schema.ensures
