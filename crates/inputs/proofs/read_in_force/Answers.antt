-- The rows have room for the nodes of the schema as it is laid out, which is the same.
-- Rests on what `laid` ensures.
use Rattle.inputs.proofs.read_in_force.Goals as goal

pub read_policies-read-requires : goal.read_policies-read-requires
read_policies-read-requires c = rw c.laid-laid.ensures.same_bytes c.requires
