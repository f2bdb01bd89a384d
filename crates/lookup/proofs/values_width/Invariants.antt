-- What was summed and the widths from variable k on make the whole.
-- Rests on nothing.
use Rattle.schema.specs.Schema.{schema_of, node_at}
use Rattle.lookup.proofs.Lookup.{Summed}
use Rattle.lookup.proofs.values_width.Given as goal

abbrev pub invariant-loop-k : goal.invariant-loop-k
invariant-loop-k l = Summed (node_at (schema_of l.schema.bytes.now) l.n) l.k l.width
