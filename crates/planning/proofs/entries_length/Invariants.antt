-- Node by node; the sum is that of the nodes that were passed.
-- Rests on nothing.
use Rattle.schema.specs.Schema.{schema_of}
use Rattle.planning.proofs.Measuring.{Summing}
use Rattle.planning.proofs.entries_length.Given as goal

abbrev pub invariant-loop-n : goal.invariant-loop-n
invariant-loop-n l = Summing (schema_of l.schema.bytes.now) l.nodes l.n l.sum
