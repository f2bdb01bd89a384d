-- With the columns of the values from variable k on put from here, the buffer is what it shall be; the last of them are blank.
-- Rests on `PuttingValues` of Lines.antt.
use Rattle.schema.specs.Schema.{schema_of, node_at}
use Rattle.columns.proofs.Lines.{PuttingValues}
use Rattle.columns.proofs.put_values.Given as goal

abbrev pub invariant-loop-k : goal.invariant-loop-k
invariant-loop-k l = PuttingValues (node_at (schema_of l.schema.bytes.now) l.n) l.bits l.k l.initial.out l.from l.out l.at
