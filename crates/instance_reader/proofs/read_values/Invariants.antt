-- What is left to read and to fill from variable k on equals the whole.
-- Rests on `ReadingValues` of Reader.antt.
use Rattle.fields.specs.Runs.{run_of}
use Rattle.schema.specs.Schema.{schema_of, node_at}
use Rattle.instances.specs.File.{values}
use Rattle.instance_reader.specs.Decoded.{fill_values}
use Rattle.instance_reader.proofs.Reader.{ReadingValues}
use Rattle.instance_reader.proofs.read_values.Given as goal

abbrev pub invariant-loop-k : goal.invariant-loop-k
invariant-loop-k l = ReadingValues (node_at (schema_of l.schema.bytes.now) l.n) l.s (run_of (fill_values (node_at (schema_of l.schema.bytes.now) l.n).variables 0) (values l.s (node_at (schema_of l.schema.bytes.now) l.n).variables l.from) l.initial.bits) l.k l.at l.bits
