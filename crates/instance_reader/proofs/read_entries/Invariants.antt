-- The entries read so far leave the bits of `due` due, and what is left to read and to fill from here equals the whole.
-- Rests on `Going` of Reader.antt.
use mathlib.Core.List.{[]}
use Rattle.fields.specs.Runs.{run_of}
use Rattle.schema.specs.Schema.{schema_of}
use Rattle.instances.specs.File.{entries}
use Rattle.instance_reader.specs.Reader.{fill_entries, emptied}
use Rattle.instance_reader.proofs.Reader.{Going}
use Rattle.instance_reader.proofs.read_entries.Given as goal

abbrev pub invariant-loop-turn : goal.invariant-loop-turn
invariant-loop-turn l = Going l.schema.bytes.now l.s l.initial.slots (run_of (fill_entries (schema_of l.schema.bytes.now)) (entries l.s (schema_of l.schema.bytes.now) l.m [] l.from) (emptied l.initial.slots)) l.m l._turn l.due l.nodes l.at l.slots
