-- The successors from the next on, added to what is there, make the whole.
-- Rests on nothing.
use mathlib.Core.Path.{◌≡◌}
use lib.ListN.{drop}
use Rattle.numbers.specs.Bits.{with_all}
use Rattle.schema.specs.Schema.{schema_of, node_at}
use Rattle.instances.proofs.with_successors.Given as goal

abbrev pub invariant-loop-x : goal.invariant-loop-x
invariant-loop-x l = with_all l.set (drop l.x-index l.x-items) ≡ with_all l.m (node_at (schema_of l.schema.bytes.now) l.n).successors
