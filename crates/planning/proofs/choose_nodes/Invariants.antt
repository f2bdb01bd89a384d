-- The nodes taken and the entries of those left make the whole; the lowest of them rises.
-- Rests on nothing.
use Prim.Native.Nat.{◌-◌}
use lib.Count.{count_trailing_zeros}
use Rattle.schema.specs.Schema.{schema_of}
use Rattle.policies.specs.Rows.{noted}
use Rattle.planning.proofs.Reaching.{Choosing}
use Rattle.planning.proofs.choose_nodes.Given as goal

abbrev pub invariant-loop-left : goal.invariant-loop-left
invariant-loop-left l = Choosing (schema_of l.policies.schema.bytes.now) (noted (schema_of l.policies.schema.bytes.now) l.policies.bytes.now l.policies.rows.now) l.initial.slots l.slots l.left l.reached

abbrev pub decreases-loop-left : goal.decreases-loop-left
decreases-loop-left l = 64 - count_trailing_zeros 64 l.left
