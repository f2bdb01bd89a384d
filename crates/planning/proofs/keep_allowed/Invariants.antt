-- The set has lost what is forbidden in the columns so far.
-- Rests on nothing.
use Rattle.schema.specs.Schema.{schema_of}
use Rattle.planning.proofs.Bans.{Dropping}
use Rattle.planning.proofs.keep_allowed.Given as goal

abbrev pub invariant-loop-k : goal.invariant-loop-k
invariant-loop-k l = Dropping (schema_of l.policies.schema.bytes.now) l.n l.bans l.nodes l.k l.kept
