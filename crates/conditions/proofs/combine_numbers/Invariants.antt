-- The offsets from here on are left for each of the four.
-- Rests on nothing.
use Rattle.schema.specs.Schema.{schema_of}
use Rattle.policies.specs.Policies.{range}
use Rattle.conditions.proofs.Numbers.{Four}
use Rattle.conditions.proofs.combine_numbers.Given as goal

abbrev pub invariant-loop-at : goal.invariant-loop-at
invariant-loop-at l = Four (schema_of l.policies.schema.bytes.now) l.policies.bytes.now l.n l.at-items l.skip l.at-index (range l.w.lo l.w.hi) (range l.x.lo l.x.hi) (range l.y.lo l.y.hi) (range l.z.lo l.z.hi)
