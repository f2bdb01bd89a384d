-- The conditions from this offset on are left.
-- Rests on nothing.
use lib.ListN.{drop}
use mathlib.Core.Path.{◌≡◌}
use Rattle.policies.specs.Policies.{range}
use Rattle.conditions.specs.Rules.{range_at, narrowed_by}
use Rattle.conditions.proofs.narrow_range.Given as goal

abbrev pub invariant-loop-at : goal.invariant-loop-at
invariant-loop-at l = narrowed_by (range_at l.p l.skip) (drop l.at-index l.offsets) (range l.x.lo l.x.hi) ≡ narrowed_by (range_at l.p l.skip) l.offsets (range l.fn.start.lo l.fn.start.hi)
