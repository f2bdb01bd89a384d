-- The conditions from this offset on are left.
-- Rests on nothing.
use lib.ListN.{drop}
use mathlib.Core.Path.{◌≡◌}
use Rattle.numbers.specs.Bits.{ones}
use Rattle.policies.specs.Policies.{mask}
use Rattle.conditions.specs.Rules.{mask_at, narrowed_by}
use Rattle.conditions.proofs.narrow_mask.Given as goal

abbrev pub invariant-loop-at : goal.invariant-loop-at
invariant-loop-at l = narrowed_by (mask_at l.p l.skip) (drop l.at-index l.offsets) (mask l.mask) ≡ narrowed_by (mask_at l.p l.skip) l.offsets (mask (ones l.size))
