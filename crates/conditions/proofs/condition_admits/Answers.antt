-- Both bounds are asked, and a mask has no bit beyond 32.
-- Rests on the laws of one condition, in Admitting.
use Rattle.conditions.proofs.Admitting.{range_below, range_inside, mask_bits, mask_beyond}
use Rattle.conditions.proofs.condition_admits.Goals as goal

pub returns-then-get-x : goal.returns-then-get-x
returns-then-get-x c = search range_inside

pub returns-else-get-x : goal.returns-else-get-x
returns-else-get-x c = search range_below

pub returns-then-bits-lt32 : goal.returns-then-bits-lt32
returns-then-bits-lt32 c = search mask_bits

pub returns-else-bits-lt32 : goal.returns-else-bits-lt32
returns-else-bits-lt32 c = search mask_beyond
