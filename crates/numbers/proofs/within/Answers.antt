-- From size 32 on every mask is below 2 ^ size; below 32 it is exactly if the shift leaves nothing.
-- Rests on whole-size and part-size.
use Rattle.numbers.proofs.Bits.{whole-size, part-size}
use Rattle.numbers.proofs.within.Goals as goal

pub returns-then-size-ge32 : goal.returns-then-size-ge32
returns-then-size-ge32 c = whole-size _ _ c.ranges.mask.fits c.if-size-ge32.true

pub returns : goal.returns
returns c = search part-size
