-- The digits end where they shall begin to be put, so many places on.
-- Rests on decimal_wrote.
use Rattle.lines.proofs.Writing.{decimal_wrote}
use Rattle.lines.proofs.put_decimal.Goals as goal

pub returns : goal.returns
returns c = decimal_wrote _ c.ranges.x.fits c.put_ending.ensures c.digit_count.ensures
