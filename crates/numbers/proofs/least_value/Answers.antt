-- A mask that is not zero has a bit below 32, so the count of its trailing zeros is one.
-- Rests on tz-small.
use mathlib.Core.Path.{refl}
use Rattle.numbers.proofs.Bits.{tz-small}
use Rattle.numbers.proofs.least_value.Goals as goal

pub returns : goal.returns
returns c = record { is = refl; small = tz-small 32 c.args.m c.requires c.ranges.m.fits }
