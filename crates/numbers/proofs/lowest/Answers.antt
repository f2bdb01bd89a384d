-- A set that is not empty has a node below 64, so the count of its trailing zeros is one and fits.
-- Rests on tz-small.
use mathlib.Core.Path.{refl}
use native.Mathlib.Omega.{arith}
use Rattle.numbers.proofs.Bits.{tz-small}
use Rattle.numbers.proofs.lowest.Goals as goal

pub overflow_cast-result : goal.overflow_cast-result
overflow_cast-result c = omega (arith, tz-small 64 c.args.m c.requires c.ranges.m.fits)

pub returns : goal.returns
returns c = record { is = refl; small = tz-small 64 c.args.m c.requires c.ranges.m.fits }
