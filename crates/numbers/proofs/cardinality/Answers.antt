-- The count of a number's set bits is at most 64 and fits.
-- Rests on cardinality-fits.
use mathlib.Core.Path.{refl}
use native.Mathlib.Omega.{arith}
use Rattle.numbers.specs.Bits.{cardinality}
use Rattle.numbers.proofs.Bits.{cardinality-fits}
use Rattle.numbers.proofs.cardinality.Goals as goal

pub overflow_cast-result : goal.overflow_cast-result
unfolding cardinality
overflow_cast-result c = omega (arith, cardinality-fits c.args.m c.ranges.m.fits)

pub returns : goal.returns
unfolding cardinality
returns c = refl
