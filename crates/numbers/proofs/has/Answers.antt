-- The shift leaves bit n lowest, and its digit is the bit.
-- Assumes nothing.
use mathlib.Core.Path.{refl}
use Rattle.numbers.specs.Bits.{bit}
use Rattle.numbers.proofs.has.Goals as goal

pub returns : goal.returns
unfolding bit
returns c = refl
