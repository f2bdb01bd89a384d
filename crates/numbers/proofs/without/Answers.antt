-- A bit that is set and turned is cleared.
-- Rests on without-by.
use Rattle.numbers.proofs.Bits.{without-by}
use Rattle.numbers.proofs.without.Goals as goal

pub returns : goal.returns
returns c = search without-by
