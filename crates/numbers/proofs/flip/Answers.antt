-- Below 64 the shifted one is 2 ^ n.
-- Rests on turned-in.
use Rattle.numbers.proofs.Bits.{turned-in}
use Rattle.numbers.proofs.flip.Goals as goal

pub returns : goal.returns
returns c = search turned-in
