-- Below 64 the shifted one is 2 ^ n.
-- Rests on with_in.
use Rattle.numbers.proofs.Bits.{with_in}
use Rattle.numbers.proofs.insert.Goals as goal

pub returns : goal.returns
returns c = search with_in
