-- Below 64 the node is flipped; from 64 on nothing changes.
-- Rests on turned-out.
use Rattle.numbers.proofs.Bits.{turned-out}
use Rattle.numbers.proofs.turned_bit.Goals as goal

pub returns-else-n-lt64 : goal.returns-else-n-lt64
returns-else-n-lt64 c = search turned-out
