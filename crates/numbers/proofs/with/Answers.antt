-- Below 64 the node is inserted; from 64 on nothing changes.
-- Rests on with_out.
use Rattle.numbers.proofs.Bits.{with_out}
use Rattle.numbers.proofs.with.Goals as goal

pub returns-else-n-lt64 : goal.returns-else-n-lt64
returns-else-n-lt64 c = search with_out
