-- A signed number's bytes are those of its bits.
-- Rests on the contract of the bits' own put.
use Rattle.std.proofs.Common.{rules}
use Rattle.fields.proofs.I32BigEndian.put.Goals as goal

pub returns : goal.returns
returns c = search rules
