-- A signed number's bits are what its bytes spell, and it is these as two's complement.
-- Rests on the contracts of the bits' own get and of the library's cast.
use Rattle.std.proofs.Common.{rules}
use Rattle.fields.proofs.I32BigEndian.get.Goals as goal

pub returns-clause-code : goal.returns-clause-code
returns-clause-code c = search rules

pub returns-clause-value : goal.returns-clause-value
returns-clause-value c = search rules
