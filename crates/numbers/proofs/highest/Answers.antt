-- Moved up by at most 32 bits a mask stays below 2 ^ 64, so nothing of it is lost.
-- Rests on moved_up.
use borrow.Author.Rules.{rules}
use Rattle.numbers.proofs.Bits.{moved_up}
use Rattle.numbers.proofs.highest.Goals as goal

pub returns : goal.returns
returns c = moved_up _ _ c.ranges.mask.fits (search rules)
