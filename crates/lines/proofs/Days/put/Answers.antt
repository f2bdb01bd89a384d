-- One number and then the other; a day has at most five digits, so both have room.
-- Rests on the laws of `put` and of decimal digits.
use Rattle.std.proofs.Common.{rules, arith}
use Rattle.lines.proofs.Writing.{day_end, days_wrote}
use Rattle.lines.proofs.Days.put.Goals as goal

pub put_number-requires : goal.put_number-requires
put_number-requires c = omega (arith, day_end c.put_number-at.ensures (search (rules, c.well_formed)))

pub returns : goal.returns
returns c = search (days_wrote, rules)
