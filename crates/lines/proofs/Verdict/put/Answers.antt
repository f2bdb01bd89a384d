-- Three numbers one after the other; a byte has at most three digits, so all have room.
-- Rests on the laws of `put` and of decimal digits.
use Rattle.std.proofs.Common.{rules, arith}
use Rattle.lines.proofs.Writing.{byte_end, verdict_wrote}
use Rattle.lines.proofs.Verdict.put.Goals as goal

pub put_number-at-requires-2 : goal.put_number-at-requires-2
put_number-at-requires-2 c = omega (arith, byte_end c.put_number-at.ensures (search (rules, c.well_formed)))

pub put_number-requires : goal.put_number-requires
put_number-requires c = omega (
  arith,
  byte_end c.put_number-at.ensures (search (rules, c.well_formed)),
  byte_end c.put_number-at-2.ensures (search (rules, c.well_formed)),
)

pub returns : goal.returns
returns c = search (verdict_wrote, rules)
