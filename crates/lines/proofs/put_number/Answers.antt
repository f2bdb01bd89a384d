-- The digits and then a space.
-- Rests on the laws of `put`.
use Rattle.std.proofs.Common.{rules}
use Rattle.lines.proofs.Writing.{number_wrote}
use Rattle.lines.proofs.put_number.Goals as goal

pub returns : goal.returns
returns c = search (number_wrote, rules)
