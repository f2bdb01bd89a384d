-- Days, answer and line feed, each from where the one before ended.
-- Rests on the laws of `put`.
use Rattle.std.proofs.Common.{rules}
use Rattle.lines.proofs.Writing.{line_wrote}
use Rattle.lines.proofs.put_line.Goals as goal

pub returns : goal.returns
returns c = search (line_wrote, rules)
