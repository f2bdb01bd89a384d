-- Two dashes, verdict, dash and line feed, each from where the one before ended.
-- Rests on the laws of `put`.
use Rattle.std.proofs.Common.{rules}
use Rattle.lines.proofs.Writing.{bad_line_wrote}
use Rattle.lines.proofs.put_bad_line.Goals as goal

pub returns : goal.returns
returns c = search (bad_line_wrote, rules)
