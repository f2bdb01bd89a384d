-- Number, file and offset, then the instance or a dash.
-- Rests on the laws of `put`.
use Rattle.std.proofs.Common.{rules}
use Rattle.lines.proofs.Writing.{answer_good, answer_bad}
use Rattle.lines.proofs.put_answer.Goals as goal

pub returns-then-verdict-eq0 : goal.returns-then-verdict-eq0
returns-then-verdict-eq0 c = search (answer_good, rules)

pub returns : goal.returns
returns c = search (answer_bad, rules)
