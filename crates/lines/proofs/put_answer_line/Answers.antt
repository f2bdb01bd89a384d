-- What a call answered gives the numbers of its line.
-- Rests on put_line's contract.
use Rattle.std.proofs.Common.{rules}
use Rattle.lines.proofs.Writing.{success_wrote, refusal_wrote}
use Rattle.lines.proofs.put_answer_line.Goals as goal

pub returns-in-Ok : goal.returns-in-Ok
returns-in-Ok c = search (success_wrote, rules)

pub returns-in-Err : goal.returns-in-Err
returns-in-Err c = search (refusal_wrote, rules)
