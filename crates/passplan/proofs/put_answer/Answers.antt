-- A record that was read gives a pass's line, a breach a bad PS's.
-- Rests on read_pass's contract: a breach is at one of the record's three fields.
use Rattle.std.proofs.Common.{rules}
use Rattle.passplan.proofs.Printing.{offset_fits, bad_answered, good_answered}
use Rattle.passplan.proofs.put_answer.Goals as goal

pub overflow_add-offset : goal.overflow_add-offset
overflow_add-offset c = record { fits = offset_fits _ _ _ _ c.in-Err.ensures c.requires.at_bound }

pub returns-in-Err : goal.returns-in-Err
returns-in-Err c = bad_answered _ _ _ _ _ c.in-Err.ensures _ _ c.put_bad_line.ensures (search rules)

pub returns-in-Ok : goal.returns-in-Ok
returns-in-Ok c = good_answered _ _ _ _ _ c.in-Ok.ensures _ _ c.put_pass-end.ensures
