-- One return for none, by a copy of its text, and one for a number.
-- Rests on the number of a byte's digits.
use Rattle.columns.proofs.Columns.{choice_room, choice_none, choice_some}
use Rattle.columns.proofs.put_choice.Goals as goal

pub put_right-requires-clause-x_len_bound : goal.put_right-requires-clause-x_len_bound
put_right-requires-clause-x_len_bound c = search choice_room

pub returns-then-c-eq255 : goal.returns-then-c-eq255
returns-then-c-eq255 c = search choice_none

pub returns-else-c-eq255 : goal.returns-else-c-eq255
returns-else-c-eq255 c = search choice_some
