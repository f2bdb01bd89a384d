-- What the row's conditions admit is what the noted policies do.
-- Rests on the law of the row, in Row.
use Rattle.conditions.proofs.Row.{row_admitted}
use Rattle.conditions.proofs.is_admitted.Goals as goal

pub returns : goal.returns
returns c = search row_admitted
