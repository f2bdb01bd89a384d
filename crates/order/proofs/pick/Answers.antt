-- The first row decides, where no other column has the least key's rank.
-- Rests on picked_first and first_by_row.
use Rattle.order.proofs.Best.{picked_first}
use Rattle.order.proofs.Keys.{first_by_row}
use Rattle.order.proofs.pick.Goals as goal

pub returns-then-keys : goal.returns-then-keys
returns-then-keys c = search (picked_first, first_by_row, (c.in-Some.ensures).value)
