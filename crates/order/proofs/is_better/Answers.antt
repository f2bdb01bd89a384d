-- Where no row's ranks differ, the lower number is better.
-- Rests on better_last.
use Rattle.order.proofs.Rows.{better_last}
use Rattle.order.proofs.is_better.Goals as goal

pub returns : goal.returns
returns c = search better_last
