-- The power of ten that a number reaches tells how many digits it has.
-- Rests on digits_counted.
use Rattle.decimals.proofs.Decimal.{digits_counted}
use Rattle.decimals.proofs.digit_count.Goals as goal

pub returns : goal.returns
returns c = digits_counted c.args.x c.ilog10.result c.max.ensures c.ilog10.ensures.power_le c.ilog10.ensures.next_power_gt
