-- Both halves are a number that stays so if it is turned by a byte.
-- Rests on the laws of bytes that are all alike, in Gathering.
use Rattle.ranks.proofs.Gathering.{alike_told}
use Rattle.ranks.proofs.is_alike.Goals as goal

pub returns-then-get-half : goal.returns-then-get-half
returns-then-get-half c =
    alike_told c.args.p.now c.args.at c.type_inv.p c.get-half.ensures c.get-half.type_inv c.get.ensures c.if-get-half.true c.rotate_right.ensures
