-- Each column's greatest rank is the greater of that so far and the next PN's.
-- Rests on greatest_more.
use Rattle.ranks.proofs.Banning.{greatest_more}
use Rattle.ranks.proofs.ban_eight.Goals as goal

pub loop-at-preserved : goal.loop-at-preserved
loop-at-preserved c =
    greatest_more c.args.p.now c.args.offsets.now c.loop-at.at-index c.loop-at.bans c.loop-at.invariant c.type_inv.p c.loop-at-test.true c.from.ensures
    (c.in-Some.ensures).cases.same c.greatest.ensures
