-- A column that no PN forbids is told by 0, another by 255.
-- Rests on the laws of a turn, in Banning.
use Rattle.ranks.specs.Ranks.{allowed_at}
use Rattle.ranks.proofs.Banning.{banning_keep, banning_ban}
use Rattle.ranks.proofs.ban_each.Goals as goal
use Rattle.ranks.proofs.ban_each.Goals.{then-none_forbids, else-none_forbids}

pub loop-k-preserved : goal.loop-k-preserved
loop-k-preserved c =
    let ok = allowed_at c.args.p.now c.args.offsets.now in
    elim c.if-none_forbids.branch [
      | then-none_forbids w ↦
          banning_keep ok c.loop-k.k c.loop-k.bans c.loop-k.invariant c.none_forbids.ensures c.loop-k-test.true c.requires.columns_bound w.if-none_forbids.true w.bans-is
      | else-none_forbids w ↦
          banning_ban ok c.loop-k.k c.loop-k.bans c.loop-k.invariant c.none_forbids.ensures c.loop-k-test.true c.requires.columns_bound w.if-none_forbids.false w.bans-is
    ]
