-- Both ways tell which successors the noted policies forbid.
-- Rests on what the rows tell, in Row.
use Rattle.ranks.proofs.Row.{columns_banned, eight_banned}
use Rattle.ranks.proofs.bans.Goals as goal

pub returns-then-not-ban_eight : goal.returns-then-not-ban_eight
returns-then-not-ban_eight c =
    columns_banned c.args.policies.now c.args.n c.requires.n_in_bounds c.offsets-offsets.ensures.is c.rank_count-columns.ensures c.ban_each.ensures

pub returns-else-not-ban_eight : goal.returns-else-not-ban_eight
returns-else-not-ban_eight c =
    eight_banned c.args.policies.now c.args.n c.requires.n_in_bounds c.offsets-offsets.ensures.is c.ban_eight.ensures c.if-not-ban_eight.false
