-- The set has lost what is forbidden in the columns so far.
-- Rests on the laws of the columns, in Bans.
use Rattle.planning.proofs.Bans.{dropping_keep, dropping_step, dropping_exit, allowed_unnamed, allowed_unbanned}
use Rattle.planning.proofs.keep_allowed.Goals as goal
use Rattle.planning.proofs.keep_allowed.Goals.{then-bans-k, else-bans-k}

pub returns-then-is_empty : goal.returns-then-is_empty
returns-then-is_empty c = search allowed_unnamed

pub returns-then-none_banned : goal.returns-then-none_banned
returns-then-none_banned c = search allowed_unbanned

pub loop-k-preserved : goal.loop-k-preserved
loop-k-preserved c = elim c.if-bans-k.branch [ then-bans-k w ↦ search dropping_step | else-bans-k w ↦ search dropping_keep ]

pub returns : goal.returns
returns c = search dropping_exit
