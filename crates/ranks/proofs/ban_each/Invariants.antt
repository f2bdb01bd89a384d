-- The columns so far are told.
use Rattle.ranks.specs.Ranks.{Bans, allowed_at}
use Rattle.ranks.proofs.ban_each.Given as goal

abbrev pub invariant-loop-k : goal.invariant-loop-k
invariant-loop-k l = Bans (allowed_at l.p l.offsets) l.k l.bans
