-- The offsets from here on are left for each of the eight columns.
use Rattle.ranks.proofs.Banning.{Greatest}
use Rattle.ranks.proofs.ban_eight.Given as goal

abbrev pub invariant-loop-at : goal.invariant-loop-at
invariant-loop-at l = Greatest l.p l.offsets l.at-index l.bans
