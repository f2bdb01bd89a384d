-- Each of the eight is at most the greatest.
-- Rests on none_banned.
use Rattle.planning.proofs.Bans.{none_banned}
use borrow.Author.Rules.{rules}
use Rattle.planning.proofs.none_banned.Goals as goal

pub returns : goal.returns
returns c = search (none_banned, rules)
