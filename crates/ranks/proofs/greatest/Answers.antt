-- Each of the eight is the greater of two.
-- Rests on greater_each.
use Rattle.ranks.proofs.Banning.{greater_each}
use Rattle.ranks.proofs.greatest.Goals as goal

pub returns : goal.returns
returns c = search greater_each
