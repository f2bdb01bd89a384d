-- The lowest where no noted policy names the node, or a single one; else what the ranks tell.
-- Rests on chosen_unnamed and chosen_single.
use Rattle.planning.proofs.Picking.{chosen_single, chosen_unnamed}
use Rattle.planning.proofs.choose.Goals as goal

pub returns-then-is_empty : goal.returns-then-is_empty
returns-then-is_empty c = search chosen_unnamed

pub returns-then-alone : goal.returns-then-alone
returns-then-alone c = search chosen_single
