-- Where the ranks are alike the lower number is better.
-- Rests on the laws of compared ranks, in Better.
use Rattle.comparison.proofs.Better.{ranks_equal}
use Rattle.comparison.proofs.is_better.Goals as goal

pub returns-in-Equal : goal.returns-in-Equal
returns-in-Equal c = search ranks_equal
