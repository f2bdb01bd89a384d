-- Of two choices that differ the better one is at least as good.
-- Rests on the laws of two choices, in Good.
use Rattle.comparison.proofs.Good.{choice_other}
use Rattle.comparison.proofs.is_good_choice.Goals as goal

pub returns : goal.returns
returns c = search choice_other
