-- The nodes are swept; where the root is feasible, the reached ones choose.
-- Rests on what the sweep and the choices leave, in Answer.
use Rattle.planning.proofs.Answer.{answer_eligible, answer_unchosen, plans_none, plans_some}
use Rattle.planning.proofs.plan_for.Goals as goal

pub choose_nodes-requires-clause-eligible : goal.choose_nodes-requires-clause-eligible
choose_nodes-requires-clause-eligible c = search answer_eligible

pub choose_nodes-requires-clause-unchosen : goal.choose_nodes-requires-clause-unchosen
choose_nodes-requires-clause-unchosen c = search answer_unchosen

pub returns-then-has : goal.returns-then-has
returns-then-has c = search plans_some

pub returns : goal.returns
returns c = search plans_none
