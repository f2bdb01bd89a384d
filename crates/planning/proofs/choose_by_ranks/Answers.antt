-- The ranks are gathered and the set is filled, the order picks a column, and its successor is the answer.
-- Rests on the laws of the pick, in Picking.
use Rattle.planning.proofs.Picking.{chosen_by_ranks, picked_inside}
use Rattle.planning.proofs.Node.{successors_few, successors_small}
use Rattle.planning.proofs.choose_by_ranks.Goals as goal

pub fill_set-requires-clause-few : goal.fill_set-requires-clause-few
fill_set-requires-clause-few c = search successors_few

pub fill_set-requires-clause-below : goal.fill_set-requires-clause-below
fill_set-requires-clause-below c = search successors_small

pub pick-k-requires : goal.pick-k-requires
pick-k-requires c = search successors_few

pub bounds-successors-k : goal.bounds-successors-k
bounds-successors-k c = search picked_inside

pub returns : goal.returns
returns c = search chosen_by_ranks
