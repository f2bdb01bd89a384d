-- The nodes taken and the entries of those left make the whole; the lowest of them rises.
-- Rests on Reaching.
use Rattle.planning.proofs.Node.{node_chooses}
use Rattle.planning.proofs.Reaching.{choosing_init, choosing_node, choosing_eligible, choosing_slot, choosing_choice, choice_below, choice_small, choosing_step, choosing_less, choosing_all, choosing_all_less, choosing_exit}
use Rattle.planning.proofs.choose_nodes.Goals as goal

pub loop-left-init : goal.loop-left-init
loop-left-init c = search choosing_init

pub chooses-requires : goal.chooses-requires
chooses-requires c = search choosing_node

pub bounds-eligible-n : goal.bounds-eligible-n
bounds-eligible-n c = search choosing_eligible

pub bounds-slots-n : goal.bounds-slots-n
bounds-slots-n c = search choosing_slot

pub choose-x-requires-clause-node_in : goal.choose-x-requires-clause-node_in
choose-x-requires-clause-node_in c = search choosing_node

pub choose-x-requires-clause-n_value : goal.choose-x-requires-clause-n_value
choose-x-requires-clause-n_value c = search node_chooses

pub choose-x-requires-clause-choice : goal.choose-x-requires-clause-choice
choose-x-requires-clause-choice c = search choosing_choice

pub overflow_cast-slots : goal.overflow_cast-slots
overflow_cast-slots c = record { fits = search choice_small }

pub insert-left-requires : goal.insert-left-requires
insert-left-requires c = search choice_below

pub loop-left-smaller-then-chooses : goal.loop-left-smaller-then-chooses
loop-left-smaller-then-chooses c = search choosing_less

pub loop-left-preserved-then-chooses : goal.loop-left-preserved-then-chooses
loop-left-preserved-then-chooses c = search choosing_step

pub successor_set-left-requires : goal.successor_set-left-requires
successor_set-left-requires c = search choosing_node

pub loop-left-smaller : goal.loop-left-smaller
loop-left-smaller c = search choosing_all_less

pub loop-left-preserved : goal.loop-left-preserved
loop-left-preserved c = search choosing_all

pub returns : goal.returns
returns c = search choosing_exit
