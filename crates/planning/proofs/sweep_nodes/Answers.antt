-- The set and the tables tell of each node from here on.
-- Rests on the laws of one turn, in Sweep.
use Rattle.planning.proofs.Sweep.{sweep_exit, sweep_feasible, sweep_infeasible, sweep_init}
use Rattle.planning.proofs.sweep_nodes.Goals as goal

pub loop-n-init : goal.loop-n-init
loop-n-init c = search sweep_init

pub loop-n-preserved-then-plan_node : goal.loop-n-preserved-then-plan_node
loop-n-preserved-then-plan_node c = search sweep_feasible

pub loop-n-preserved : goal.loop-n-preserved
loop-n-preserved c = search sweep_infeasible

pub returns : goal.returns
returns c = search sweep_exit
