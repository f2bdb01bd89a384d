-- Before the sweep no node is reached; a turn sets the flag of the node below; the flag of node 0 is the answer.
-- Rests on the laws of the sweep over the nodes, in Flagging.
use Rattle.comparison.proofs.Flagging.{flagging_init, flagging_step, flagging_exit}
use Rattle.comparison.proofs.as_good.Goals as goal

pub loop-n-init : goal.loop-n-init
loop-n-init c = search flagging_init

pub loop-n-preserved : goal.loop-n-preserved
loop-n-preserved c = search flagging_step

pub returns : goal.returns
returns c = search flagging_exit
