-- Each return is one case of the model's step.
-- Rests on the laws of one node, in Node.
use Rattle.planning.proofs.Node.{node_all, node_choose, node_nothing}
use Rattle.planning.proofs.plan_node.Goals as goal

pub returns-then-chooses : goal.returns-then-chooses
returns-then-chooses c = search node_choose

pub returns-then-least_values : goal.returns-then-least_values
returns-then-least_values c = search node_all

pub returns : goal.returns
returns c = search node_nothing
