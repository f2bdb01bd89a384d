-- A buffer shorter than the plan's file is refused, else the file is written.
-- Rests on what the plan tells of the file, in Writing.
use Rattle.std.proofs.Common.{rules}
use Rattle.reconciler.proofs.Writing.{no_instance, plan_nodes, plan_room, plan_short, plan_written}
use Rattle.reconciler.proofs.write_plan.Goals as goal

pub returns-in-None : goal.returns-in-None
returns-in-None c = search (no_instance, rules)

pub returns-then-is_short : goal.returns-then-is_short
returns-then-is_short c = search (plan_short, rules)

pub write_planned-requires-clause-nodes_value : goal.write_planned-requires-clause-nodes_value
write_planned-requires-clause-nodes_value c = search (plan_nodes, rules)

pub write_planned-requires-clause-file_in_bounds : goal.write_planned-requires-clause-file_in_bounds
write_planned-requires-clause-file_in_bounds c = search (plan_room, rules)

pub returns-else-is_short : goal.returns-else-is_short
returns-else-is_short c = search plan_written
