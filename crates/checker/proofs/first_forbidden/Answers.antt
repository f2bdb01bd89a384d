-- The entries of the nodes that are left are to judge.
-- Rests on the walk over a plan's entries, and on the laws of its entries, in Entries.
use Rattle.instances.proofs.Walk.{walk_init, walk_node}
use Rattle.checker.proofs.Entries.{entries_init, entries_room, entries_no, entries_step, entries_exit}
use Rattle.checker.proofs.first_forbidden.Goals as goal

pub loop-n-init : goal.loop-n-init
loop-n-init c = search (walk_init, entries_init)

pub first_in_entry-requires-clause-node_in : goal.first_in_entry-requires-clause-node_in
first_in_entry-requires-clause-node_in c = walk_node c.loop-n.invariant c.in-Some.ensures.steps

pub first_in_entry-requires-clause-n_bound : goal.first_in_entry-requires-clause-n_bound
first_in_entry-requires-clause-n_bound c = entries_room c.loop-n.invariant c.in-Some.ensures.steps

pub returns-in-Some-first_in_entry : goal.returns-in-Some-first_in_entry
returns-in-Some-first_in_entry c = entries_no c.loop-n.invariant c.in-Some.ensures.steps c.first_in_entry.ensures c.in-Some-first_in_entry.is

pub values_width-requires : goal.values_width-requires
values_width-requires c = walk_node c.loop-n.invariant c.in-Some.ensures.steps

pub loop-n-preserved : goal.loop-n-preserved
loop-n-preserved c = entries_step c.loop-n.invariant c.in-Some.ensures.steps c.first_in_entry.ensures c.values_width.ensures c.in_default.is

pub returns : goal.returns
returns c = entries_exit c.loop-n.invariant c.in-None.ensures.steps.0
