-- The entries to come are of the nodes that are left; with them put from here, and the head before them, the buffer is what it shall be.
-- Rests on the walk over a plan's entries, and on the laws of its entries, in Writer.
use Rattle.std.proofs.Common.{rules}
use Rattle.instances.proofs.Walk.{walk_init, walk_node}
use Rattle.writer.proofs.Writer.{entries_init, entries_room, entries_few, entries_step, head_room, file_wrote}
use Rattle.writer.proofs.write_planned.Goals as goal

pub loop-n-init : goal.loop-n-init
loop-n-init c = search (walk_init, entries_init)

pub put_entry-at-requires-clause-node_in : goal.put_entry-at-requires-clause-node_in
put_entry-at-requires-clause-node_in c = walk_node c.loop-n.invariant c.in-Some.ensures.steps

pub put_entry-at-requires-clause-n_in_bounds : goal.put_entry-at-requires-clause-n_in_bounds
put_entry-at-requires-clause-n_in_bounds c = entries_room c.loop-n.invariant c.requires.file_in_bounds c.in-Some.ensures.steps

pub overflow_add-count : goal.overflow_add-count
overflow_add-count c = search entries_few

pub loop-n-preserved : goal.loop-n-preserved
loop-n-preserved c = entries_step c.loop-n.invariant c.requires.file_in_bounds c.in-Some.ensures.steps c.put_entry-at.ensures (search rules)

pub put_mark-requires : goal.put_mark-requires
put_mark-requires c = search (head_room, rules)

pub put-requires : goal.put-requires
put-requires c = search (head_room, rules)

pub returns : goal.returns
returns c = file_wrote c.loop-n.invariant c.requires.file_in_bounds c.in-None.ensures.steps.0 c.put_mark.ensures c.put.ensures
