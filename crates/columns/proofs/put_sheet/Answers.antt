-- With the lines of the entries to come put from here, the buffer is what it shall be.
-- Rests on the walk over a plan's entries.
use Rattle.std.proofs.Common.{rules}
use Rattle.instances.proofs.Walk.{walk_init, walk_node}
use Rattle.columns.proofs.Lines.{lines_init, lines_room, lines_step, lines_exit}
use Rattle.columns.proofs.put_sheet.Goals as goal

pub loop-n-init : goal.loop-n-init
loop-n-init c = search (walk_init, lines_init)

pub put_line-requires-clause-node_in : goal.put_line-requires-clause-node_in
put_line-requires-clause-node_in c = walk_node c.loop-n.invariant c.in-Some.ensures.steps

pub put_line-requires-clause-line_bytes_in_bounds : goal.put_line-requires-clause-line_bytes_in_bounds
put_line-requires-clause-line_bytes_in_bounds c = lines_room c.loop-n.invariant c.in-Some.ensures.steps

pub loop-n-preserved : goal.loop-n-preserved
loop-n-preserved c = lines_step c.loop-n.invariant c.in-Some.ensures.steps c.put_line.ensures (search rules)

pub returns : goal.returns
returns c = lines_exit c.loop-n.invariant c.in-None.ensures.steps.0
