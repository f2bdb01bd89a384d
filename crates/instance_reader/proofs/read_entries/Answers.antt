-- The entries that were read tell which nodes are due: a breach in one refuses them, and so does a node that is left.
-- Rests on the laws of `Going`, in Reader.
use Rattle.std.proofs.Common.{rules}
use mathlib.Core.Path.{◌∙◌}
use Rattle.instance_reader.proofs.Reader.{going_bad, going_step, going_exit, going_due}
use Rattle.instance_reader.proofs.read_entries.Goals as goal

pub returns-in_err-visit : goal.returns-in_err-visit
returns-in_err-visit c = (search rules) ∙ going_bad _ _ _ _ _ _ _ _ _ c.loop-turn.invariant c.loop-turn-test.true c.in_err-visit.ensures

pub loop-turn-preserved : goal.loop-turn-preserved
loop-turn-preserved c = going_step _ _ _ _ _ _ _ _ _ c.loop-turn.invariant c.loop-turn-test.true c.args.schema.now.accepted c.args.schema.now.bytes_fit c.in_ok-visit.ensures c.with-nodes.ensures (search rules)

pub returns-then-due-eq0 : goal.returns-then-due-eq0
returns-then-due-eq0 c = search going_exit

pub returns : goal.returns
returns c = rw c.new.ensures (going_due _ _ _ _ _ _ _ _ _ c.loop-turn.invariant c.loop-turn-test.false c.if-due-eq0.false)
