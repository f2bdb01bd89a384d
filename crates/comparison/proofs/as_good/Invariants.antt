-- From node n up the flags of the reached nodes are right, whatever instances have these choices.
-- Rests on the record Flagging.
use Rattle.comparison.proofs.Flagging.{Flagging}
use Rattle.comparison.proofs.as_good.Given as goal

abbrev pub invariant-loop-n : goal.invariant-loop-n
invariant-loop-n l = Flagging l.policies.schema.bytes.now l.policies.bytes.now l.policies.rows.now l.first l.second l.flags l.n
