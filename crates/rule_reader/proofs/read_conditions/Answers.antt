-- What is left to read from here equals the whole.
-- Rests on conditions_more.
use Rattle.std.proofs.Common.{arith}
use Rattle.rule_reader.proofs.Reader.{conditions_more}
use Rattle.rule_reader.proofs.read_conditions.Goals as goal

pub loop-k-preserved : goal.loop-k-preserved
loop-k-preserved c = conditions_more _ _ _ _ _ c.loop-k.invariant (omega arith) c.variable_count-k-end.ensures c.variable.ensures c.in_ok-at.ensures
