-- What is left to read and to store from here equals the whole.
-- Rests on the laws of the loop over a node's variables, in Laying.
use Rattle.std.proofs.Common.{arith}
use Rattle.schema.proofs.Laying.{variables_step, variables_exit}
use Rattle.schema.proofs.read_variables.Goals as goal

pub loop-j-preserved : goal.loop-j-preserved
loop-j-preserved c =
    variables_step _ _ _ _ _ _ _ _ _ c.loop-j.invariant c.in_ok-v.v (omega arith) c.in_ok-v.ensures c.put_variable-skip.ensures.written c.put_variable-skip.ensures.after

pub returns : goal.returns
returns c = variables_exit _ _ _ _ _ _ _ _ _ c.loop-j.invariant (omega arith) c.from-layout.ensures
