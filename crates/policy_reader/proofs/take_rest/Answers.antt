-- What is left to read and to note from here equals the whole.
-- Rests on the laws of the loop over the PN of a policy.
use Rattle.std.proofs.Common.{◌≡◌, ◌∙◌, arith, rules}
use Rattle.fields.specs.Answers.{number}
use Rattle.fields.specs.Runs.{refused, outcome}
use Rattle.policy_reader.proofs.Rules.{rest_bad, rest_step, rest_room, rest_offset, rest_small, rest_exit}
use Rattle.policy_reader.proofs.take_rest.Goals as goal

pub returns-in_err-node : goal.returns-in_err-node
returns-in_err-node c =
    let b = c.in_err-node.field-0.0 in
    let e : outcome c.from_residual.result c.loop-turn.rows ≡ refused (number b.fault) b.offset = search rules in
    e ∙ rest_bad _ _ _ _ _ _ _ _ _ _ _ _ _ c.loop-turn.invariant (omega arith) c.in_err-node.ensures

pub overflow_add-head-in-loop-turn : goal.overflow_add-head-in-loop-turn
overflow_add-head-in-loop-turn c = omega (arith, rest_offset _ _ _ _ _ _ _ _ _ _ _ _ _ c.loop-turn.invariant (omega arith) c.in_ok-node.ensures)

pub note_if-requires : goal.note_if-requires
note_if-requires c = rest_room _ _ _ _ _ _ _ _ _ _ _ _ _ c.loop-turn.invariant (omega arith) c.in_ok-node.ensures c.requires.counted

pub overflow_add-row : goal.overflow_add-row
overflow_add-row c = omega (arith, rest_small _ _ _ _ _ _ _ _ _ _ _ _ _ c.loop-turn.invariant (omega arith) c.in_ok-node.ensures)

pub loop-turn-preserved : goal.loop-turn-preserved
loop-turn-preserved c = rest_step _ _ _ _ _ _ _ _ _ _ _ _ _ c.loop-turn.invariant (omega arith) c.in_ok-node.ensures c.note_if.ensures

pub returns : goal.returns
returns c = search rest_exit
