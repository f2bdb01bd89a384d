-- Each return is one way that a turn can go: what is left makes what all would have.
-- Rests on the laws of a turn.
use Rattle.std.proofs.Common.{arith, rules}
use Rattle.policy_reader.proofs.File.{turn_end, turn_eight, turn_open, turn_points, turn_bad, turn_more, turn_inside}
use Rattle.policy_reader.proofs.turn_at.Goals as goal

pub returns-then-p-at : goal.returns-then-p-at
returns-then-p-at c = search turn_end

pub returns-then-j-eq-MOST_POLICIES : goal.returns-then-j-eq-MOST_POLICIES
returns-then-j-eq-MOST_POLICIES c = rw c.new.ensures (turn_eight _ _ _ _ _ _ _ c.requires c.if-p-at.false c.if-j-eq-MOST_POLICIES.true)

pub read_policy-requires-clause-fact : goal.read_policy-requires-clause-fact
read_policy-requires-clause-fact c = search turn_open

pub overflow_add-result : goal.overflow_add-result
overflow_add-result c = omega (arith, turn_inside _ _ _ _ _ _ _ c.requires c.if-p-at.false c.if-j-eq-MOST_POLICIES.false c.read_policy.new.rows c.in-Ok.ensures)

pub overflow_add-at : goal.overflow_add-at
overflow_add-at c = omega (arith, turn_points _ _ _ _ _ _ _ c.requires c.if-p-at.false c.if-j-eq-MOST_POLICIES.false c.in-Err.ensures)

pub returns-in-Ok : goal.returns-in-Ok
returns-in-Ok c = turn_more _ _ _ _ _ _ _ c.requires c.if-p-at.false c.if-j-eq-MOST_POLICIES.false _ c.in-Ok.ensures

pub returns-in-Err : goal.returns-in-Err
returns-in-Err c = search (rules, turn_bad)
