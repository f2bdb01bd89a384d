-- The lowest bit is the first member that is left, and the set with it turned has the others.
-- Rests on the laws of the members in turn.
use native.Mathlib.Omega.{arith}
use mathlib.Core.Path.{ap}
use lib.ListN.{length}
use Rattle.numbers.specs.Members.{members_left}
use Rattle.numbers.proofs.InTurn.{no_members, lowest_first}
use Rattle.numbers.proofs.MembersLeftIterator.next.Goals as goal

pub returns-then-self-eq0-clause-steps : goal.returns-then-self-eq0-clause-steps
unfolding members_left
returns-then-self-eq0-clause-steps c = (no_members c.if-self-eq0.true, no_members c.if-self-eq0.true)

pub returns-clause-steps : goal.returns-clause-steps
unfolding members_left
returns-clause-steps c = lowest_first c.lowest-n.ensures c.flip-self.ensures

pub returns-clause-goes : goal.returns-clause-goes
unfolding members_left
returns-clause-goes c =
    record { on = λ _. (tt, tt, omega (arith, ap length (lowest_first c.lowest-n.ensures c.flip-self.ensures))); keeps = tt; rests = λ _. tt }
