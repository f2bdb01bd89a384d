-- Where the node is named the answer is the test of the masks.
-- Rests on the laws of the tests of a PN.
use Rattle.policy_reader.proofs.Body.{next-bare, next-masks}
use Rattle.policy_reader.proofs.is_next.Goals as goal

pub returns-then-layout-eq0 : goal.returns-then-layout-eq0
returns-then-layout-eq0 c = search next-bare

pub returns-then-from-n : goal.returns-then-from-n
returns-then-from-n c = search next-masks
