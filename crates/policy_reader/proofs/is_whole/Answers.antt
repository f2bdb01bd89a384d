-- Each return is one of the two tests.
-- Rests on the laws of the tests of a PN.
use Rattle.policy_reader.proofs.Body.{whole-short, whole-marked}
use Rattle.policy_reader.proofs.is_whole.Goals as goal

pub returns-then-b-at : goal.returns-then-b-at
returns-then-b-at c = search whole-short

pub returns : goal.returns
returns c = search whole-marked
