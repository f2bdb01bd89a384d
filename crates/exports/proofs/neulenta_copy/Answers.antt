-- The copying of instances, its answer exported.
-- Rests on called, and on copies-seen for the demands.
use Rattle.exports.proofs.Called.{called}
use Rattle.exports.proofs.Demands.{copies-seen}
use Rattle.exports.proofs.neulenta_copy.Goals as goal

pub returns-clause-called : goal.returns-clause-called
returns-clause-called c = search called

pub returns-clause-copies : goal.returns-clause-copies
returns-clause-copies c = search copies-seen
