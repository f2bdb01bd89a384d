-- The checker's call, its answer exported.
-- Rests on told, and on checks-seen for the demands.
use Rattle.exports.proofs.Called.{told}
use Rattle.exports.proofs.Demands.{checks-seen}
use Rattle.exports.proofs.neulenta_check.Goals as goal

pub returns-clause-value : goal.returns-clause-value
returns-clause-value c = search told

pub returns-clause-checks : goal.returns-clause-checks
returns-clause-checks c = search checks-seen
