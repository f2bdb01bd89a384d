-- The comparison's call, its answer exported.
-- Rests on told, and on compares-seen for the demands.
use Rattle.exports.proofs.Called.{told}
use Rattle.exports.proofs.Demands.{compares-seen}
use Rattle.exports.proofs.neulenta_compare.Goals as goal

pub returns-clause-value : goal.returns-clause-value
returns-clause-value c = search told

pub returns-clause-compares : goal.returns-clause-compares
returns-clause-compares c = search compares-seen
