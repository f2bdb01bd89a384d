-- The reconciler's call, its answer exported.
-- Rests on called, and on reconciles-seen for the demands.
use Rattle.exports.proofs.Called.{called}
use Rattle.exports.proofs.Demands.{reconciles-seen}
use Rattle.exports.proofs.neulenta_reconcile.Goals as goal

pub returns-clause-called : goal.returns-clause-called
returns-clause-called c = search called

pub returns-clause-reconciles : goal.returns-clause-reconciles
returns-clause-reconciles c = search reconciles-seen
