-- The console sheet, its answer exported.
-- Rests on called, and on sheets-seen for the demands.
use Rattle.exports.proofs.Called.{called}
use Rattle.exports.proofs.Demands.{sheets-seen}
use Rattle.exports.proofs.neulenta_sheet.Goals as goal

pub returns-clause-called : goal.returns-clause-called
returns-clause-called c = search called

pub returns-clause-sheets : goal.returns-clause-sheets
returns-clause-sheets c = search sheets-seen
