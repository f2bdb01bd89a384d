-- A line for each node: room for them, or 14.
-- Rests on the length of the sheet, in Delivery.
use Rattle.sheet.proofs.Delivery.{sheet_wrote}
use Rattle.sheet.proofs.deliver.Goals as goal

pub returns : goal.returns
returns c = search sheet_wrote
