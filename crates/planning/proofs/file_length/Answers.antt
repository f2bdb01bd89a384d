-- The head's three bytes, and the entries.
-- Rests on file_sum.
use Rattle.planning.proofs.Measuring.{file_sum}
use Rattle.planning.proofs.file_length.Goals as goal

pub returns : goal.returns
returns c = search file_sum
