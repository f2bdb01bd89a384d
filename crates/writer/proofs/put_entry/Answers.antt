-- Mark, node, choice and values, each from where the one before ended.
-- Rests on the laws of `put`.
use Rattle.writer.proofs.Writer.{entry_wrote, node_fits}
use Rattle.writer.proofs.put_entry.Goals as goal

pub overflow_cast-n : goal.overflow_cast-n
overflow_cast-n c = search node_fits

pub returns : goal.returns
returns c = search entry_wrote
