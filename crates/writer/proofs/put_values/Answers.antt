-- With the values from variable k on put from here, the buffer is what it shall be.
-- Rests on what the schema's accessors answer.
use Rattle.writer.proofs.Writer.{values_step}
use Rattle.writer.proofs.put_values.Goals as goal

pub loop-k-preserved : goal.loop-k-preserved
loop-k-preserved c = search values_step
