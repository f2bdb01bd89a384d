-- A listed variable is put as its parts say.
-- Rests on the definitions of these parts alone.
use Rattle.fields.specs.Shorts.{short}
use Rattle.schema.specs.Layout.{span, spare_of}
use Rattle.schema.specs.Table.{mask_count}
use Rattle.schema.proofs.put_variable.Goals as goal

pub returns-in-Listed-clause-written : goal.returns-in-Listed-clause-written
unfolding short spare_of mask_count
returns-in-Listed-clause-written c = rw (c.in-Listed.is, c.saturating_sub.ensures)

pub returns-in-Listed-clause-after : goal.returns-in-Listed-clause-after
unfolding span
returns-in-Listed-clause-after c = rw c.in-Listed.is
