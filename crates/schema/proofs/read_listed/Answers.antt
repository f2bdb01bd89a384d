-- A size from 1 to 32 is read.
-- Rests on the definitions of a field and of a listed variable.
use Rattle.std.proofs.Common.{rules}
use Rattle.fields.specs.Reading.{part, field}
use Rattle.schema.specs.Schema.{listed}
use Rattle.schema.proofs.read_listed.Goals as goal

pub returns : goal.returns
unfolding listed field part
returns c = search rules
