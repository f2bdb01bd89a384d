-- Bounds in order are read.
-- Rests on the definitions of a field and of a number.
use Rattle.std.proofs.Common.{rules}
use Rattle.fields.specs.Reading.{part, field}
use Rattle.schema.specs.Schema.{number}
use Rattle.schema.proofs.read_number.Goals as goal

pub returns-then-lo-hi : goal.returns-then-lo-hi
unfolding number field part
returns-then-lo-hi c = search rules
