-- Up to eight successors are read, under kind 0 at least one.
-- Rests on the definitions of a field and of the links.
use Rattle.std.proofs.Common.{rules}
use Rattle.fields.specs.Reading.{part, field}
use Rattle.schema.specs.Schema.{links}
use Rattle.schema.proofs.read_links.Goals as goal

pub returns : goal.returns
unfolding links field part
returns c = search rules
