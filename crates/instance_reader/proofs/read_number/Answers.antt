-- A value outside the bounds is refused.
-- Rests on the definitions.
use Rattle.std.proofs.Common.{rules}
use Rattle.fields.specs.Reading.{part, field}
use Rattle.instances.specs.File.{value, value_width, value_of}
use Rattle.instances.specs.Instance.{in_domain}
use Rattle.instance_reader.specs.Decoded.{bits_of}
use Rattle.instance_reader.proofs.read_number.Goals as goal

pub returns : goal.returns
unfolding part field value value_width value_of in_domain bits_of
returns c = search rules
