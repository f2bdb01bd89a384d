-- A breach before the nodes refuses the file; else the nodes decide.
-- Rests on the laws of the file, in Fill.
use Rattle.std.proofs.Common.{arith, rules}
use Rattle.fields.specs.Reading.{part, field}
use Rattle.fields.specs.Answers.{number}
use Rattle.schema.specs.Schema.{schema}
use Rattle.schema.proofs.Fill.{schema_bad, schema_ok}
use Rattle.schema.proofs.read_schema.Goals as goal

pub returns-in_err-at : goal.returns-in_err-at
unfolding schema part field
returns-in_err-at c = let b = c.in_err-at.field-0.0 in schema_bad _ _ {n = number b.fault} {o = b.offset} (search rules) (search rules)

pub returns-in_err-count : goal.returns-in_err-count
unfolding schema part field
returns-in_err-count c = let b = c.in_err-count.field-0.0 in schema_bad _ _ {n = number b.fault} {o = b.offset} (search rules) (search rules)

pub returns-then-count-eq0 : goal.returns-then-count-eq0
unfolding schema part field
returns-then-count-eq0 c = let b = c.new.result in schema_bad _ _ {n = number b.fault} {o = b.offset} (search rules) (search rules)

pub returns : goal.returns
returns c = schema_ok _ _ c.requires c.in_ok-at.ensures c.in_ok-count.ensures _ _ (omega arith) (omega arith) c.read_body.ensures
