-- The answer as C has it: the same number, file, offset and value, in wider fields.
use Rattle.fields.specs.Answers.{Answer}
use Rattle.exports.specs.declared.Exported.{Exported}

abbrev pub exported : Answer → Exported
exported r = record { number = r.number; file = r.file; offset = r.offset; value = r.value }

-- and back
abbrev pub answer_in : Exported → Answer
answer_in r = record { number = r.number; file = r.file; offset = r.offset; value = r.value }
