-- What passplan prints (01, 'The program').
use Rattle.std.specs.Prelude.{ℕ, zero, suc, ◌+◌, Bool, true, false, cond, List, [], ◌++◌, length, take, replicate, ltb}
use Rattle.fields.specs.Reading.{Got, got, bad}
use Rattle.fields.specs.Outcomes.{Outcome}
use Rattle.lines.specs.Record.{pass_at}
use Rattle.lines.specs.declared.Days.{Days}
use Rattle.lines.specs.Line.{line_of, bad_line_of}
use Rattle.instances.specs.File.{most_bytes}
use Rattle.calls.specs.Calls.{reconciling}

-- the line of a pass: the answer, and the instance that the buffer begins with
unfoldable pub line_in : ℕ → ℕ → Outcome → List ℕ
line_in a b o = line_of a b o.answer.number o.answer.file o.answer.offset (take o.answer.value o.buffer)

-- 'for each it reconciles into 1,283 bytes', with schema file f and policies file p
unfoldable pub pass_line : List ℕ → List ℕ → ℕ → ℕ → List ℕ
pass_line f p a b = line_in a b (reconciling f p a b (replicate most_bytes 0))

-- the line of a record, where s stands in the input from a place on:
-- a breach's offset is 'from the start of the input'
unfoldable pub line_for : List ℕ → List ℕ → ℕ → Got Days → List ℕ
line_for f p from (got x q) = pass_line f p x.a x.b
line_for f p from (bad n o) = bad_line_of n (from + o)

-- a bad PS 'ends the run'
unfoldable pub ends : Got Days → Bool
ends (got x q) = false
ends (bad n o) = true

-- the lines of the records of s from a place on, at most k, up to a bad one
unfoldable pub lines_at : List ℕ → List ℕ → ℕ → List ℕ → ℕ → ℕ → List ℕ
lines_at f p from s zero at = []
lines_at f p from s (suc k) at =
    cond (ltb at (length s))
    (line_for f p from (pass_at s at) ++ cond (ends (pass_at s at)) [] (lines_at f p from s k (at + 6)))
    []

-- whether the run ends with them
unfoldable pub last_at : List ℕ → ℕ → ℕ → Bool
last_at s zero at = false
last_at s (suc k) at = cond (ltb at (length s)) (cond (ends (pass_at s at)) true (last_at s k (at + 6))) false
