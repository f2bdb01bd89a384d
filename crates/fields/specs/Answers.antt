-- What the code's answers say of what was read, and 01's answer.
use Rattle.std.specs.Prelude.{ℕ, Result, Ok, Err}
use Rattle.fields.specs.Reading.{Got, got, bad}
use Rattle.fields.specs.declared.Fault.{Fault}
use Rattle.fields.specs.declared.Fault.TheVariants.{Mark, Cut, NodeCount, Links, Successor, Variable, Remainder, PolicyCount, Days, Node, Mask, Pass, NoInstance, Buffer, Entry, Choice, Value, Forbidden}
use Rattle.fields.specs.declared.File.{File}
use Rattle.fields.specs.declared.File.TheVariants.{NoFile, Schema, Policies, Pass as PassFile, Instance, SecondInstance}
use Rattle.fields.specs.declared.Breach.{Breach}
use Rattle.fields.specs.declared.Refusal.{Refusal}

-- 01's number of each fault
abbrev pub number : Fault → ℕ
number Mark = 1
number Cut = 2
number NodeCount = 3
number Links = 4
number Successor = 5
number Variable = 6
number Remainder = 7
number PolicyCount = 8
number Days = 9
number Node = 10
number Mask = 11
number Pass = 12
number NoInstance = 13
number Buffer = 14
number Entry = 15
number Choice = 16
number Value = 17
number Forbidden = 18

-- 'files: 1 schema, 2 policies, 3 pass, 4 instance (or the first of two), 5 second instance, 0 no file'
abbrev pub file_number : File → ℕ
file_number NoFile = 0
file_number Schema = 1
file_number Policies = 2
file_number PassFile = 3
file_number Instance = 4
file_number SecondInstance = 5

-- a value and the position after it, or a breach
abbrev pub as_got : {A : Type 0} → Result (A × ℕ) Breach → Got A
as_got (Ok r) = got r.0 r.1
as_got (Err b) = bad (number b.fault) b.offset

-- the same of a field's number, by its code
abbrev pub as_field : {A : Type 0} → (A → ℕ) → Result (A × ℕ) Breach → Got ℕ
as_field code (Ok r) = got (code r.0) r.1
as_field code (Err b) = bad (number b.fault) b.offset

-- the same of a reader whose values nobody asks for
abbrev pub as_end : Result ℕ Breach → Got Unit
as_end (Ok p) = got tt p
as_end (Err b) = bad (number b.fault) b.offset

-- and of a check, which reads nothing
abbrev pub as_check : Result Unit Breach → Got Unit
as_check (Ok u) = got tt 0
as_check (Err b) = bad (number b.fault) b.offset

abbrev pub end_of : {A : Type 0} → Got A → Got Unit
end_of (got a p) = got tt p
end_of (bad n o) = bad n o

-- 'an answer holds a number, file and offset, all three 0 on success', and what the call adds
pub record Answer : Type 0 where
  pub number : ℕ
  pub file : ℕ
  pub offset : ℕ
  pub value : ℕ

abbrev pub success : ℕ → Answer
success v = record { number = 0; file = 0; offset = 0; value = v }

-- 'after a refusal its other parts, the length among them, are 0 or no'
abbrev pub refusal : ℕ → ℕ → ℕ → Answer
refusal n file o = record { number = n; file = file; offset = o; value = 0 }

-- what a call that adds a value answers
abbrev pub answer_of : {V : Type 0} → (V → ℕ) → Result V Refusal → Answer
answer_of value (Ok v) = success (value v)
answer_of value (Err r) = refusal (number r.fault) (file_number r.file) r.offset

-- a file's reading, then what follows it: 'calls check in that order'; refuse is the call's refusal with a number, file and offset
unfoldable pub judged : {A B : Type 0} → (ℕ → ℕ → ℕ → B) → ℕ → Got A → (A → B) → B
judged refuse file (got a p) k = k a
judged refuse file (bad n o) k = refuse n file o
