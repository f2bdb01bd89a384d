-- What a reader did that fills tables as it reads.
use Rattle.std.specs.Prelude.{ℕ, Result, Ok, Err}
use Rattle.fields.specs.Reading.{Got, got, bad}
use Rattle.fields.specs.declared.Breach.{Breach}
use Rattle.fields.specs.Answers.{number}

-- the position after what was read and the tables, or a refusal, whatever the tables then hold
pub data Run (T : Type 0) : Type 0 where
  did : ℕ → T → Run T
  refused : ℕ → ℕ → Run T

abbrev pub outcome : {T : Type 0} → Result ℕ Breach → T → Run T
outcome (Ok q) t = did q t
outcome (Err b) t = refused (number b.fault) b.offset

-- the tables filled with what was read
abbrev pub run_of : {T A : Type 0} → (A → T → T) → Got A → T → Run T
run_of fill (got a q) t = did q (fill a t)
run_of fill (bad n o) t = refused n o
