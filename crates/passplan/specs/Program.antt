-- What passplan's code puts into its buffer: the lines of 01's program (calls/specs/Program), and whether the run ends.
use Rattle.std.specs.Prelude.{ℕ, ◌*◌, ◌≡◌, ◌≤◌, Bool, true, false, List, length, take}
use Rattle.std.specs.declared.ops.ControlFlow.{ControlFlow}
use Rattle.std.specs.declared.ops.ControlFlow.TheVariants.{Continue, Break}
use Rattle.lines.specs.Record.{pass_at}
use Rattle.lines.specs.Line.{Laid}
use Rattle.calls.specs.Program.{line_for, ends, lines_at, last_at}

-- a line has at most so many bytes: two for each of an instance's, and 64 more
abbrev pub most_line : ℕ
most_line = 2630

-- the records that are read at once
abbrev pub most_records : ℕ
most_records = 24

-- where lines end, and whether the run ends there too
abbrev pub end_in : ControlFlow ℕ ℕ → ℕ
end_in (Continue e) = e
end_in (Break e) = e

abbrev pub is_last : ControlFlow ℕ ℕ → Bool
is_last (Continue e) = false
is_last (Break e) = true

-- the line of the record at a place is put
pub record Answered (f p : List ℕ) (from : ℕ) (s : List ℕ) (at : ℕ) (b : List ℕ) (to : ℕ) (after : List ℕ) (r : ControlFlow ℕ ℕ) : Type 0 where
  pub laid : Laid most_line b to (line_for f p from (pass_at s at)) after (end_in r)
  pub last : is_last r ≡ ends (pass_at s at)

-- the lines of s are put at the start of the buffer
pub record Printed (f p : List ℕ) (from : ℕ) (s b after : List ℕ) (r : ControlFlow ℕ ℕ) : Type 0 where
  pub laid : Laid (most_line * most_records) b 0 (lines_at f p from s most_records 0) after (end_in r)
  pub last : is_last r ≡ last_at s most_records 0

-- so many bytes at the start of a buffer
abbrev pub IsPrefixLen : ℕ → List ℕ → Type 0
IsPrefixLen n b = (n ≤ length b) × (n ≡ length (take n b))
