-- What the checker's functions tell of an instance that was read.
-- For the contracts of functions that no other crate calls.
use Rattle.std.specs.Prelude.{ℕ, [], Option as Answered, Some, None}
use Rattle.std.proofs.Math.Option.{Option, none, some}
use Rattle.instances.specs.Instance.{Entry}

-- the offset of the first field that is forbidden, if there is one, as the code answers it
abbrev pub Found : Type 0
Found = Answered ℕ

abbrev pub forbidden_in : Option ℕ → Found
forbidden_in none = None
forbidden_in (some o) = Some o

-- an entry of node n with choice s, whatever its values
abbrev pub choosing : ℕ → ℕ → Entry
choosing n s = record { node = n; choice = s; values = [] }
