-- The records of passplan's input (01, 'The program': 'records PS: a u16, b u16').
use Rattle.std.specs.Prelude.{ℕ, List, [], ◌∷◌}
use Rattle.fields.specs.Reading.{Got, got, part, whole, mark}
use Rattle.lines.specs.declared.Days.{Days}

abbrev pub PS : List ℕ
PS = 0x50 ∷ 0x53 ∷ []

-- the record at p, its fields 'taken in turn'
unfoldable pub pass_at : List ℕ → ℕ → Got Days
pass_at s p =
    part (mark PS s p) λ _ p.
    part (whole 2 s p) λ a p.
    part (whole 2 s p) λ b p.
    got (record { a = a; b = b }) p
