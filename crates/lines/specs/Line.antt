-- The lines that passplan prints, as ASCII codes (01, 'The program').
use Rattle.std.specs.Prelude.{ℕ, ◌+◌, ◌/◌, ◌%◌, ◌≤◌, cond, List, [], ◌∷◌, ◌++◌, ltb, eqb, Result, Ok, Err}
use Rattle.std.specs.Borrow.{Bor}
use Rattle.fields.specs.Answers.{number, file_number}
use Rattle.fields.specs.Writing.{Wrote}
use Rattle.fields.specs.declared.Refusal.{Refusal}
use Rattle.decimals.specs.Decimal.{decimal}

-- the digit of half a byte: 0 to 9, then a to f
unfoldable pub hex_digit : ℕ → ℕ
hex_digit n = cond (ltb n 10) (48 + n) (87 + n)

-- 'in lower-case hex': two digits a byte, the high half first
unfoldable pub hex : List ℕ → List ℕ
hex [] = []
hex (x ∷ xs) = hex_digit (x / 16) ∷ hex_digit (x % 16) ∷ hex xs

-- '-'
abbrev pub dash : List ℕ
dash = 45 ∷ []

-- 'parted by single spaces': a space stands after each word but the last
unfoldable pub words : List (List ℕ) → List ℕ
words [] = []
words (w ∷ ws) = w ++ (32 ∷ words ws)

-- words and the last one, 'ended by a line feed'
unfoldable pub line : List (List ℕ) → List ℕ → List ℕ
line ws last = words ws ++ last ++ (10 ∷ [])

-- 'the instance in lower-case hex, or - on refusal'; the number is 0 on success
unfoldable pub result_text : ℕ → List ℕ → List ℕ
result_text number instance = cond (eqb number 0) (hex instance) dash

-- 'a, b, number, file, offset in decimal and the instance'
unfoldable pub line_of : ℕ → ℕ → ℕ → ℕ → ℕ → List ℕ → List ℕ
line_of a b number file offset instance =
    line (decimal a ∷ decimal b ∷ decimal number ∷ decimal file ∷ decimal offset ∷ []) (result_text number instance)

-- 'a bad PS prints - for a and b, its 1 or 2, file 3, the failing field's offset from the start of the input, -'
unfoldable pub bad_line_of : ℕ → ℕ → List ℕ
bad_line_of number offset = line (dash ∷ dash ∷ decimal number ∷ decimal 3 ∷ decimal offset ∷ []) dash

-- what follows a and b in the line
unfoldable pub answer_text : ℕ → ℕ → ℕ → List ℕ → List ℕ
answer_text number file offset instance = words (decimal number ∷ decimal file ∷ decimal offset ∷ []) ++ result_text number instance

-- the instance that a call gave: none on refusal
abbrev pub instance_in : Result (Bor (List ℕ)) Refusal → List ℕ
instance_in (Ok i) = i.now
instance_in (Err r) = []

-- a text of number, file, offset and instance, from a call's answer: 'all three 0 on success'
abbrev pub said : (ℕ → ℕ → ℕ → List ℕ → List ℕ) → Result (Bor (List ℕ)) Refusal → List ℕ
said text (Ok i) = text 0 0 0 i.now
said text (Err r) = text (number r.fault) (file_number r.file) r.offset []

-- bs are put at a place, and are at most so many, so that a caller knows the room
pub record Laid (most : ℕ) (b : List ℕ) (at : ℕ) (bs after : List ℕ) (r : ℕ) : Type 0 where
  pub wrote : Wrote b at bs after r
  pub short : r ≤ at + most
