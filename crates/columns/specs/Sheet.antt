-- The console sheet, as ASCII codes (02/1: 'one line for each entry, 54 bytes and a line feed').
use Rattle.std.specs.Prelude.{ℕ, zero, suc, ◌+◌, ◌-◌, List, [], ◌∷◌, ◌++◌, cond, eqb, ℤ, pos, negsuc, length, replicate}
use Rattle.decimals.specs.Decimal.{decimal}
use Rattle.instances.specs.Instance.{Entry}

-- so many spaces
abbrev pub spaces : ℕ → List ℕ
spaces k = replicate k 32

-- 'right-aligned in' w columns
unfoldable pub right_aligned : ℕ → List ℕ → List ℕ
right_aligned w text = spaces (w - length text) ++ text

-- a value: in decimal, a minus sign straight before the digits of a negative one
unfoldable pub signed_decimal : ℤ → List ℕ
signed_decimal (pos x) = decimal x
signed_decimal (negsuc x) = 45 ∷ decimal (x + 1)

-- 'choice likewise in 3 or ---', for 255
unfoldable pub choice_column : ℕ → List ℕ
choice_column c = cond (eqb c 255) (45 ∷ 45 ∷ 45 ∷ []) (right_aligned 3 (decimal c))

-- k times 'a space and a value right-aligned in 11, blank where the node has fewer variables'
unfoldable pub value_columns : ℕ → List ℤ → List ℕ
value_columns zero xs = []
value_columns (suc k) [] = spaces 12 ++ value_columns k []
value_columns (suc k) (x ∷ xs) = spaces 1 ++ right_aligned 11 (signed_decimal x) ++ value_columns k xs

-- 'node right-aligned in 2, a space, choice likewise in 3 or ---, then four times a space and a value', 'and a line feed'
unfoldable pub sheet_line : Entry → List ℕ
sheet_line e = right_aligned 2 (decimal e.node) ++ spaces 1 ++ choice_column e.choice ++ value_columns 4 e.values ++ (10 ∷ [])

-- 'one line for each entry'
unfoldable pub sheet : List Entry → List ℕ
sheet [] = []
sheet (e ∷ es) = sheet_line e ++ sheet es

-- the bytes of a line
abbrev pub line_bytes : ℕ
line_bytes = 55
