-- Lines of the sheet written out as text, with the entries that they say, and lines that say nothing.
-- Rests on computing the definitions.
use mathlib.Core.Path.{◌≡◌, refl}
use mathlib.Core.List.{List, [], ◌∷◌, ◌++◌}
use mathlib.Core.Option.{none, some, bind, or_else}
use Prim.Native.Nat.{ℕ}
use Prim.Native.String.{String}
use lib.IntN.{ℤ, pos, negsuc}
use lib.ListN.{length, replicate}
use Rattle.decimals.specs.Decimal.{digits, decimal}
use Rattle.decimals.proofs.ReadBack.{number_from, number_of, is_digit, every}
use Rattle.decimals.proofs.Texts.{codes}
use Rattle.schema.specs.Schema.{Node}
use Rattle.schema.specs.declared.Variable.TheVariants.{Listed}
use Rattle.instances.specs.Instance.{Entry}
use Rattle.columns.specs.Sheet.{right_aligned, signed_decimal, choice_column, value_columns, sheet_line, sheet}
use Rattle.columns.proofs.ReadBack.{natural_read, below_zero, literal, integer_read, choice_read, unpadded, aligned, values_read, at_end, line_read, lines_read, sheet_read}

abbrev node : ℕ → Node
node m = record { kind = 1; successors = []; variables = replicate m (Listed 1) }

-- node 7 has one variable, node 63 has four, the others have none
abbrev schema : List Node
schema = replicate 7 (node 0) ++ (node 1 ∷ []) ++ replicate 55 (node 0) ++ (node 4 ∷ [])

abbrev entry : ℕ → ℕ → List ℤ → Entry
entry n c xs = record { node = n; choice = c; values = xs }

abbrev bare : Entry
bare = entry 0 0 []

abbrev single : Entry
single = entry 7 10 (negsuc 4 ∷ [])

abbrev full : Entry
full = entry 63 255 (negsuc 2147483647 ∷ pos 2147483647 ∷ pos 0 ∷ negsuc 0 ∷ [])

-- the line of an entry, which reads back to it
abbrev Line : Entry → String → Type 0
Line e text = (sheet_line e ≡ codes text) × (line_read schema (codes text) ≡ some e)

-- the same of a sheet
abbrev Sheet : List Entry → List ℕ → Type 0
Sheet i text = (sheet i ≡ text) × (sheet_read schema text ≡ some i)

abbrev Nothing : String → Type 0
Nothing text = line_read schema (codes text) ≡ none

pub record Cases : Type 0 where
  pub no_value : Line bare " 0   0                                                \n"
  pub one_value : Line single " 7  10          -5                                    \n"
  pub four-values : Line full "63 --- -2147483648  2147483647           0          -1\n"
  pub two-entries : Sheet (single ∷ full ∷ []) (codes " 7  10          -5                                    \n" ++ codes "63 --- -2147483648  2147483647           0          -1\n")
  pub two-entries-long : length (sheet (single ∷ full ∷ [])) ≡ 110
  pub no-line-feed : Nothing " 7  10          -5                                    "
  pub left-aligned : Nothing "7   10          -5                                    \n"
  pub sign-apart : Nothing " 7  10        -  5                                    \n"
  pub two-dashes : Nothing "63  -- -2147483648  2147483647           0          -1\n"
  pub value-too-many : Nothing " 0   0           5                                    \n"
  pub value-missing : Nothing " 7  10                                                \n"
  pub byte_more : Nothing " 7  10          -5                                     \n"
  pub zero-in-front : Nothing "07  10          -5                                    \n"
  pub minus-zero : Nothing " 7  10          -0                                    \n"
  pub digits-for-dashes : Nothing "63 255 -2147483648  2147483647           0          -1\n"
  pub byte_left : sheet_read schema (codes " 7  10          -5                                    \n ") ≡ none

pub cases : Cases
unfolding sheet sheet_line right_aligned signed_decimal choice_column value_columns decimal digits codes sheet_read lines_read line_read at_end values_read aligned unpadded choice_read integer_read literal below_zero natural_read number_of number_from is_digit every bind or_else
cases =
    record {
      no_value = (refl, refl);
      one_value = (refl, refl);
      four-values = (refl, refl);
      two-entries = (refl, refl);
      two-entries-long = refl;
      no-line-feed = refl;
      left-aligned = refl;
      sign-apart = refl;
      two-dashes = refl;
      value-too-many = refl;
      value-missing = refl;
      byte_more = refl;
      zero-in-front = refl;
      minus-zero = refl;
      digits-for-dashes = refl;
      byte_left = refl;
    }
