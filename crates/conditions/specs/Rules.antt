-- The conditions that stand in the PN of a node, each on its own stretch of the policies' file.
-- For the contracts of functions that no other crate calls.
use Rattle.std.specs.Prelude.{ℕ, ◌+◌, Bool, ◌&&◌, List, [], ◌∷◌, length, drop, eqb, ℤ}
use Rattle.std.proofs.Math.Option.{Option, none, some}
use Rattle.std.specs.declared.option.Option.{Option as Found}
use Rattle.std.specs.Prelude.{None, Some}
use Rattle.fields.specs.Reading.{be, signed}
use Rattle.schema.specs.Schema.{is_number}
use Rattle.schema.specs.declared.Variable.{Variable}
use Rattle.schema.specs.declared.Variable.TheVariants.{Number, Listed}
use Rattle.policies.specs.Policies.{Condition, range, mask}
use Rattle.instances.specs.File.{value_of}
use Rattle.model.specs.Satisfaction.{every}
use Rattle.model.specs.Reconciling.{both}

-- the condition that stands so far from the first rank, of the PN whose ranks begin at o: of a number or of a listed variable
unfoldable pub range_at : List ℕ → ℕ → ℕ → Condition
range_at p skip o = range (signed (be 4 (drop o p) skip)) (signed (be 4 (drop o p) (skip + 4)))

unfoldable pub mask_at : List ℕ → ℕ → ℕ → Condition
mask_at p skip o = mask (be 4 (drop o p) skip)

-- of a variable, by its type
unfoldable pub condition_in : List ℕ → ℕ → Variable → ℕ → Condition
condition_in p skip (Number lo hi) o = range_at p skip o
condition_in p skip (Listed size) o = mask_at p skip o

-- how many values a listed variable has
unfoldable pub size_of : Variable → ℕ
size_of (Number lo hi) = 0
size_of (Listed size) = size

-- the value that bits have, if there are any
unfoldable pub value_in : Variable → Found ℕ → Option ℤ
value_in v None = none
value_in v (Some u) = some (value_of v u)

-- what the conditions at these offsets leave of c
unfoldable pub narrowed_by : (ℕ → Condition) → List ℕ → Condition → Condition
narrowed_by f [] c = c
narrowed_by f (o ∷ os) c = narrowed_by f os (both c (f o))

-- four variables, all numbers
unfoldable pub four_numbers : List Variable → Bool
four_numbers vs = eqb (length vs) 4 && every is_number vs
