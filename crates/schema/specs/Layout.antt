-- The bytes of a PN after its node, as the schema fixes them (01, 'Policies').
use Rattle.std.specs.Prelude.{ℕ, zero, suc, ◌+◌, ◌-◌, List, [], ◌∷◌, cond, length, eqb}
use Rattle.schema.specs.Schema.{Node, is_number}
use Rattle.schema.specs.declared.Variable.{Variable}
use Rattle.schema.specs.declared.Variable.TheVariants.{Number, Listed}

-- 'for a kind 1 node follows one rank u8 for each successor'
unfoldable pub rank_count : Node → ℕ
rank_count x = cond (eqb x.kind 1) (length x.successors) 0

-- 'for each variable follows its condition: for a number, lo and hi i32; for a listed one, a mask u32'
abbrev pub range_width : ℕ
range_width = 8

abbrev pub mask_width : ℕ
mask_width = 4

-- the bytes of a variable's condition, and of the conditions before the k-th
unfoldable pub span : Variable → ℕ
span (Number lo hi) = range_width
span (Listed size) = mask_width

unfoldable pub spans : ℕ → List Variable → ℕ
spans zero vs = 0
spans (suc k) [] = 0
spans (suc k) (v ∷ vs) = span v + spans k vs

-- where condition k stands in a node's PN, counted from the ranks
unfoldable pub offset_of : Node → ℕ → ℕ
offset_of x k = rank_count x + spans k x.variables

-- the bytes of a PN: mark, node, ranks and conditions
unfoldable pub rule_length : Node → ℕ
rule_length x = 3 + offset_of x (length x.variables)

-- ---- its masks, which the reader of policies looks at: how many there are

unfoldable pub masks_of : List Variable → ℕ
masks_of [] = 0
masks_of (Number lo hi ∷ vs) = masks_of vs
masks_of (Listed size ∷ vs) = masks_of vs + 1

-- where each variable's mask stands, where the conditions begin at w; 0 for a number
unfoldable pub skips_of : ℕ → List Variable → List ℕ
skips_of w [] = []
skips_of w (v ∷ vs) = cond (is_number v) 0 w ∷ skips_of (w + span v) vs

-- how many bits a mask has above the values of its variable; 0 for a number
unfoldable pub spare_of : Variable → ℕ
spare_of (Number lo hi) = 0
spare_of (Listed size) = 32 - size
